-- A list of types: what a contract sees of it, and what each of its parts says of its groups.
use Rattle.std.specs.Prelude.{◌≡◌, ◌↔◌, ℕ, ◌+◌, ◌≤◌, ◌<◌, ◌^◌, Bool, true, false, IsTrue, List, [], ◌∷◌, length, map, reverse, Option, Some, None, if◌then◌else◌}
use Rattle.wasm_types.specs.settings.declared.Limits.{Limits}
use Rattle.wasm_types.specs.trees.declared.index.CoreTypeId.{CoreTypeId}
use Rattle.wasm_types.specs.fields.declared.func.FuncType.{FuncType}
use Rattle.wasm_types.specs.fields.Fields.{function_tree}
use Rattle.wasm_types.specs.Entries.{Declared, declared_of}
use Rattle.wasm_module_validator_type_storage.specs.trees.Groups.{Group, count, group_at, group_numbers, group_ranges, declared_by_id, supertype_ids}
use Rattle.wasm_module_validator_type_storage.specs.trees.Formed.{IsMissing, IsFormed}
use Rattle.wasm_module_validator_type_list.specs.declared.lists.Lists.{Lists}
use Rattle.wasm_module_validator_type_list.specs.Rolled.{rolled_groups, forms}
use Rattle.wasm_module_validator_type_list.specs.declared.known.Known.{Known}
use Rattle.wasm_module_validator_type_list.specs.Known.{Knows}
use Rattle.wasm_module_validator_type_list.specs.Depths.{HasPlaces}
use Rattle.wasm_module_validator_type_list.specs.Uniform.{AreUniform}
use Rattle.wasm_module_validator_type_list.specs.Lookups.{IsAtPlace}

-- the groups, the newest first, whether further ones may be added, the depths that were set, and the limits that hold
pub record Types : Type 0 where
  pub groups : List Group
  pub can_intern : Bool
  pub depths : List (Option ℕ)
  pub limits : Limits

-- the most types that a list has: each id fits the 20 bits of an index
abbrev pub max_types : ℕ
max_types = 0x10_0000

-- the groups that these lists store, the newest first
unfoldable pub groups_in : Lists → List Group
groups_in l = reverse (rolled_groups (map declared_of l.types.items) l.forms.items (map (λ r. (r.start.0, r.end.0)) l.elements.items))

-- the groups are formed, and each part says of them what it is there for
pub record IsTypeList (groups : List Group) (lists : Lists) (known : Option Known) : Type 0 where
  pub formed : IsFormed groups
  pub small : count groups ≤ max_types
  pub few : length groups ≤ 2 ^ 32
  pub forms : lists.forms.items ≡ forms groups
  pub types : map declared_of lists.types.items ≡ declared_by_id groups
  pub homes : map (λ n. n.0) lists.homes.items ≡ group_numbers groups
  pub supertypes : lists.supertypes.items ≡ supertype_ids groups
  pub elements : map (λ r. (r.start.0, r.end.0)) lists.elements.items ≡ group_ranges groups
  pub knows : Knows groups lists.types.items known
  pub depths : HasPlaces (count groups) known lists.depths.items
  pub uniform : AreUniform lists.types.items lists.supertypes.items lists.uniform.items

-- ---- interning

-- there is room for a group of n types: all ids stay within the 20 bits of an index, and the group has a number of 32 bits
pub record HasRoom (groups : List Group) (n : ℕ) : Type 0 where
  pub types : count groups + n ≤ max_types
  pub numbers : length groups < 2 ^ 32

-- a group is added: it is not in canonical form, or the list does not have it
abbrev pub IsAdded : List Group → Group → Type 0
IsAdded groups g = IsTrue g.is_canonical → IsMissing groups g

-- the group has the number k, under which the list had it, or it is added as the next
pub record Interns (old new : List Group) (g : Group) (is_new : Bool) (k : ℕ) : Type 0 where
  pub at : group_at new k ≡ Some g
  pub groups : new ≡ (if is_new then g ∷ old else old)
  pub new_exactly : IsTrue is_new ↔ IsAdded old g
  pub next : IsTrue is_new → k ≡ length old

-- a type as a group of its own
abbrev pub alone : Declared → Group
alone d = record { is_canonical = true; types = d ∷ [] }

-- such a group has a number, and the id is that of its only type
pub record InternsAlone (old new : List Group) (d : Declared) (id : CoreTypeId) : Type 0 where
  pub is_new : Bool
  pub number : ℕ
  pub interned : Interns old new (alone d) is_new number
  pub place : IsAtPlace new number 0 id

-- a function type as a subtype: final, not shared, without a supertype
abbrev pub function_alone : FuncType → Declared
function_alone f = record {
  supertypes = [];
  entry = record { is_final = true; supertype = None; shared = false; descriptor = None; describes = None; inner = function_tree f };
}
