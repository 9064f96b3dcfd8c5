-- The total of types: the most that a list has (WebAssembly 3.0, appendix, implementation limitations). It is of all modules of a validator
-- together, so the rules of one module know nothing of it. If types are kept in canonical form it counts different types: a list has each once.
-- A group that comes next counts whole, even if the list has it.
use Rattle.std.specs.Prelude.{◌≡◌, ◌+◌, ◌<◌, ◌≤◌, ℕ, List, length, Result, codes, Contains}
use Rattle.wasm_types.specs.decoding.Denials.{Tells}
use Rattle.wasm_types.specs.decoding.ErrorValue.{ErrorValue}
use Rattle.wasm_types.specs.decoding.declared.error.ErrorKind.TheVariants.{Other}
use Rattle.wasm_types.specs.trees.declared.index.CoreTypeId.{CoreTypeId}
use Rattle.wasm_types.specs.trees.Trees.{TypeTree}
use Rattle.wasm_types.specs.trees.ValidGroup.{Written}
use Rattle.wasm_module_validator_type_list.specs.List.{max_types}
use Rattle.wasm_module_validator_section_order.specs.items.Adding.{UnlessFull}
use Rattle.wasm_module_validator_type_storage.specs.trees.Groups.{Group, count, tree_of}
use Rattle.wasm_module_validator_type_groups.specs.adding.Interned.{space_of}
use Rattle.wasm_module_validator_type_groups.specs.composites.Composites.{WhereCanonical}
use Rattle.wasm_module_validator_state.specs.Items.{Items}
use Rattle.wasm_module_validator_state.specs.invariant.Standing.{IsGrown}

-- ---- what a list holds

-- no two ids of the list have the same type
abbrev pub HasEachOnce : List Group → Type 0
HasEachOnce groups = (i j : ℕ) → i < count groups → j < count groups → tree_of groups i ≡ tree_of groups j → i ≡ j

-- each type that the list has more than it had is one of these
abbrev pub TakesOf : List TypeTree → List Group → List Group → Type 0
TakesOf types old new = (id : ℕ) → count old ≤ id → id < count new → Contains types (tree_of new id)

-- ---- a group for which there is no room

-- a group, as it is written, has so many types
abbrev pub IsSizeOf : Written → ℕ → Type 0
IsSizeOf g n = n ≡ length g.types

-- after these types of a module, over the list of types, this group of so many comes next
abbrev pub HasGroupNext : List Group → Items → Written → List TypeTree → ℕ → Type 0
HasGroupNext groups s g before own = (before ≡ space_of groups s.spaces.types) × IsSizeOf g own

-- A group was refused since the types that the list held and its own are more than a list has. The list had these groups before, and the
-- module these types; since then the list took types of the module that come before the group and no others, and no more than there are;
-- and if types are kept in canonical form it held none twice. `Has` tells of the module whether after these types it has a group of so many.
pub record IsPastTotal (groups : List Group) (s : Items) (Has : List TypeTree → ℕ → Type 0) (e : ErrorValue) : Type 0 where
  pub kind : e.kind ≡ Other
  pub text : e.message ≡ codes "implementation limit: too many core types"
  pub held : List Group
  pub before : List TypeTree
  pub own : ℕ
  pub has : Has before own
  pub past : max_types < count held + own
  pub few : count held + length s.spaces.types ≤ count groups + length before
  pub within : length before + own ≤ s.spaces.settings.limits.types
  pub grown : IsGrown groups held
  pub had : (id : CoreTypeId) → Contains s.spaces.types id → Contains before (tree_of held id.0)
  pub taken : TakesOf before groups held
  pub once : WhereCanonical s.spaces.settings.features (HasEachOnce held)

-- a module that has one group, of so many types after these, and no other
abbrev pub OneGroup : List TypeTree → ℕ → List TypeTree → ℕ → Type 0
OneGroup b n before own = (before ≡ b) × (own ≡ n)

-- Ok exactly where the fact holds, unless memory ran out; or the total was passed.
abbrev pub TellsWithinTotal : {X : Type 0} → List Group → Items → (List TypeTree → ℕ → Type 0) → Result X ErrorValue → Type 0 → Type 0
TellsWithinTotal groups s Has result P = UnlessFull (IsPastTotal groups s Has) result (Tells result P)
