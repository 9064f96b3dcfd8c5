-- What a list of types knows of its groups in canonical form: it finds each, and no other.
use Rattle.std.specs.Prelude.{◌≡◌, ℕ, Bool, true, false, IsTrue, if◌then◌else◌, List, [], ◌∷◌, length, map, All, AllPairs, Contains, Option, Some, None, MatchOption, slice_get}
use Rattle.std.specs.BTreeMap.{BTreeMap, get}
use Rattle.std.specs.Ordering.{is_eq}
use Rattle.wasm_types.specs.declared.rec_group.RecGroup.{RecGroup}
use Rattle.wasm_types.specs.declared.sub_type.SubType.{SubType}
use Rattle.wasm_types.specs.contracts.rec_group.RecGroupOrd.TheImpl as order
use Rattle.wasm_types.specs.Entries.{Declared, declared_of, declared_types}
use Rattle.wasm_module_validator_type_storage.specs.ordered.Order.{IsPut}
use Rattle.wasm_module_validator_type_storage.specs.trees.Groups.{Group, group_at, group_numbers}
use Rattle.wasm_module_validator_type_storage.specs.trees.Formed.{IsMissing}
use Rattle.wasm_module_validator_type_list.specs.declared.ids.RecGroupId.{RecGroupId}
use Rattle.wasm_module_validator_type_list.specs.declared.known.Known.{Known}
use Rattle.wasm_module_validator_type_list.specs.Beside.{beside, Precedes}

-- a group as plain data: in canonical form, or not
abbrev pub group_in : Bool → RecGroup → Group
group_in canonical g = record { is_canonical = canonical; types = declared_types g }

-- ---- the map from groups to their numbers

abbrev pub Numbers : Type 0
Numbers = BTreeMap RecGroup RecGroupId

-- the number of a group
abbrev pub number_in : Numbers → RecGroup → Option RecGroupId
number_in m g = get order.ghosts.cmp m g

-- the group has the number, and all others what they had
abbrev pub Learns : Numbers → Numbers → RecGroup → RecGroupId → Type 0
Learns m n g id = (q : RecGroup) → number_in n q ≡ (if is_eq (order.ghosts.cmp g q) then Some id else number_in m q)

abbrev pub FindsTheSame : Numbers → Numbers → Type 0
FindsTheSame m n = (q : RecGroup) → number_in n q ≡ number_in m q

-- ---- types that are groups of their own, by their ids

-- the id is that of the only type of a group in canonical form, and what is stored under it is what the group says: it names
-- no place of the group
pub record IsAlone (groups : List Group) (types : List SubType) (n : ℕ) : Type 0 where
  pub number : ℕ
  pub kept : SubType
  pub home : slice_get (group_numbers groups) n ≡ Some number
  pub stored : slice_get types n ≡ Some kept
  pub group : group_at groups number ≡ Some (record { is_canonical = true; types = declared_of kept ∷ [] })

-- the id is one of these, and that of a type which alone declares what the group of these types does
pub record Declares (types : List SubType) (ids : List ℕ) (ds : List Declared) (n : ℕ) : Type 0 where
  pub kept : SubType
  pub among : Contains ids n
  pub stored : slice_get types n ≡ Some kept
  pub same : declared_of kept ∷ [] ≡ ds

-- none of them is
abbrev pub NoneDeclares : List SubType → List ℕ → List Declared → Type 0
NoneDeclares types ids ds = (n : ℕ) → Declares types ids ds n → ⊥

-- ---- both

-- the ids stand in the order of their types, and a group in canonical form is found where the list has it, and only there: by
-- the map, or by the id of its only type
pub record KnowsGroups (groups : List Group) (types : List SubType) (known : Known) : Type 0 where
  pub ordered : AllPairs (Precedes types) known.alone
  pub alone : All (IsAlone groups types) known.alone
  pub found : (g : RecGroup) → MatchOption (number_in known.numbers g)
      (NoneDeclares types known.alone (declared_types g) → IsMissing groups (group_in true g))
      (λ k. group_at groups k.0 ≡ Some (group_in true g))

-- a list that takes no more knows nothing
abbrev pub Knows : List Group → List SubType → Option Known → Type 0
Knows groups types None = Unit {0}
Knows groups types (Some known) = KnowsGroups groups types known

-- a group may be added: the ids stand in order, and in canonical form the group is not among them
abbrev pub CanLearn : Bool → List SubType → RecGroup → Option Known → Type 0
CanLearn canonical types g None = Unit {0}
CanLearn canonical types g (Some known) = AllPairs (Precedes types) known.alone
    × (IsTrue canonical → NoneDeclares types known.alone (declared_types g))

-- a group of the number `id`, whose types are stored so from the id `start` on, becomes known: by the id of its only type
-- where what is stored of it is what the group says, and else whole
pub data Gains (types stored : List SubType) (start : ℕ) (g : RecGroup) (id : RecGroupId) (m n : Known) : Type 0 where
  by_id : (ty : SubType) → stored ≡ ty ∷ [] → declared_types g ≡ declared_of ty ∷ [] → IsPut (beside types ty) start m.alone n.alone
      → FindsTheSame m.numbers n.numbers
      → Gains types stored start g id m n
  by_copy : (length stored ≡ 1 → declared_types g ≡ map declared_of stored → ⊥) → Learns m.numbers n.numbers g id → n.alone ≡ m.alone
      → Gains types stored start g id m n

-- the same groups are known: the ids are the same, and each group that is kept whole has the number that it had
abbrev pub StaysKnown : Option Known → Option Known → Type 0
StaysKnown None None = Unit {0}
StaysKnown None (Some n) = ⊥
StaysKnown (Some m) None = ⊥
StaysKnown (Some m) (Some n) = FindsTheSame m.numbers n.numbers × (n.alone ≡ m.alone)

-- the group becomes known where it is in canonical form and the list takes more
abbrev pub KnowsMore : Bool → List SubType → List SubType → ℕ → RecGroup → RecGroupId → Option Known → Option Known → Type 0
KnowsMore canonical types stored start g id None more = StaysKnown None more
KnowsMore canonical types stored start g id (Some m) None = ⊥
KnowsMore true types stored start g id (Some m) (Some n) = Gains types stored start g id m n
KnowsMore false types stored start g id (Some m) (Some n) = StaysKnown (Some m) (Some n)
