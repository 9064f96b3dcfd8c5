-- What is asked of a module and the list that its types stand in, and what names of types stand for.
use Rattle.std.specs.Prelude.{◌≡◌, ℕ, ◌+◌, ◌<◌, ◌≤◌, ◌^◌, Bool, true, false, ◌&&◌, IsTrue, List, [], ◌∷◌, All, get_or, slice_get, Some}
use Rattle.wasm_types.specs.trees.declared.index.CoreTypeId.{CoreTypeId}
use Rattle.wasm_types.specs.trees.declared.index.UnpackedIndex.{UnpackedIndex}
use Rattle.wasm_types.specs.trees.declared.index.UnpackedIndex.TheVariants.{Id}
use Rattle.wasm_types.specs.settings.Features.{needs_canonical_types}
use Rattle.wasm_types.specs.trees.Types.{Abstract, func, struct, array, cont, nofunc, none, nocont, InnerOf, function, array_of, struct_of, continuation}
use Rattle.wasm_types.specs.trees.Trees.{TypeTree, group_tree, opened}
use Rattle.wasm_types.specs.trees.Below.{expanded, is_shared, abstract_above, DeclaredBelow}
use Rattle.wasm_types.specs.trees.AbstractOrder.{AbstractBelow}
use Rattle.wasm_types.specs.trees.ValidGroup.{IsFunction}
use Rattle.wasm_operator_validator_rules.specs.Context.{written_type}
use Rattle.wasm_operator_validator_resources.specs.Meaning.{Meaning, named_type}
use Rattle.wasm_module_validator_type_storage.specs.trees.Groups.{Group, count, tree_of, declared_by_id, group_numbers}
use Rattle.wasm_module_validator_type_storage.specs.trees.BelowIds.{undeclared}
use Rattle.wasm_module_validator_type_list.specs.Lookups.{HasIds}
use Rattle.wasm_module_validator_type_groups.specs.adding.Interned.{AreIdsKnown, IsChecked}
use Rattle.wasm_module_validator_index_spaces.specs.Spaces.{Spaces}
use Rattle.wasm_module_validator_resources.specs.Bare.{is_bare}
use Rattle.wasm_module_validator_resources.specs.Reading.{names_in, context_of}
use Rattle.wasm_module_validator_resources.specs.declared.named.Named.{Named}
use Rattle.wasm_module_validator_resources.specs.declared.named.Named.TheVariants.{Known, Unknown}

-- ---- a module and its list

-- the id of a function type of the list
abbrev pub IsFunctionId : List Group → CoreTypeId → Type 0
IsFunctionId groups i = (i.0 < count groups) × IsFunction (expanded (tree_of groups i.0))

-- the module was read over this list: each type of the list is valid, the types of the module are in it, and tags are functions
pub record IsReadOver (groups : List Group) (m : Spaces) : Type 0 where
  pub checked : IsChecked m.settings groups
  pub known : AreIdsKnown groups m.types
  pub tags : All (IsFunctionId groups) m.tags

-- ---- what of this a look-up goes by

-- two types are of one constructor, and shared alike
abbrev pub kind_number : {R : Type 0} → InnerOf R → ℕ
kind_number (function ps rs) = 0
kind_number (array_of x) = 1
kind_number (struct_of xs) = 2
kind_number (continuation f) = 3

abbrev pub IsOfOneKind : TypeTree → TypeTree → Type 0
IsOfOneKind t u = (is_shared t ≡ is_shared u) × (kind_number (expanded t) ≡ kind_number (expanded u))

-- all groups are in canonical form
abbrev pub are_canonical : List Group → Bool
are_canonical [] = true
are_canonical (g ∷ earlier) = g.is_canonical && are_canonical earlier

-- where the features ask for canonical forms all groups are in them, and else no type has references; each type is of the kind of
-- those that it is declared below
pub record IsSettled (bits : ℕ) (groups : List Group) : Type 0 where
  pub canonical : IsTrue (needs_canonical_types bits) → IsTrue (are_canonical groups)
  pub bare : needs_canonical_types bits ≡ false → (id : ℕ) → id < count groups → IsTrue (is_bare (opened (tree_of groups id)))
  pub alike : (id : ℕ) → id < count groups → (u : TypeTree) → DeclaredBelow (tree_of groups id) u → IsOfOneKind (tree_of groups id) u

-- the id of a type of the list that is a function type
abbrev pub IsFunctionKind : List Group → CoreTypeId → Type 0
IsFunctionKind groups i = (i.0 < count groups) × (kind_number (expanded (tree_of groups i.0)) ≡ 0)

pub record IsSettledIn (groups : List Group) (m : Spaces) : Type 0 where
  pub settled : IsSettled m.settings.features groups
  pub known : AreIdsKnown groups m.types
  pub tags : All (IsFunctionKind groups) m.tags

-- ---- names of types

-- what stands past the last type: a type of no group
abbrev pub nowhere : ℕ → TypeTree
nowhere n = record { group = group_tree []; place = n }

-- the type that is named
abbrev pub tree_meant : List Group → Named → TypeTree
tree_meant groups (Known i) = tree_of groups i.0
tree_meant groups (Unknown n) = nowhere n

-- it is an id of the list
abbrev pub IsInList : List Group → Named → Type 0
IsInList groups (Known i) = i.0 < count groups
IsInList groups (Unknown n) = Unit {0}

-- an index has this name
pub record IsNamedSo (groups : List Group) (m : Meaning) (i : UnpackedIndex) (n : Named) : Type 0 where
  pub meant : named_type m i ≡ tree_meant groups n
  pub known : IsInList groups n

-- the id of a type that the module writes by this index; it fits the 20 bits of a packed index
pub record IsIdOf (groups : List Group) (m : Spaces) (i : UnpackedIndex) (id : CoreTypeId) : Type 0 where
  pub means : named_type (names_in groups m.types) (Id id) ≡ written_type (context_of groups m) i
  pub known : id.0 < count groups
  pub fits : id.0 < 2 ^ 20

-- the bottom type below each abstract type of a constructor
abbrev pub bottom_under : Abstract → Abstract
bottom_under func = nofunc
bottom_under struct = none
bottom_under array = none
bottom_under cont = nocont
bottom_under a = a

-- ---- types that are stored

-- so many types from two ids on are stored alike
abbrev pub AreStoredAlike : List Group → ℕ → ℕ → ℕ → Type 0
AreStoredAlike groups first other n = (p : ℕ) → p < n
    → get_or (declared_by_id groups) (first + p) undeclared ≡ get_or (declared_by_id groups) (other + p) undeclared

-- the ids of the group of a type: from the first on, so many
pub record HasSpan (groups : List Group) (id first len : ℕ) : Type 0 where
  pub number : ℕ
  pub numbered : slice_get (group_numbers groups) id ≡ Some number
  pub ids : HasIds groups number first (first + len)
  pub begins : first ≤ id
  pub ends : id < first + len
  pub known : first + len ≤ count groups

-- ---- types beside abstract types, where each is of the kind of those that it is declared below

-- a type is of this sharedness, and of a constructor below the abstract type
abbrev pub IsUnderKind : TypeTree → Bool → Abstract → Type 0
IsUnderKind t s a = (is_shared t ≡ s) × AbstractBelow (abstract_above (expanded t)) a

-- an abstract type is the bottom type of a type's constructor, and it is of the same sharedness
abbrev pub IsOverKind : TypeTree → Bool → Abstract → Type 0
IsOverKind t s a = (s ≡ is_shared t) × (a ≡ bottom_under (abstract_above (expanded t)))
