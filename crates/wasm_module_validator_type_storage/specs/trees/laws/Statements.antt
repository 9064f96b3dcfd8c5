-- Laws of lists of groups: what the functions of src/trees/laws.rt promise.
use Rattle.std.specs.Prelude.{◌≡◌, ◌↔◌, ℕ, ◌<◌, IsTrue, List, ◌∷◌, Some, get_or}
use Rattle.std.specs.Option.{option_map}
use Rattle.wasm_types.specs.trees.declared.index.CoreTypeId.{CoreTypeId}
use Rattle.wasm_types.specs.trees.declared.index.UnpackedIndex.{UnpackedIndex}
use Rattle.wasm_types.specs.trees.Types.{ValueOf, value_map, entry_map}
use Rattle.wasm_types.specs.trees.Each.{EachValue}
use Rattle.wasm_types.specs.trees.Trees.{opened}
use Rattle.wasm_types.specs.trees.Below.{supertype, DeclaredBelow, Below, value_is_shared, abstract_above, expanded}
use Rattle.wasm_types.specs.Entries.{Declared}
use Rattle.wasm_module_validator_type_storage.specs.trees.Groups.{Group, count, tree_of, tree_behind, group_at, declared_by_id}
use Rattle.wasm_module_validator_type_storage.specs.trees.Formed.{IsGroupFormed, IsMissing, IsFormed, AreCanonical, IsNewTree, KeepsTypes}
use Rattle.wasm_module_validator_type_storage.specs.trees.ByIds.{supertype_of, IdBelow, tree_named}
use Rattle.wasm_module_validator_type_storage.specs.trees.BelowIds.{IsIdBelow, ValueBelowById, value_is_shared_by_id, entry_by_id}
use Rattle.wasm_module_validator_type_storage.specs.trees.GroupIds.{Unfolds}

-- each id keeps its type as a group is added
abbrev pub TypesStay : Type 0
TypesStay = (g : Group) (earlier : List Group) → KeepsTypes earlier (g ∷ earlier)

-- where all groups are in canonical form, equal types have equal ids
abbrev pub EqualTypesHaveEqualIds : Type 0
EqualTypesHaveEqualIds = (groups : List Group) → IsFormed groups → AreCanonical groups
    → (i j : ℕ) → i < count groups → j < count groups → (tree_of groups i ≡ tree_of groups j) ↔ (i ≡ j)

-- and a group is missing exactly where its tree is
abbrev pub GroupsAreKnownByTrees : Type 0
GroupsAreKnownByTrees = (groups : List Group) → IsFormed groups → AreCanonical groups → (g : Group) → IsTrue g.is_canonical → IsGroupFormed (count groups) g
    → IsMissing groups g ↔ IsNewTree groups (tree_behind groups g)

-- a type, opened, is what it declares over ids, each replaced by its type
abbrev pub TypesOpen : Type 0
TypesOpen = (groups : List Group) → IsFormed groups → AreCanonical groups → (id : ℕ) (d : Declared) → id < count groups
    → opened (tree_of groups id) ≡ entry_map (tree_named groups) (get_or (declared_by_id groups) id d).entry

-- the supertype of a type is the type of its supertype's id
abbrev pub SupertypesAreIds : Type 0
SupertypesAreIds = (groups : List Group) → IsFormed groups → AreCanonical groups → (a : CoreTypeId) → a.0 < count groups
    → supertype (tree_of groups a.0) ≡ option_map (λ (b : CoreTypeId). tree_of groups b.0) (supertype_of groups a)

-- that id is lower, whatever form the groups have
abbrev pub SupertypesAreEarlier : Type 0
SupertypesAreEarlier = (groups : List Group) → IsFormed groups → (a b : CoreTypeId) → a.0 < count groups → supertype_of groups a ≡ Some b → b.0 < a.0

-- an id is below another exactly where its type is below the other's by declaration
abbrev pub IdsAreBelowAsTypes : Type 0
IdsAreBelowAsTypes = (groups : List Group) → IsFormed groups → AreCanonical groups → (a b : CoreTypeId) → a.0 < count groups → b.0 < count groups
    → IdBelow groups a b ↔ DeclaredBelow (tree_of groups a.0) (tree_of groups b.0)

-- a value type over ids is below another exactly where the value type over their types is
abbrev pub ValuesAreBelowAsTypes : Type 0
ValuesAreBelowAsTypes = (groups : List Group) → IsFormed groups → AreCanonical groups
    → (v w : ValueOf UnpackedIndex) → EachValue (IsIdBelow (count groups)) v → EachValue (IsIdBelow (count groups)) w
    → ValueBelowById groups v w ↔ Below (value_map (tree_named groups) v) (value_map (tree_named groups) w)

-- and it has the same sharedness
abbrev pub ValuesAreSharedAsTypes : Type 0
ValuesAreSharedAsTypes = (groups : List Group) → IsFormed groups → AreCanonical groups → (v : ValueOf UnpackedIndex) → EachValue (IsIdBelow (count groups)) v
    → value_is_shared_by_id groups v ≡ value_is_shared (value_map (tree_named groups) v)

-- and each type its constructor
abbrev pub ConstructorsAreOfTypes : Type 0
ConstructorsAreOfTypes = (groups : List Group) → IsFormed groups → AreCanonical groups → (i : CoreTypeId) → i.0 < count groups
    → abstract_above (expanded (tree_of groups i.0)) ≡ abstract_above (entry_by_id groups i).inner

-- the ids of the group of a number are known, one after the other, and each has a place of the group's tree
abbrev pub GroupIdsUnfold : Type 0
GroupIdsUnfold = (groups : List Group) → IsFormed groups → AreCanonical groups → (k : ℕ) (g : Group) → group_at groups k ≡ Some g → Unfolds groups k g
