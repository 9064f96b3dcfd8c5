-- The groups of types that a list of types holds, and the tree that each id stands for (WebAssembly 3.0, validation, types,
-- rolling and unrolling).
--
-- A group is rolled up: it names its own types by their places, and types of other groups by their ids. The newest group
-- stands first. Ids count the types in the order in which the groups came. The tree of an id is what it unrolls to.
use Rattle.std.specs.Prelude.{ℕ, ◌+◌, nat_eq, if◌then◌else◌, Bool, List, [], ◌∷◌, ◌++◌, length, map, replicate, Option, Some, None}
use Rattle.std.specs.Option.{option_map}
use Rattle.wasm_types.specs.trees.declared.index.CoreTypeId.{CoreTypeId}
use Rattle.wasm_types.specs.trees.declared.index.UnpackedIndex.{UnpackedIndex}
use Rattle.wasm_types.specs.trees.declared.index.UnpackedIndex.TheVariants.{Module, RecGroup, Id}
use Rattle.wasm_types.specs.trees.Types.{entry_map}
use Rattle.wasm_types.specs.trees.Trees.{GroupTree, TypeTree}
use Rattle.wasm_types.specs.trees.Unfold.{GroupReference, Local, Earlier, Entry, unfolded, type_count, type_tree}
use Rattle.wasm_types.specs.Entries.{Declared}
use Rattle.wasm_types.specs.Remap.{declared_map}

-- a group of a list: whether it is in canonical form, and what its types declare. A group in canonical form stands once in
-- the list; any other is added each time that it comes
pub record Group : Type 0 where
  pub is_canonical : Bool
  pub types : List Declared

-- ---- unrolling

-- what an index names: a place of its own group, or the type of an id. A module's index names nothing outside its module;
-- no group in canonical form has one, and here it stands as a place
abbrev pub reference_of : UnpackedIndex → GroupReference
reference_of (Module n) = Local n
reference_of (RecGroup p) = Local p
reference_of (Id i) = Earlier i.0

-- the subtypes of a group, by what their indices name
abbrev pub entries_of : Group → List Entry
entries_of g = map (entry_map reference_of) (map (λ d. d.entry) g.types)

abbrev pub entries : List Group → List (List Entry)
entries groups = map entries_of groups

-- how many types there are: each number below has a type, and is its id
abbrev pub count : List Group → ℕ
count groups = type_count (entries groups)

-- the type of an id
abbrev pub tree_of : List Group → ℕ → TypeTree
tree_of groups = type_tree (entries groups)

-- the tree of a group that is added to these
abbrev pub tree_behind : List Group → Group → GroupTree
tree_behind groups g = unfolded (tree_of groups) (entries_of g)

-- ---- groups by their numbers

-- the group of a number: the oldest has 0
abbrev pub group_at : List Group → ℕ → Option Group
group_at [] k = None
group_at (g ∷ earlier) k = if nat_eq k (length earlier) then Some g else group_at earlier k

-- its tree
abbrev pub group_tree_at : List Group → ℕ → Option GroupTree
group_tree_at groups k = option_map (tree_behind groups) (group_at groups k)

-- the number of the group of each id
unfoldable pub group_numbers : List Group → List ℕ
group_numbers [] = []
group_numbers (g ∷ earlier) = group_numbers earlier ++ replicate (length g.types) (length earlier)

-- the first id of each group, and that behind its last
unfoldable pub group_ranges : List Group → List (ℕ × ℕ)
group_ranges [] = []
group_ranges (g ∷ earlier) = group_ranges earlier ++ (count earlier, count earlier + length g.types) ∷ []

-- ---- types by their ids

-- an index of a group whose first type has the id `start`, as an id; a module's index stays
abbrev pub by_id : ℕ → UnpackedIndex → UnpackedIndex
by_id start (Module n) = Module n
by_id start (RecGroup p) = Id (record { 0 = start + p })
by_id start (Id i) = Id i

-- what the type of each id declares, over ids
unfoldable pub declared_by_id : List Group → List Declared
declared_by_id [] = []
declared_by_id (g ∷ earlier) = declared_by_id earlier ++ map (declared_map (by_id (count earlier))) g.types

-- an index as an id, where it is one
abbrev pub id_in : Option UnpackedIndex → Option CoreTypeId
id_in None = None
id_in (Some (Module n)) = None
id_in (Some (RecGroup p)) = None
id_in (Some (Id i)) = Some i

-- the id of the supertype that a type declares, over ids
abbrev pub supertype_id : Declared → Option CoreTypeId
supertype_id d = id_in d.entry.supertype

-- the same of each id
abbrev pub supertype_ids : List Group → List (Option CoreTypeId)
supertype_ids groups = map supertype_id (declared_by_id groups)
