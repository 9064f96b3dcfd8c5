-- The groups of a list, rolled up from the types that it stores over ids (WebAssembly 3.0, validation, types, rolling and
-- unrolling).
use Rattle.std.specs.Prelude.{ℕ, ◌-◌, nat_lt, if◌then◌else◌, Bool, List, [], ◌∷◌, ◌++◌, map, take, drop}
use Rattle.wasm_types.specs.trees.declared.index.UnpackedIndex.{UnpackedIndex}
use Rattle.wasm_types.specs.trees.declared.index.UnpackedIndex.TheVariants.{Module, RecGroup, Id}
use Rattle.wasm_types.specs.Entries.{Declared}
use Rattle.wasm_types.specs.Remap.{declared_map}
use Rattle.wasm_module_validator_type_storage.specs.trees.Groups.{Group}

-- an index of a type in a group whose first type has the id `start`: from there on an id is a place of the group
abbrev pub rolled : ℕ → UnpackedIndex → UnpackedIndex
rolled start (Module n) = Module n
rolled start (RecGroup p) = RecGroup p
rolled start (Id i) = if nat_lt i.0 start then Id i else RecGroup (i.0 - start)

-- the group of these ids, in canonical form or not
abbrev pub rolled_group : List Declared → Bool → ℕ × ℕ → Group
rolled_group types canonical ids = record { is_canonical = canonical; types = map (declared_map (rolled ids.0)) (take (ids.1 - ids.0) (drop ids.0 types)) }

-- all groups, the oldest first
abbrev pub rolled_groups : List Declared → List Bool → List (ℕ × ℕ) → List Group
rolled_groups types [] ranges = []
rolled_groups types (c ∷ cs) [] = []
rolled_groups types (c ∷ cs) (r ∷ rs) = rolled_group types c r ∷ rolled_groups types cs rs

-- whether each group is in canonical form, the oldest first
unfoldable pub forms : List Group → List Bool
forms [] = []
forms (g ∷ earlier) = forms earlier ++ g.is_canonical ∷ []
