-- Rules: the indices and the shape of a subtype, in order: the supertypes, those of the type itself, its descriptor, and the
-- type that it describes.
use Rattle.std.specs.Prelude.{◌≡◌, List, [], ◌∷◌, ◌++◌, map, Option, Some, None, Result, Ok, Err, MatchResult}
use Rattle.wasm_types_trees.specs.Types.{EntryOf, entry_map}
use Rattle.wasm_types_fields.specs.Remap.{inner_indices}
use Rattle.wasm_types.specs.Entries.{DeclaredOf}

-- how many indices there are
abbrev pub list_shape : {R : Type 0} → List R → List (Unit {0})
list_shape is = map (λ i. tt) is

-- the index that may be absent
abbrev pub option_indices : {R : Type 0} → Option R → List R
option_indices None = []
option_indices (Some i) = i ∷ []

-- of an entry without its supertype
abbrev pub entry_indices : {R : Type 0} → EntryOf R → List R
entry_indices x = inner_indices x.inner ++ (option_indices x.descriptor ++ option_indices x.describes)

-- of an entry, with nothing where an index stands
abbrev pub entry_shape : {R : Type 0} → EntryOf R → EntryOf (Unit {0})
entry_shape = entry_map (λ i. tt)

-- of what a subtype declares: its supertypes first
abbrev pub declared_indices : {R : Type 0} → DeclaredOf R → List R
declared_indices d = d.supertypes ++ entry_indices d.entry

-- the shape of what a subtype declares
abbrev pub declared_shape : {R : Type 0} → DeclaredOf R → DeclaredOf (Unit {0})
declared_shape d = record { supertypes = list_shape d.supertypes; entry = entry_shape d.entry }

-- an index that may be absent: the answer to it, or its refusal
abbrev pub IsOptionAnswered : {R E : Type 0} → (R → Result R E → Type 0) → Option R → Option R → Type 0
IsOptionAnswered answers None None = Unit {0}
IsOptionAnswered answers None (Some j) = ⊥
IsOptionAnswered answers (Some i) None = ⊥
IsOptionAnswered answers (Some i) (Some j) = answers i (Ok j)

-- an index that may be absent is answered, or it is refused
abbrev pub OptionRemapped : {R E : Type 0} → (R → Result R E → Type 0) → Result (Option R) E → Option R → Type 0
OptionRemapped {R = R} answers result index = MatchResult result (IsOptionAnswered answers index) (λ e. (i : R) × (index ≡ Some i) × answers i (Err e))

-- what a type declares with each index mapped
abbrev pub declared_map : {R S : Type 0} → (R → S) → DeclaredOf R → DeclaredOf S
declared_map m d = record { supertypes = map m d.supertypes; entry = entry_map m d.entry }
