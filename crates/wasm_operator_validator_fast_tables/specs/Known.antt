-- Tables of a module while they are made.
use Rattle.std.specs.Prelude.{◌≡◌, ◌<◌, ◌≤◌, ◌+◌, ◌⊎◌, ℕ, Bool, true, false, List, [], ◌∷◌, ◌++◌, length, map, slice_get, Some}
use Rattle.wasm_types.specs.trees.Trees.{TypeTree}
use Rattle.wasm_types.specs.trees.Types.{ref, concrete, FieldOf, field_map, InnerOf, inner_map}
use Rattle.wasm_types.specs.trees.Below.{abstract_above, bottom_of}
use Rattle.wasm_types.specs.fields.declared.field.FieldType.{FieldType}
use Rattle.wasm_types.specs.fields.Fields.{field_of}
use Rattle.wasm_types.specs.declared.composite.CompositeInnerType.{CompositeInnerType}
use Rattle.wasm_types.specs.Entries.{inner_of}
use Rattle.wasm_operator_validator_state.specs.resources.Meaning.{Meaning, named_type}
use Rattle.wasm_operator_validator_rules.specs.Context.{Module, IsFunctionType}
use Rattle.wasm_operator_validator_rules.specs.Row.{IsOneOf}
use Rattle.wasm_operator_validator_fast_tables.specs.declared.order.Step.{Step}
use Rattle.wasm_operator_validator_fast_tables.specs.declared.tables.Sig.{Sig}
use Rattle.wasm_operator_validator_fast_tables.specs.declared.tables.Held.{Held}
use Rattle.wasm_operator_validator_fast_tables.specs.declared.tables.Indexed.{Indexed}
use Rattle.wasm_operator_validator_fast_tables.specs.declared.tables.Field.{Field}
use Rattle.wasm_operator_validator_fast_tables.specs.declared.tables.Named.{Named}
use Rattle.wasm_operator_validator_fast_tables.specs.Stacks.{part}
use Rattle.wasm_operator_validator_fast_tables.specs.Values.{abstract_of, type_of, types}
use Rattle.wasm_operator_validator_fast_tables.specs.Tables.{no_code, params_in, signature_in, HasTypeIn, IsGlobalIn, HasMemoryAt, IsTableIn, IsElementIn, IsNamedIn, ArePlaced}

-- at most so many were put behind the others
abbrev pub IsMore : List ℕ → List ℕ → ℕ → Type 0
IsMore before after most = (cs : List ℕ) × (after ≡ before ++ cs) × (length cs ≤ most)

-- a signature is that of the type at an index, and its types lie among the codes
pub record IsUsableIn (ids : List TypeTree) (m : Module) (flat : List ℕ) (y : ℕ) (s : Sig) : Type 0 where
  pub params : s.params + s.param_count ≤ length flat
  pub results : s.results + s.result_count ≤ length flat
  pub type : TypeTree
  pub at : slice_get m.types y ≡ Some type
  pub function : IsFunctionType type (signature_in ids flat s)

-- the same, or it is not for use
abbrev pub IsSigIn : List TypeTree → Module → List ℕ → ℕ → Sig → Type 0
IsSigIn ids m flat y s = (s.param_count ≡ 0xffffffff) ⊎ IsUsableIn ids m flat y s

abbrev pub AreSigsIn : List TypeTree → Module → List ℕ → List Sig → Type 0
AreSigsIn ids m flat ss = (y : ℕ) (s : Sig) → slice_get ss y ≡ Some s → IsSigIn ids m flat y s

abbrev pub AreFunctionsIn : Module → List ℕ → Type 0
AreFunctionsIn m fs = (x y : ℕ) → slice_get fs x ≡ Some y → HasTypeIn m x y

-- these are the signatures of functions, by the indices of their types
abbrev pub AreCalleesOf : List ℕ → List Sig → List Sig → Type 0
AreCalleesOf fs ss cs = (x : ℕ) (s : Sig) → slice_get cs x ≡ Some s → (y : ℕ) × (slice_get fs x ≡ Some y) × (slice_get ss y ≡ Some s)

-- code may refer to the functions of which it is said
abbrev pub AreReferencedIn : Module → List Bool → Type 0
AreReferencedIn m bs = (x : ℕ) → slice_get bs x ≡ Some true → IsOneOf x m.referenced

abbrev pub AreGlobalsIn : List TypeTree → Module → List Held → Type 0
AreGlobalsIn ids m hs = (x : ℕ) (h : Held) → slice_get hs x ≡ Some h → IsGlobalIn ids m x h

abbrev pub AreTablesIn : List TypeTree → Module → List Indexed → Type 0
AreTablesIn ids m ts = (x : ℕ) (s : Indexed) → slice_get ts x ≡ Some s → IsTableIn ids m x s

abbrev pub AreMemoriesIn : Module → List ℕ → Type 0
AreMemoriesIn m cs = (x code : ℕ) → slice_get cs x ≡ Some code → HasMemoryAt m x code

abbrev pub AreElementsIn : List TypeTree → Module → List ℕ → Type 0
AreElementsIn ids m cs = (x code : ℕ) → slice_get cs x ≡ Some code → IsElementIn ids m x code

-- the same of tags
pub record IsUsableTagIn (ids : List TypeTree) (m : Module) (flat : List ℕ) (x : ℕ) (s : Sig) : Type 0 where
  pub params : s.params + s.param_count ≤ length flat
  pub type : TypeTree
  pub at : slice_get m.tags x ≡ Some type
  pub function : IsFunctionType type (record { params = types ids (params_in flat s); results = [] })

abbrev pub AreTagsIn : List TypeTree → Module → List ℕ → List Sig → Type 0
AreTagsIn ids m flat ss = (x : ℕ) (s : Sig) → slice_get ss x ≡ Some s → (s.param_count ≡ 0xffffffff) ⊎ IsUsableTagIn ids m flat x s

-- ---- types that a module defines, while the tables are made

abbrev pub AreNamedIn : List TypeTree → Module → List Field → List Named → Type 0
AreNamedIn ids m fields ns = (y : ℕ) (n : Named) → slice_get ns y ≡ Some n → n.code < no_code → IsNamedIn ids m fields y n

abbrev pub ArePlacedIn : List ℕ → List Named → Type 0
ArePlacedIn flat ns = (y : ℕ) (n : Named) → slice_get ns y ≡ Some n → n.code < no_code → ArePlaced flat y n

-- the codes that stand for themselves come first
abbrev pub StandAlone : List ℕ → Type 0
StandAlone flat = (n : ℕ) → n < 40 → part n 1 flat ≡ n ∷ []

-- fields were put behind the others
abbrev pub IsLonger : List Field → List Field → Type 0
IsLonger before after = (more : List Field) × (after ≡ before ++ more)

-- what a composite type and a field are, over whole types
abbrev pub inner_in : Meaning → CompositeInnerType → InnerOf TypeTree
inner_in m t = inner_map (named_type m) (inner_of t)

abbrev pub field_in : Meaning → FieldType → FieldOf TypeTree
field_in m f = field_map (named_type m) (field_of f)

abbrev pub fields_in : Meaning → List FieldType → List (FieldOf TypeTree)
fields_in m fs = map (field_map (named_type m)) (map field_of fs)

-- this code stands for references to a type that may be null, and the next one for the others
abbrev pub IsCodeOf : List TypeTree → TypeTree → ℕ → Type 0
IsCodeOf ids t code = (40 ≤ code) × (type_of ids code ≡ ref true (concrete t)) × (type_of ids (code + 1) ≡ ref false (concrete t))

-- the abstract type right above composite types of a constructor, and the bottom type below them
pub record IsAround (inner : InnerOf TypeTree) (s : Step) : Type 0 where
  pub high : s.above < 16
  pub low : s.bottom < 16
  pub far : s.far ≡ s.above
  pub above : abstract_above inner ≡ abstract_of s.above
  pub bottom : bottom_of inner ≡ abstract_of s.bottom
