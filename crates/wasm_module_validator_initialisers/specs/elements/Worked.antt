-- Worked element segments, over the bytes of their constants: for each rule one that is valid and one that is not, and what they name.
use Rattle.std.specs.Prelude.{◌≡◌, ℕ, List, [], ◌∷◌, Option, Some, None, true, false}
-- for attributes that unfold it
unfoldable pub use Rattle.wasm_types.specs.settings.Features.{has}
use Rattle.wasm_types.specs.settings.Features.{BulkMemory}
use Rattle.wasm_types.specs.settings.Limits.{default_limits}
use Rattle.wasm_types.specs.settings.Settings.{Settings}
use Rattle.wasm_types.specs.trees.Types.{ref, abstract, func, extern}
use Rattle.wasm_types.specs.trees.Trees.{TypeTree}
use Rattle.wasm_sections_items.specs.elements.Spells.{ElementTree, ElementMode, ElementItems, passive, active, declared, functions, expressions}
use Rattle.wasm_operator_validator_rules.specs.Operands.{ValueType}
use Rattle.wasm_operator_validator_rules.specs.Context.{Module}
use Rattle.wasm_module_validator_checks.specs.rules.worked.Trees.{everything, without, funcref}
use Rattle.wasm_module_validator_initialisers.specs.segments.Worked.{short, long, nothing}
use Rattle.wasm_module_validator_initialisers.specs.elements.Judged.{IsElement}
use Rattle.wasm_module_validator_initialisers.specs.elements.Naming.{NamesElement}

-- ---- modules

-- a function of this type, and a table of references of this one
abbrev pub with_table : TypeTree → ValueType → Module
with_table t element = record nothing { functions = t ∷ []; tables = record { element = element; table64 = false; shared = false } ∷ [] }

abbrev pub any_functions : ValueType
any_functions = ref true (abstract false func)

abbrev pub externals : ValueType
externals = ref true (abstract false extern)

-- every feature, and segments of so many elements at most
abbrev pub few : ℕ → Settings
few n = record { features = 0xfff_ffff; limits = record default_limits { segment_items = n } }

-- `ref.func 7`
abbrev pub seventh : List ℕ
seventh = 0xd2 ∷ 0x07 ∷ 0x0b ∷ []

-- ---- segments

abbrev pub segment : ElementMode (List ℕ) → ElementItems (List ℕ) → ElementTree (List ℕ)
segment mode items = record { mode = mode; items = items }

-- one function, at an offset in a table, or at none
abbrev pub one_at : Option ℕ → List ℕ → ElementTree (List ℕ)
one_at table text = segment (active table text) (functions (0 ∷ []))

-- ---- rows

-- functions in a table that they fit, and in another; a table and a function that there are not; an offset of another width; more
-- elements than the limit; what other segments need; expressions of another type, and none
pub record ElementsWorked (t : TypeTree) : Type 0 where
  pub active : IsElement everything (with_table t any_functions) 0 (one_at None short)
  pub does_not_fit : IsElement everything (with_table t externals) 0 (one_at None short) → ⊥
  pub table_unknown : IsElement everything (with_table t any_functions) 0 (one_at (Some 1) short) → ⊥
  pub offset_of_another_type : IsElement everything (with_table t any_functions) 0 (one_at None long) → ⊥
  pub function_unknown : IsElement everything (with_table t any_functions) 0 (segment declared (functions (1 ∷ []))) → ⊥
  pub as_many : IsElement (few 1) (with_table t any_functions) 0 (segment declared (functions (0 ∷ [])))
  pub too_many : IsElement (few 0) (with_table t any_functions) 0 (segment declared (functions (0 ∷ []))) → ⊥
  pub passive_needs : IsElement (without BulkMemory) nothing 0 (segment passive (functions [])) → ⊥
  pub declared_needs : IsElement (without BulkMemory) nothing 0 (segment declared (functions [])) → ⊥
  pub no_expressions : IsElement everything nothing 0 (segment passive (expressions funcref []))
  pub expressions_of_another_type : IsElement everything nothing 0 (segment passive (expressions funcref (short ∷ []))) → ⊥

-- functions that a segment names, behind others and none else; `ref.func 7`, in an element and in an offset
pub record NamesWorked : Type 0 where
  pub indices : (after : List ℕ) → NamesElement everything (Some (segment declared (functions (2 ∷ 0 ∷ [])))) (5 ∷ []) after → after ≡ 5 ∷ 2 ∷ 0 ∷ []
  pub reference : (after : List ℕ) → NamesElement everything (Some (segment declared (expressions funcref (seventh ∷ [])))) [] after → after ≡ 7 ∷ []
  pub offset : (after : List ℕ) → NamesElement everything (Some (segment (active None seventh) (functions (1 ∷ [])))) [] after → after ≡ 7 ∷ 1 ∷ []
  pub nothing_else : (after : List ℕ) → NamesElement everything (Some (one_at None short)) [] after → after ≡ 0 ∷ []
