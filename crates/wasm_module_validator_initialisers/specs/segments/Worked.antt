-- Worked items, over the bytes of their constants: for each rule one that is valid and one that is not.
use Rattle.std.specs.Prelude.{ℕ, List, [], ◌∷◌, Option, Some, None, true}
-- for attributes that unfold it
unfoldable pub use Rattle.wasm_types.specs.settings.Features.{has}
use Rattle.wasm_types.specs.settings.Features.{BulkMemory, FunctionReferences}
use Rattle.wasm_types.specs.values.Reference.{Reference}
use Rattle.wasm_types.specs.values.declared.value.ValType.{ValType}
use Rattle.wasm_types.specs.values.declared.value.ValType.TheVariants as value
use Rattle.wasm_sections_items.specs.segments.Spells.{GlobalTree}
use Rattle.wasm_sections_items.specs.segments.Spells as data_mode
use Rattle.wasm_sections_items.specs.segments.Tables.{TableTree}
use Rattle.wasm_operator_validator_rules.specs.Context.{Module}
use Rattle.wasm_module_validator_checks.specs.rules.Spaces.{with_types}
use Rattle.wasm_module_validator_checks.specs.rules.worked.Trees.{everything, without, constant_of, table_with, memory_with, funcref, some_function}
use Rattle.wasm_module_validator_initialisers.specs.segments.Judged.{IsGlobal, IsTable, IsTableHere, IsData}

-- ---- bytes and modules

-- `i32.const 5` and `i64.const 5`
abbrev pub short : List ℕ
short = 0x41 ∷ 0x05 ∷ 0x0b ∷ []

abbrev pub long : List ℕ
long = 0x42 ∷ 0x05 ∷ 0x0b ∷ []

-- a module with nothing in it
abbrev pub nothing : Module
nothing = with_types []

-- a memory, by whether its addresses are of 64 bits
abbrev pub with_memory : Module
with_memory = record nothing { memories = memory_with 1 None ∷ [] }

abbrev pub with_wide_memory : Module
with_wide_memory = record nothing { memories = record (memory_with 1 None) { memory64 = true } ∷ [] }

-- ---- items

abbrev pub global_of : ValType → List ℕ → GlobalTree (List ℕ)
global_of t text = record { ty = constant_of t; init = text }

abbrev pub table_of : Reference → Option (List ℕ) → TableTree (List ℕ)
table_of r init = record { ty = table_with r 0; init = init }

-- ---- rows

-- a constant of the type, and one of another type
pub record GlobalsWorked : Type 0 where
  pub short_one : IsGlobal everything nothing 0 (global_of value.I32 short)
  pub long_one : IsGlobal everything nothing 0 (global_of value.I64 long)
  pub of_another_type : IsGlobal everything nothing 0 (global_of value.I64 short) → ⊥
  pub nothing_spelled : IsGlobal everything nothing 0 (global_of value.I32 []) → ⊥

-- nulls; elements that are never null, and have no expression; an expression of another type, and one that no feature allows
pub record TablesWorked : Type 0 where
  pub nulls : IsTable everything nothing 0 (table_of funcref None)
  pub never_null : IsTable everything nothing 0 (table_of some_function None) → ⊥
  pub of_another_type : IsTable everything nothing 0 (table_of funcref (Some short)) → ⊥
  pub here : IsTableHere everything nothing 0 (table_of funcref None)
  pub here_never_null : IsTableHere everything nothing 0 (table_of some_function None) → ⊥
  pub here_needs : IsTableHere (without FunctionReferences) nothing 0 (table_of funcref (Some short)) → ⊥

-- an offset as wide as the memory's addresses, and another; a memory that there is not; and what a passive segment needs
pub record DataWorked : Type 0 where
  pub placed : IsData everything with_memory 0 (data_mode.active 0 short)
  pub placed_by_long : IsData everything with_memory 0 (data_mode.active 0 long) → ⊥
  pub placed_wide : IsData everything with_wide_memory 0 (data_mode.active 0 long)
  pub placed_wide_by_short : IsData everything with_wide_memory 0 (data_mode.active 0 short) → ⊥
  pub memory_unknown : IsData everything with_memory 0 (data_mode.active 1 short) → ⊥
  pub passive : IsData everything nothing 0 data_mode.passive
  pub passive_needs : IsData (without BulkMemory) nothing 0 data_mode.passive → ⊥
