-- What is read of items with constants, what may begin, and why items and locals are refused (WebAssembly 3.0, binary format and validation,
-- modules): a yes and a no for each.
use Rattle.std.specs.Prelude.{◌≡◌, ℕ, List, [], ◌∷◌, true, false, Option, Some, None, Result, Ok, Err}
use Rattle.wasm_types.specs.decoding.Decoder.{State}
use Rattle.wasm_types.specs.decoding.ErrorValue.{ErrorValue}
use Rattle.wasm_types.specs.decoding.declared.error.ErrorKind.{ErrorKind}
use Rattle.wasm_types.specs.decoding.declared.error.ErrorKind.TheVariants.{OutOfMemory, Failed, Other}
use Rattle.wasm_types.specs.settings.Features.{Exceptions}
use Rattle.wasm_types.specs.settings.Settings.{Settings, no_features}
use Rattle.wasm_types.specs.values.declared.value.ValType.{ValType}
use Rattle.wasm_types.specs.values.declared.value.ValType.TheVariants as value
use Rattle.wasm_sections_items.specs.declared.segments.segment.DataKindOf.TheVariants.{Passive, Active}
use Rattle.wasm_sections_items.specs.declared.segments.table.TableInitOf.TheVariants.{RefNull, Expr}
use Rattle.wasm_sections_items.specs.segments.Spells as mode
use Rattle.wasm_module_validator_canonical_types.specs.Refused.{FailsAt}
use Rattle.wasm_operator_validator_state.specs.resources.Meaning.{Meaning}
use Rattle.wasm_module_validator_section_order.specs.rules.worked.Trees.{everything, without, funcref, table_with, memory_with, constant_of}
use Rattle.wasm_module_validator_section_order.specs.rules_in_order.Sections as section
use Rattle.wasm_module_validator_initialisers.specs.resources.Reading.{with_types}
use Rattle.wasm_module_validator_initialisers.specs.segments.Trees.{global_read, table_read}
use Rattle.wasm_module_validator_initialisers.specs.segments.Refusals.{RefusesData}
use Rattle.wasm_module_validator_section_order.specs.sections.Sections.{MayBegin}

-- ---- items as they are read

-- a reader of these bytes
abbrev pub at : List ℕ → State
at text = record { rest = text; place = 9; settings = no_features; start = 5 }

pub record ItemsRead : Type 0 where
  pub global : global_read (record { ty = constant_of value.I32; init_expr = at (0x41 ∷ 0x00 ∷ []) }) ≡ record { ty = constant_of value.I32; init = 0x41 ∷ 0x00 ∷ [] }
  pub table : table_read (record { ty = table_with funcref 1; init = Expr (at (0xd2 ∷ 0x00 ∷ [])) }) ≡ record { ty = table_with funcref 1; init = Some (0xd2 ∷ 0x00 ∷ []) }
  pub null_table : table_read (record { ty = table_with funcref 1; init = RefNull }) ≡ record { ty = table_with funcref 1; init = None }

-- ---- sections

-- a section of tags needs exceptions, and the others nothing
pub record Begins : Type 0 where
  pub tags : MayBegin everything section.tags
  pub tags_not : MayBegin (without Exceptions) section.tags → ⊥
  pub types : MayBegin no_features section.types
  pub imports : MayBegin no_features section.imports
  pub functions : MayBegin no_features section.functions
  pub tables : MayBegin no_features section.tables
  pub memories : MayBegin no_features section.memories
  pub globals : MayBegin no_features section.globals
  pub exports : MayBegin no_features section.exports
  pub start : MayBegin no_features section.start
  pub element_segments : MayBegin no_features section.element_segments
  pub data_count : MayBegin no_features section.data_count
  pub data_segments : MayBegin no_features section.data_segments

-- ---- refusals

-- for what stands in the input, at this offset; and for another cause
abbrev pub fault : ErrorValue
fault = record { kind = Other; offset = 7; message = [] }

abbrev pub caused_by : ErrorKind → ErrorValue
caused_by k = record { kind = k; offset = 7; message = [] }

-- a module with one memory, and one with none
abbrev pub one_memory : Meaning
one_memory = record { «module» = record (with_types []) { memories = memory_with 1 None ∷ [] }; ids = [] }

abbrev pub no_memory : Meaning
no_memory = record { «module» = with_types []; ids = [] }

pub record Refused (z : Settings) (s : State) : Type 0 where
  pub fails : FailsAt {X = ℕ} 7 (Err fault)
  pub fails_elsewhere : FailsAt {X = ℕ} 8 (Err fault) → ⊥
  pub fails_otherwise : FailsAt {X = ℕ} 7 (Err (caused_by OutOfMemory)) → ⊥
  pub fails_not : FailsAt {X = ℕ} 7 (Ok 3)
  pub no_such_memory : RefusesData z no_memory 0 7 (Active 0 s) fault
  pub no_such_memory_elsewhere : RefusesData z no_memory 0 8 (Active 0 s) fault → ⊥
  pub no_such_memory_failed : RefusesData z no_memory 0 7 (Active 0 s) (caused_by Failed) → ⊥
  pub next_memory : RefusesData z one_memory 0 7 (Active 1 s) fault
  pub passive_failed : RefusesData z one_memory 0 7 Passive (caused_by Failed) → ⊥
