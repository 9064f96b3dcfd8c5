-- Items with constant expressions as they are read, where an expression is its bytes (WebAssembly 3.0, binary format, modules). Which code
-- the bytes spell is said by wasm_module_validator_rules_in_order.
use Rattle.std.specs.Prelude.{ℕ, List}
use Rattle.wasm_types.specs.decoding.Decoder.{State}
use Rattle.wasm_sections_items.specs.declared.segments.global.GlobalOf.{GlobalOf}
use Rattle.wasm_sections_items.specs.declared.segments.table.TableOf.{TableOf}
use Rattle.wasm_sections_items.specs.declared.segments.segment.DataOf.{DataOf}
use Rattle.wasm_sections_items.specs.segments.Spells.{GlobalTree, DataMode}
use Rattle.wasm_sections_items.specs.segments.Segments.{mode_of as data_mode_of}
use Rattle.wasm_sections_items.specs.segments.Tables.{TableTree, init_of}

-- ---- items as they are read

-- the bytes of an expression
abbrev pub bytes_of : State → List ℕ
bytes_of s = s.rest

abbrev pub global_read : GlobalOf State → GlobalTree (List ℕ)
global_read x = record { ty = x.ty; init = bytes_of x.init_expr }

abbrev pub table_read : TableOf State → TableTree (List ℕ)
table_read x = record { ty = x.ty; init = init_of bytes_of x.init }

-- how a data segment is used; its bytes are whatever they are
abbrev pub data_read : DataOf State → DataMode (List ℕ)
data_read x = data_mode_of bytes_of x.kind
