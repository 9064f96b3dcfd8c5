-- Operators of variables, memories, constants, tables and references: what each carries behind its opcode,
-- in the order of the bytes (WebAssembly 3.0, binary format, instructions, and the proposals).
use Rattle.std.specs.Prelude.{List, [], ◌∷◌}
use Rattle.wasm_operators_immediates.specs.Kinds.{Functions, Globals, Locals, Memories, Tables, Plain, DataSegments, Elements}
use Rattle.wasm_operators_immediates.specs.Immediates.{Immediate, F32Constant, F64Constant, I32Constant, I64Constant, Index, IndexOrZero, MemoryArgument, Heap}
use Rattle.wasm_operators_enums.specs.declared.memory.MemoryOperator.{MemoryOperator}
use Rattle.wasm_operators_enums.specs.declared.memory.MemoryOperator.TheVariants as memory
use Rattle.wasm_operators_enums.specs.declared.constant.ConstOperator.{ConstOperator}
use Rattle.wasm_operators_enums.specs.declared.constant.ConstOperator.TheVariants as const
use Rattle.wasm_operators_enums.specs.declared.bulk.BulkOperator.{BulkOperator}
use Rattle.wasm_operators_enums.specs.declared.bulk.BulkOperator.TheVariants as bulk

-- standard: binary-instr-memory: what follows each opcode
-- standard: binary-instr-variable: what follows each opcode
-- of variables and memories
abbrev pub memory_immediates : MemoryOperator → List Immediate
memory_immediates (memory.LocalGet local_index) = Index Locals local_index ∷ []
memory_immediates (memory.LocalSet local_index) = Index Locals local_index ∷ []
memory_immediates (memory.LocalTee local_index) = Index Locals local_index ∷ []
memory_immediates (memory.GlobalGet global_index) = Index Globals global_index ∷ []
memory_immediates (memory.GlobalSet global_index) = Index Globals global_index ∷ []
memory_immediates (memory.I32Load memarg) = MemoryArgument Plain 2 memarg ∷ []
memory_immediates (memory.I64Load memarg) = MemoryArgument Plain 3 memarg ∷ []
memory_immediates (memory.F32Load memarg) = MemoryArgument Plain 2 memarg ∷ []
memory_immediates (memory.F64Load memarg) = MemoryArgument Plain 3 memarg ∷ []
memory_immediates (memory.I32Load8S memarg) = MemoryArgument Plain 0 memarg ∷ []
memory_immediates (memory.I32Load8U memarg) = MemoryArgument Plain 0 memarg ∷ []
memory_immediates (memory.I32Load16S memarg) = MemoryArgument Plain 1 memarg ∷ []
memory_immediates (memory.I32Load16U memarg) = MemoryArgument Plain 1 memarg ∷ []
memory_immediates (memory.I64Load8S memarg) = MemoryArgument Plain 0 memarg ∷ []
memory_immediates (memory.I64Load8U memarg) = MemoryArgument Plain 0 memarg ∷ []
memory_immediates (memory.I64Load16S memarg) = MemoryArgument Plain 1 memarg ∷ []
memory_immediates (memory.I64Load16U memarg) = MemoryArgument Plain 1 memarg ∷ []
memory_immediates (memory.I64Load32S memarg) = MemoryArgument Plain 2 memarg ∷ []
memory_immediates (memory.I64Load32U memarg) = MemoryArgument Plain 2 memarg ∷ []
memory_immediates (memory.I32Store memarg) = MemoryArgument Plain 2 memarg ∷ []
memory_immediates (memory.I64Store memarg) = MemoryArgument Plain 3 memarg ∷ []
memory_immediates (memory.F32Store memarg) = MemoryArgument Plain 2 memarg ∷ []
memory_immediates (memory.F64Store memarg) = MemoryArgument Plain 3 memarg ∷ []
memory_immediates (memory.I32Store8 memarg) = MemoryArgument Plain 0 memarg ∷ []
memory_immediates (memory.I32Store16 memarg) = MemoryArgument Plain 1 memarg ∷ []
memory_immediates (memory.I64Store8 memarg) = MemoryArgument Plain 0 memarg ∷ []
memory_immediates (memory.I64Store16 memarg) = MemoryArgument Plain 1 memarg ∷ []
memory_immediates (memory.I64Store32 memarg) = MemoryArgument Plain 2 memarg ∷ []
memory_immediates (memory.MemorySize mem) = IndexOrZero Memories mem ∷ []
memory_immediates (memory.MemoryGrow mem) = IndexOrZero Memories mem ∷ []

-- standard: binary-instr-numeric: what follows each opcode
-- of constants: the constant itself
abbrev pub const_immediates : ConstOperator → List Immediate
const_immediates (const.I32Const value) = I32Constant value ∷ []
const_immediates (const.I64Const value) = I64Constant value ∷ []
const_immediates (const.F32Const value) = F32Constant value ∷ []
const_immediates (const.F64Const value) = F64Constant value ∷ []

-- standard: binary-instr-table: what follows each opcode
-- standard: binary-instr-memory: what follows each opcode of bulk instructions
-- standard: binary-instr-ref: what follows each opcode
-- of ranges of memories and tables, of tables and of references
abbrev pub bulk_immediates : BulkOperator → List Immediate
bulk_immediates (bulk.TableGet table) = Index Tables table ∷ []
bulk_immediates (bulk.TableSet table) = Index Tables table ∷ []
bulk_immediates (bulk.RefNull hty) = Heap hty ∷ []
bulk_immediates bulk.RefIsNull = []
bulk_immediates (bulk.RefFunc function_index) = Index Functions function_index ∷ []
bulk_immediates (bulk.MemoryInit data_index mem) = Index DataSegments data_index ∷ Index Memories mem ∷ []
bulk_immediates (bulk.DataDrop data_index) = Index DataSegments data_index ∷ []
bulk_immediates (bulk.MemoryCopy dst_mem src_mem) = Index Memories dst_mem ∷ Index Memories src_mem ∷ []
bulk_immediates (bulk.MemoryFill mem) = Index Memories mem ∷ []
bulk_immediates (bulk.TableInit elem_index table) = Index Elements elem_index ∷ Index Tables table ∷ []
bulk_immediates (bulk.ElemDrop elem_index) = Index Elements elem_index ∷ []
bulk_immediates (bulk.TableCopy dst_table src_table) = Index Tables dst_table ∷ Index Tables src_table ∷ []
bulk_immediates (bulk.TableGrow table) = Index Tables table ∷ []
bulk_immediates (bulk.TableSize table) = Index Tables table ∷ []
bulk_immediates (bulk.TableFill table) = Index Tables table ∷ []
bulk_immediates (bulk.MemoryDiscard mem) = Index Memories mem ∷ []
