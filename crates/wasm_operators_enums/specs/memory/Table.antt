-- Operators of variables, memories, constants, tables and references: their rows of the table of opcodes
-- (WebAssembly 3.0, binary format, instructions, and appendix, index of instructions, and the proposals).
use Rattle.std.specs.Prelude.{Some, None, codes}
use Rattle.wasm_operators_immediates.specs.Info.{Info, row}
use Rattle.wasm_operators_immediates.specs.declared.proposal.Proposal.TheVariants.{Mvp, ReferenceTypes, BulkMemory, BulkMemoryOpt, MemoryControl}
use Rattle.wasm_operators_enums.specs.declared.memory.MemoryOperator.{MemoryOperator}
use Rattle.wasm_operators_enums.specs.declared.memory.MemoryOperator.TheVariants as memory
use Rattle.wasm_operators_enums.specs.declared.constant.ConstOperator.{ConstOperator}
use Rattle.wasm_operators_enums.specs.declared.constant.ConstOperator.TheVariants as const
use Rattle.wasm_operators_enums.specs.declared.bulk.BulkOperator.{BulkOperator}
use Rattle.wasm_operators_enums.specs.declared.bulk.BulkOperator.TheVariants as bulk

-- standard: binary-instr-memory: opcodes of loads and stores
-- standard: binary-instr-variable: opcodes
-- of variables and memories
abbrev pub memory_info : MemoryOperator → Info
memory_info (memory.LocalGet local_index) = row Mvp (codes "local.get") None 0x20
memory_info (memory.LocalSet local_index) = row Mvp (codes "local.set") None 0x21
memory_info (memory.LocalTee local_index) = row Mvp (codes "local.tee") None 0x22
memory_info (memory.GlobalGet global_index) = row Mvp (codes "global.get") None 0x23
memory_info (memory.GlobalSet global_index) = row Mvp (codes "global.set") None 0x24
memory_info (memory.I32Load memarg) = row Mvp (codes "i32.load") None 0x28
memory_info (memory.I64Load memarg) = row Mvp (codes "i64.load") None 0x29
memory_info (memory.F32Load memarg) = row Mvp (codes "f32.load") None 0x2a
memory_info (memory.F64Load memarg) = row Mvp (codes "f64.load") None 0x2b
memory_info (memory.I32Load8S memarg) = row Mvp (codes "i32.load8_s") None 0x2c
memory_info (memory.I32Load8U memarg) = row Mvp (codes "i32.load8_u") None 0x2d
memory_info (memory.I32Load16S memarg) = row Mvp (codes "i32.load16_s") None 0x2e
memory_info (memory.I32Load16U memarg) = row Mvp (codes "i32.load16_u") None 0x2f
memory_info (memory.I64Load8S memarg) = row Mvp (codes "i64.load8_s") None 0x30
memory_info (memory.I64Load8U memarg) = row Mvp (codes "i64.load8_u") None 0x31
memory_info (memory.I64Load16S memarg) = row Mvp (codes "i64.load16_s") None 0x32
memory_info (memory.I64Load16U memarg) = row Mvp (codes "i64.load16_u") None 0x33
memory_info (memory.I64Load32S memarg) = row Mvp (codes "i64.load32_s") None 0x34
memory_info (memory.I64Load32U memarg) = row Mvp (codes "i64.load32_u") None 0x35
memory_info (memory.I32Store memarg) = row Mvp (codes "i32.store") None 0x36
memory_info (memory.I64Store memarg) = row Mvp (codes "i64.store") None 0x37
memory_info (memory.F32Store memarg) = row Mvp (codes "f32.store") None 0x38
memory_info (memory.F64Store memarg) = row Mvp (codes "f64.store") None 0x39
memory_info (memory.I32Store8 memarg) = row Mvp (codes "i32.store8") None 0x3a
memory_info (memory.I32Store16 memarg) = row Mvp (codes "i32.store16") None 0x3b
memory_info (memory.I64Store8 memarg) = row Mvp (codes "i64.store8") None 0x3c
memory_info (memory.I64Store16 memarg) = row Mvp (codes "i64.store16") None 0x3d
memory_info (memory.I64Store32 memarg) = row Mvp (codes "i64.store32") None 0x3e
memory_info (memory.MemorySize mem) = row Mvp (codes "memory.size") None 0x3f
memory_info (memory.MemoryGrow mem) = row Mvp (codes "memory.grow") None 0x40

-- standard: binary-instr-numeric: opcodes of constants
-- of constants
abbrev pub const_info : ConstOperator → Info
const_info (const.I32Const value) = row Mvp (codes "i32.const") None 0x41
const_info (const.I64Const value) = row Mvp (codes "i64.const") None 0x42
const_info (const.F32Const value) = row Mvp (codes "f32.const") None 0x43
const_info (const.F64Const value) = row Mvp (codes "f64.const") None 0x44

-- standard: binary-instr-table: opcodes
-- standard: binary-instr-memory: opcodes of bulk instructions (differs: memory.discard too)
-- standard: binary-instr-ref: opcodes of ref.null, ref.is_null and ref.func
-- of ranges of memories and tables, of tables and of references
abbrev pub bulk_info : BulkOperator → Info
bulk_info (bulk.TableGet table) = row ReferenceTypes (codes "table.get") None 0x25
bulk_info (bulk.TableSet table) = row ReferenceTypes (codes "table.set") None 0x26
bulk_info (bulk.RefNull hty) = row ReferenceTypes (codes "ref.null") None 0xd0
bulk_info bulk.RefIsNull = row ReferenceTypes (codes "ref.is_null") None 0xd1
bulk_info (bulk.RefFunc function_index) = row ReferenceTypes (codes "ref.func") None 0xd2
bulk_info (bulk.MemoryInit data_index mem) = row BulkMemory (codes "memory.init") (Some 0xfc) 0x08
bulk_info (bulk.DataDrop data_index) = row BulkMemory (codes "data.drop") (Some 0xfc) 0x09
bulk_info (bulk.MemoryCopy dst_mem src_mem) = row BulkMemoryOpt (codes "memory.copy") (Some 0xfc) 0x0a
bulk_info (bulk.MemoryFill mem) = row BulkMemoryOpt (codes "memory.fill") (Some 0xfc) 0x0b
bulk_info (bulk.TableInit elem_index table) = row BulkMemory (codes "table.init") (Some 0xfc) 0x0c
bulk_info (bulk.ElemDrop elem_index) = row BulkMemory (codes "elem.drop") (Some 0xfc) 0x0d
bulk_info (bulk.TableCopy dst_table src_table) = row BulkMemory (codes "table.copy") (Some 0xfc) 0x0e
bulk_info (bulk.TableGrow table) = row ReferenceTypes (codes "table.grow") (Some 0xfc) 0x0f
bulk_info (bulk.TableSize table) = row ReferenceTypes (codes "table.size") (Some 0xfc) 0x10
bulk_info (bulk.TableFill table) = row ReferenceTypes (codes "table.fill") (Some 0xfc) 0x11
bulk_info (bulk.MemoryDiscard mem) = row MemoryControl (codes "memory.discard") (Some 0xfc) 0x12
