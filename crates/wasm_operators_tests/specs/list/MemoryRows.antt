-- Operators of variables, memories, constants, tables and references, as the list has them (written by docs/operators/make_list_rows.py).
use Rattle.std.specs.Prelude.{List, [], ◌∷◌, codes, Some, None}
use Rattle.wasm_operators_immediates.specs.declared.proposal.Proposal.TheVariants as proposal
use Rattle.wasm_operators_immediates.specs.Kinds.{Index, IndexOrZero, MemoryArgument, Heap, I32Constant, I64Constant, F32Constant, F64Constant, Functions, Tables, Memories, Globals, Locals}
use Rattle.wasm_operators_immediates.specs.Kinds.{Elements, DataSegments, Plain}
use Rattle.wasm_operators_enums.specs.declared.memory.MemoryOperator.TheVariants as memory
use Rattle.wasm_operators_enums.specs.declared.constant.ConstOperator.TheVariants as const
use Rattle.wasm_operators_enums.specs.declared.bulk.BulkOperator.TheVariants as bulk
use Rattle.wasm_operators_enums.specs.Op as op
use Rattle.wasm_operators_tests.specs.list.Listed.{Carried, Listed, listed}

abbrev pub memory_rows : Carried → List Listed
memory_rows c =
    listed (op.Memory (memory.LocalGet c.number)) proposal.Mvp (codes "local.get") None 0x20 (Index Locals ∷ []) ∷
    listed (op.Memory (memory.LocalSet c.number)) proposal.Mvp (codes "local.set") None 0x21 (Index Locals ∷ []) ∷
    listed (op.Memory (memory.LocalTee c.number)) proposal.Mvp (codes "local.tee") None 0x22 (Index Locals ∷ []) ∷
    listed (op.Memory (memory.GlobalGet c.number)) proposal.Mvp (codes "global.get") None 0x23 (Index Globals ∷ []) ∷
    listed (op.Memory (memory.GlobalSet c.number)) proposal.Mvp (codes "global.set") None 0x24 (Index Globals ∷ []) ∷
    listed (op.Memory (memory.I32Load c.memarg)) proposal.Mvp (codes "i32.load") None 0x28 (MemoryArgument Plain 2 ∷ []) ∷
    listed (op.Memory (memory.I64Load c.memarg)) proposal.Mvp (codes "i64.load") None 0x29 (MemoryArgument Plain 3 ∷ []) ∷
    listed (op.Memory (memory.F32Load c.memarg)) proposal.Mvp (codes "f32.load") None 0x2a (MemoryArgument Plain 2 ∷ []) ∷
    listed (op.Memory (memory.F64Load c.memarg)) proposal.Mvp (codes "f64.load") None 0x2b (MemoryArgument Plain 3 ∷ []) ∷
    listed (op.Memory (memory.I32Load8S c.memarg)) proposal.Mvp (codes "i32.load8_s") None 0x2c (MemoryArgument Plain 0 ∷ []) ∷
    listed (op.Memory (memory.I32Load8U c.memarg)) proposal.Mvp (codes "i32.load8_u") None 0x2d (MemoryArgument Plain 0 ∷ []) ∷
    listed (op.Memory (memory.I32Load16S c.memarg)) proposal.Mvp (codes "i32.load16_s") None 0x2e (MemoryArgument Plain 1 ∷ []) ∷
    listed (op.Memory (memory.I32Load16U c.memarg)) proposal.Mvp (codes "i32.load16_u") None 0x2f (MemoryArgument Plain 1 ∷ []) ∷
    listed (op.Memory (memory.I64Load8S c.memarg)) proposal.Mvp (codes "i64.load8_s") None 0x30 (MemoryArgument Plain 0 ∷ []) ∷
    listed (op.Memory (memory.I64Load8U c.memarg)) proposal.Mvp (codes "i64.load8_u") None 0x31 (MemoryArgument Plain 0 ∷ []) ∷
    listed (op.Memory (memory.I64Load16S c.memarg)) proposal.Mvp (codes "i64.load16_s") None 0x32 (MemoryArgument Plain 1 ∷ []) ∷
    listed (op.Memory (memory.I64Load16U c.memarg)) proposal.Mvp (codes "i64.load16_u") None 0x33 (MemoryArgument Plain 1 ∷ []) ∷
    listed (op.Memory (memory.I64Load32S c.memarg)) proposal.Mvp (codes "i64.load32_s") None 0x34 (MemoryArgument Plain 2 ∷ []) ∷
    listed (op.Memory (memory.I64Load32U c.memarg)) proposal.Mvp (codes "i64.load32_u") None 0x35 (MemoryArgument Plain 2 ∷ []) ∷
    listed (op.Memory (memory.I32Store c.memarg)) proposal.Mvp (codes "i32.store") None 0x36 (MemoryArgument Plain 2 ∷ []) ∷
    listed (op.Memory (memory.I64Store c.memarg)) proposal.Mvp (codes "i64.store") None 0x37 (MemoryArgument Plain 3 ∷ []) ∷
    listed (op.Memory (memory.F32Store c.memarg)) proposal.Mvp (codes "f32.store") None 0x38 (MemoryArgument Plain 2 ∷ []) ∷
    listed (op.Memory (memory.F64Store c.memarg)) proposal.Mvp (codes "f64.store") None 0x39 (MemoryArgument Plain 3 ∷ []) ∷
    listed (op.Memory (memory.I32Store8 c.memarg)) proposal.Mvp (codes "i32.store8") None 0x3a (MemoryArgument Plain 0 ∷ []) ∷
    listed (op.Memory (memory.I32Store16 c.memarg)) proposal.Mvp (codes "i32.store16") None 0x3b (MemoryArgument Plain 1 ∷ []) ∷
    listed (op.Memory (memory.I64Store8 c.memarg)) proposal.Mvp (codes "i64.store8") None 0x3c (MemoryArgument Plain 0 ∷ []) ∷
    listed (op.Memory (memory.I64Store16 c.memarg)) proposal.Mvp (codes "i64.store16") None 0x3d (MemoryArgument Plain 1 ∷ []) ∷
    listed (op.Memory (memory.I64Store32 c.memarg)) proposal.Mvp (codes "i64.store32") None 0x3e (MemoryArgument Plain 2 ∷ []) ∷
    listed (op.Memory (memory.MemorySize c.number)) proposal.Mvp (codes "memory.size") None 0x3f (IndexOrZero Memories ∷ []) ∷
    listed (op.Memory (memory.MemoryGrow c.number)) proposal.Mvp (codes "memory.grow") None 0x40 (IndexOrZero Memories ∷ []) ∷ []

abbrev pub const_rows : Carried → List Listed
const_rows c =
    listed (op.Const (const.I32Const c.signed)) proposal.Mvp (codes "i32.const") None 0x41 (I32Constant ∷ []) ∷
    listed (op.Const (const.I64Const c.signed)) proposal.Mvp (codes "i64.const") None 0x42 (I64Constant ∷ []) ∷
    listed (op.Const (const.F32Const c.float32)) proposal.Mvp (codes "f32.const") None 0x43 (F32Constant ∷ []) ∷
    listed (op.Const (const.F64Const c.float64)) proposal.Mvp (codes "f64.const") None 0x44 (F64Constant ∷ []) ∷ []

abbrev pub bulk_rows : Carried → List Listed
bulk_rows c =
    listed (op.Bulk (bulk.TableGet c.number)) proposal.ReferenceTypes (codes "table.get") None 0x25 (Index Tables ∷ []) ∷
    listed (op.Bulk (bulk.TableSet c.number)) proposal.ReferenceTypes (codes "table.set") None 0x26 (Index Tables ∷ []) ∷
    listed (op.Bulk (bulk.RefNull c.heap)) proposal.ReferenceTypes (codes "ref.null") None 0xd0 (Heap ∷ []) ∷
    listed (op.Bulk bulk.RefIsNull) proposal.ReferenceTypes (codes "ref.is_null") None 0xd1 [] ∷
    listed (op.Bulk (bulk.RefFunc c.number)) proposal.ReferenceTypes (codes "ref.func") None 0xd2 (Index Functions ∷ []) ∷
    listed (op.Bulk (bulk.MemoryInit c.number c.number)) proposal.BulkMemory (codes "memory.init") (Some 0xfc) 0x08 (Index DataSegments ∷ Index Memories ∷ []) ∷
    listed (op.Bulk (bulk.DataDrop c.number)) proposal.BulkMemory (codes "data.drop") (Some 0xfc) 0x09 (Index DataSegments ∷ []) ∷
    listed (op.Bulk (bulk.MemoryCopy c.number c.number)) proposal.BulkMemoryOpt (codes "memory.copy") (Some 0xfc) 0x0a (Index Memories ∷ Index Memories ∷ []) ∷
    listed (op.Bulk (bulk.MemoryFill c.number)) proposal.BulkMemoryOpt (codes "memory.fill") (Some 0xfc) 0x0b (Index Memories ∷ []) ∷
    listed (op.Bulk (bulk.TableInit c.number c.number)) proposal.BulkMemory (codes "table.init") (Some 0xfc) 0x0c (Index Elements ∷ Index Tables ∷ []) ∷
    listed (op.Bulk (bulk.ElemDrop c.number)) proposal.BulkMemory (codes "elem.drop") (Some 0xfc) 0x0d (Index Elements ∷ []) ∷
    listed (op.Bulk (bulk.TableCopy c.number c.number)) proposal.BulkMemory (codes "table.copy") (Some 0xfc) 0x0e (Index Tables ∷ Index Tables ∷ []) ∷
    listed (op.Bulk (bulk.TableGrow c.number)) proposal.ReferenceTypes (codes "table.grow") (Some 0xfc) 0x0f (Index Tables ∷ []) ∷
    listed (op.Bulk (bulk.TableSize c.number)) proposal.ReferenceTypes (codes "table.size") (Some 0xfc) 0x10 (Index Tables ∷ []) ∷
    listed (op.Bulk (bulk.TableFill c.number)) proposal.ReferenceTypes (codes "table.fill") (Some 0xfc) 0x11 (Index Tables ∷ []) ∷
    listed (op.Bulk (bulk.MemoryDiscard c.number)) proposal.MemoryControl (codes "memory.discard") (Some 0xfc) 0x12 (Index Memories ∷ []) ∷ []
