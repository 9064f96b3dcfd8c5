-- Operators of variables, memories, constants, tables and references: each variant takes any immediates of its kinds.
use Rattle.std.proofs.Common.{true, map, refl}
use Rattle.wasm_operators_immediates.specs.Immediates.{kind_of}
use Rattle.wasm_operators_enums.specs.memory.Table.{memory_info, const_info, bulk_info}
use Rattle.wasm_operators_enums.specs.memory.Immediates.{memory_immediates, const_immediates, bulk_immediates}
use Rattle.wasm_operators_enums.specs.declared.memory.MemoryOperator.{MemoryOperator}
use Rattle.wasm_operators_enums.specs.declared.memory.MemoryOperator.TheVariants as memory
use Rattle.wasm_operators_enums.specs.declared.constant.ConstOperator.{ConstOperator}
use Rattle.wasm_operators_enums.specs.declared.constant.ConstOperator.TheVariants as const
use Rattle.wasm_operators_enums.specs.declared.bulk.BulkOperator.{BulkOperator}
use Rattle.wasm_operators_enums.specs.declared.bulk.BulkOperator.TheVariants as bulk
use Rattle.wasm_operators_encoding.specs.codes.Carried.{Carriers}
use Rattle.wasm_operators_encoding.specs.codes.Filled.{IsMaker, Fills, fills}

-- ---- memory

memory_by : (o : MemoryOperator) (f : Carriers (map kind_of (memory_immediates o)) → MemoryOperator)
    → IsMaker memory_info memory_immediates (λ o. true) o f → Fills memory_info memory_immediates (λ o. true) o
memory_by o f m = fills memory_info memory_immediates (λ o. true) o f m

pub memory_fills : (o : MemoryOperator) → Fills memory_info memory_immediates (λ o. true) o
memory_fills (memory.LocalGet local_index) = memory_by (memory.LocalGet local_index) (λ c. memory.LocalGet c.0) (λ c. (refl, refl, refl, refl))
memory_fills (memory.LocalSet local_index) = memory_by (memory.LocalSet local_index) (λ c. memory.LocalSet c.0) (λ c. (refl, refl, refl, refl))
memory_fills (memory.LocalTee local_index) = memory_by (memory.LocalTee local_index) (λ c. memory.LocalTee c.0) (λ c. (refl, refl, refl, refl))
memory_fills (memory.GlobalGet global_index) = memory_by (memory.GlobalGet global_index) (λ c. memory.GlobalGet c.0) (λ c. (refl, refl, refl, refl))
memory_fills (memory.GlobalSet global_index) = memory_by (memory.GlobalSet global_index) (λ c. memory.GlobalSet c.0) (λ c. (refl, refl, refl, refl))
memory_fills (memory.I32Load memarg) = memory_by (memory.I32Load memarg) (λ c. memory.I32Load c.0) (λ c. (refl, refl, refl, refl))
memory_fills (memory.I64Load memarg) = memory_by (memory.I64Load memarg) (λ c. memory.I64Load c.0) (λ c. (refl, refl, refl, refl))
memory_fills (memory.F32Load memarg) = memory_by (memory.F32Load memarg) (λ c. memory.F32Load c.0) (λ c. (refl, refl, refl, refl))
memory_fills (memory.F64Load memarg) = memory_by (memory.F64Load memarg) (λ c. memory.F64Load c.0) (λ c. (refl, refl, refl, refl))
memory_fills (memory.I32Load8S memarg) = memory_by (memory.I32Load8S memarg) (λ c. memory.I32Load8S c.0) (λ c. (refl, refl, refl, refl))
memory_fills (memory.I32Load8U memarg) = memory_by (memory.I32Load8U memarg) (λ c. memory.I32Load8U c.0) (λ c. (refl, refl, refl, refl))
memory_fills (memory.I32Load16S memarg) = memory_by (memory.I32Load16S memarg) (λ c. memory.I32Load16S c.0) (λ c. (refl, refl, refl, refl))
memory_fills (memory.I32Load16U memarg) = memory_by (memory.I32Load16U memarg) (λ c. memory.I32Load16U c.0) (λ c. (refl, refl, refl, refl))
memory_fills (memory.I64Load8S memarg) = memory_by (memory.I64Load8S memarg) (λ c. memory.I64Load8S c.0) (λ c. (refl, refl, refl, refl))
memory_fills (memory.I64Load8U memarg) = memory_by (memory.I64Load8U memarg) (λ c. memory.I64Load8U c.0) (λ c. (refl, refl, refl, refl))
memory_fills (memory.I64Load16S memarg) = memory_by (memory.I64Load16S memarg) (λ c. memory.I64Load16S c.0) (λ c. (refl, refl, refl, refl))
memory_fills (memory.I64Load16U memarg) = memory_by (memory.I64Load16U memarg) (λ c. memory.I64Load16U c.0) (λ c. (refl, refl, refl, refl))
memory_fills (memory.I64Load32S memarg) = memory_by (memory.I64Load32S memarg) (λ c. memory.I64Load32S c.0) (λ c. (refl, refl, refl, refl))
memory_fills (memory.I64Load32U memarg) = memory_by (memory.I64Load32U memarg) (λ c. memory.I64Load32U c.0) (λ c. (refl, refl, refl, refl))
memory_fills (memory.I32Store memarg) = memory_by (memory.I32Store memarg) (λ c. memory.I32Store c.0) (λ c. (refl, refl, refl, refl))
memory_fills (memory.I64Store memarg) = memory_by (memory.I64Store memarg) (λ c. memory.I64Store c.0) (λ c. (refl, refl, refl, refl))
memory_fills (memory.F32Store memarg) = memory_by (memory.F32Store memarg) (λ c. memory.F32Store c.0) (λ c. (refl, refl, refl, refl))
memory_fills (memory.F64Store memarg) = memory_by (memory.F64Store memarg) (λ c. memory.F64Store c.0) (λ c. (refl, refl, refl, refl))
memory_fills (memory.I32Store8 memarg) = memory_by (memory.I32Store8 memarg) (λ c. memory.I32Store8 c.0) (λ c. (refl, refl, refl, refl))
memory_fills (memory.I32Store16 memarg) = memory_by (memory.I32Store16 memarg) (λ c. memory.I32Store16 c.0) (λ c. (refl, refl, refl, refl))
memory_fills (memory.I64Store8 memarg) = memory_by (memory.I64Store8 memarg) (λ c. memory.I64Store8 c.0) (λ c. (refl, refl, refl, refl))
memory_fills (memory.I64Store16 memarg) = memory_by (memory.I64Store16 memarg) (λ c. memory.I64Store16 c.0) (λ c. (refl, refl, refl, refl))
memory_fills (memory.I64Store32 memarg) = memory_by (memory.I64Store32 memarg) (λ c. memory.I64Store32 c.0) (λ c. (refl, refl, refl, refl))
memory_fills (memory.MemorySize mem) = memory_by (memory.MemorySize mem) (λ c. memory.MemorySize c.0) (λ c. (refl, refl, refl, refl))
memory_fills (memory.MemoryGrow mem) = memory_by (memory.MemoryGrow mem) (λ c. memory.MemoryGrow c.0) (λ c. (refl, refl, refl, refl))

-- ---- const

const_by : (o : ConstOperator) (f : Carriers (map kind_of (const_immediates o)) → ConstOperator)
    → IsMaker const_info const_immediates (λ o. true) o f → Fills const_info const_immediates (λ o. true) o
const_by o f m = fills const_info const_immediates (λ o. true) o f m

pub const_fills : (o : ConstOperator) → Fills const_info const_immediates (λ o. true) o
const_fills (const.I32Const value) = const_by (const.I32Const value) (λ c. const.I32Const c.0) (λ c. (refl, refl, refl, refl))
const_fills (const.I64Const value) = const_by (const.I64Const value) (λ c. const.I64Const c.0) (λ c. (refl, refl, refl, refl))
const_fills (const.F32Const value) = const_by (const.F32Const value) (λ c. const.F32Const c.0) (λ c. (refl, refl, refl, refl))
const_fills (const.F64Const value) = const_by (const.F64Const value) (λ c. const.F64Const c.0) (λ c. (refl, refl, refl, refl))

-- ---- bulk

bulk_by : (o : BulkOperator) (f : Carriers (map kind_of (bulk_immediates o)) → BulkOperator)
    → IsMaker bulk_info bulk_immediates (λ o. true) o f → Fills bulk_info bulk_immediates (λ o. true) o
bulk_by o f m = fills bulk_info bulk_immediates (λ o. true) o f m

pub bulk_fills : (o : BulkOperator) → Fills bulk_info bulk_immediates (λ o. true) o
bulk_fills (bulk.TableGet table) = bulk_by (bulk.TableGet table) (λ c. bulk.TableGet c.0) (λ c. (refl, refl, refl, refl))
bulk_fills (bulk.TableSet table) = bulk_by (bulk.TableSet table) (λ c. bulk.TableSet c.0) (λ c. (refl, refl, refl, refl))
bulk_fills (bulk.RefNull hty) = bulk_by (bulk.RefNull hty) (λ c. bulk.RefNull c.0) (λ c. (refl, refl, refl, refl))
bulk_fills bulk.RefIsNull = bulk_by bulk.RefIsNull (λ c. bulk.RefIsNull) (λ c. (refl, refl, refl, refl))
bulk_fills (bulk.RefFunc function_index) = bulk_by (bulk.RefFunc function_index) (λ c. bulk.RefFunc c.0) (λ c. (refl, refl, refl, refl))
bulk_fills (bulk.MemoryInit data_index mem) = bulk_by (bulk.MemoryInit data_index mem) (λ c. bulk.MemoryInit c.0 c.1.0) (λ c. (refl, refl, refl, refl))
bulk_fills (bulk.DataDrop data_index) = bulk_by (bulk.DataDrop data_index) (λ c. bulk.DataDrop c.0) (λ c. (refl, refl, refl, refl))
bulk_fills (bulk.MemoryCopy dst_mem src_mem) = bulk_by (bulk.MemoryCopy dst_mem src_mem) (λ c. bulk.MemoryCopy c.0 c.1.0) (λ c. (refl, refl, refl, refl))
bulk_fills (bulk.MemoryFill mem) = bulk_by (bulk.MemoryFill mem) (λ c. bulk.MemoryFill c.0) (λ c. (refl, refl, refl, refl))
bulk_fills (bulk.TableInit elem_index table) = bulk_by (bulk.TableInit elem_index table) (λ c. bulk.TableInit c.0 c.1.0) (λ c. (refl, refl, refl, refl))
bulk_fills (bulk.ElemDrop elem_index) = bulk_by (bulk.ElemDrop elem_index) (λ c. bulk.ElemDrop c.0) (λ c. (refl, refl, refl, refl))
bulk_fills (bulk.TableCopy dst_table src_table) = bulk_by (bulk.TableCopy dst_table src_table) (λ c. bulk.TableCopy c.0 c.1.0) (λ c. (refl, refl, refl, refl))
bulk_fills (bulk.TableGrow table) = bulk_by (bulk.TableGrow table) (λ c. bulk.TableGrow c.0) (λ c. (refl, refl, refl, refl))
bulk_fills (bulk.TableSize table) = bulk_by (bulk.TableSize table) (λ c. bulk.TableSize c.0) (λ c. (refl, refl, refl, refl))
bulk_fills (bulk.TableFill table) = bulk_by (bulk.TableFill table) (λ c. bulk.TableFill c.0) (λ c. (refl, refl, refl, refl))
bulk_fills (bulk.MemoryDiscard mem) = bulk_by (bulk.MemoryDiscard mem) (λ c. bulk.MemoryDiscard c.0) (λ c. (refl, refl, refl, refl))
