-- Operators of variables, memories, constants, tables and references are found by prefix and code, and made of their immediates.
use Rattle.std.proofs.Common.{List, [], ◌∷◌, map, refl, pos}
use Rattle.wasm_operators_immediates.proofs.Codes.{Told, Made}
use Rattle.wasm_operators_immediates.specs.Immediates.{kind_of}
use Rattle.wasm_operators_immediates.proofs.Makers.{Maker, argument, bare, float32, float64, number, one, signed, some_argument, some_float32, some_float64, two, heap, some_heap}
use Rattle.wasm_operators_enums.specs.memory.Table.{memory_info, const_info, bulk_info}
use Rattle.wasm_operators_enums.specs.memory.Immediates.{memory_immediates, const_immediates, bulk_immediates}
use Rattle.wasm_operators_enums.specs.declared.memory.MemoryOperator.{MemoryOperator}
use Rattle.wasm_operators_enums.specs.declared.memory.MemoryOperator.TheVariants as memory
use Rattle.wasm_operators_enums.specs.declared.constant.ConstOperator.{ConstOperator}
use Rattle.wasm_operators_enums.specs.declared.constant.ConstOperator.TheVariants as const
use Rattle.wasm_operators_enums.specs.declared.bulk.BulkOperator.{BulkOperator}
use Rattle.wasm_operators_enums.specs.declared.bulk.BulkOperator.TheVariants as bulk

-- ---- memory

abbrev pub memory_list : List (MemoryOperator × Maker MemoryOperator)
memory_list =
    (memory.LocalGet 0, one number memory.LocalGet) ∷
    (memory.LocalSet 0, one number memory.LocalSet) ∷
    (memory.LocalTee 0, one number memory.LocalTee) ∷
    (memory.GlobalGet 0, one number memory.GlobalGet) ∷
    (memory.GlobalSet 0, one number memory.GlobalSet) ∷
    (memory.I32Load some_argument, one argument memory.I32Load) ∷
    (memory.I64Load some_argument, one argument memory.I64Load) ∷
    (memory.F32Load some_argument, one argument memory.F32Load) ∷
    (memory.F64Load some_argument, one argument memory.F64Load) ∷
    (memory.I32Load8S some_argument, one argument memory.I32Load8S) ∷
    (memory.I32Load8U some_argument, one argument memory.I32Load8U) ∷
    (memory.I32Load16S some_argument, one argument memory.I32Load16S) ∷
    (memory.I32Load16U some_argument, one argument memory.I32Load16U) ∷
    (memory.I64Load8S some_argument, one argument memory.I64Load8S) ∷
    (memory.I64Load8U some_argument, one argument memory.I64Load8U) ∷
    (memory.I64Load16S some_argument, one argument memory.I64Load16S) ∷
    (memory.I64Load16U some_argument, one argument memory.I64Load16U) ∷
    (memory.I64Load32S some_argument, one argument memory.I64Load32S) ∷
    (memory.I64Load32U some_argument, one argument memory.I64Load32U) ∷
    (memory.I32Store some_argument, one argument memory.I32Store) ∷
    (memory.I64Store some_argument, one argument memory.I64Store) ∷
    (memory.F32Store some_argument, one argument memory.F32Store) ∷
    (memory.F64Store some_argument, one argument memory.F64Store) ∷
    (memory.I32Store8 some_argument, one argument memory.I32Store8) ∷
    (memory.I32Store16 some_argument, one argument memory.I32Store16) ∷
    (memory.I64Store8 some_argument, one argument memory.I64Store8) ∷
    (memory.I64Store16 some_argument, one argument memory.I64Store16) ∷
    (memory.I64Store32 some_argument, one argument memory.I64Store32) ∷
    (memory.MemorySize 0, one number memory.MemorySize) ∷
    (memory.MemoryGrow 0, one number memory.MemoryGrow) ∷ []

pub memory_told : (o : MemoryOperator) → Told memory_info memory_immediates (map kind_of) memory_list o
memory_told (memory.LocalGet local_index) = (refl, refl)
memory_told (memory.LocalSet local_index) = (refl, refl)
memory_told (memory.LocalTee local_index) = (refl, refl)
memory_told (memory.GlobalGet global_index) = (refl, refl)
memory_told (memory.GlobalSet global_index) = (refl, refl)
memory_told (memory.I32Load memarg) = (refl, refl)
memory_told (memory.I64Load memarg) = (refl, refl)
memory_told (memory.F32Load memarg) = (refl, refl)
memory_told (memory.F64Load memarg) = (refl, refl)
memory_told (memory.I32Load8S memarg) = (refl, refl)
memory_told (memory.I32Load8U memarg) = (refl, refl)
memory_told (memory.I32Load16S memarg) = (refl, refl)
memory_told (memory.I32Load16U memarg) = (refl, refl)
memory_told (memory.I64Load8S memarg) = (refl, refl)
memory_told (memory.I64Load8U memarg) = (refl, refl)
memory_told (memory.I64Load16S memarg) = (refl, refl)
memory_told (memory.I64Load16U memarg) = (refl, refl)
memory_told (memory.I64Load32S memarg) = (refl, refl)
memory_told (memory.I64Load32U memarg) = (refl, refl)
memory_told (memory.I32Store memarg) = (refl, refl)
memory_told (memory.I64Store memarg) = (refl, refl)
memory_told (memory.F32Store memarg) = (refl, refl)
memory_told (memory.F64Store memarg) = (refl, refl)
memory_told (memory.I32Store8 memarg) = (refl, refl)
memory_told (memory.I32Store16 memarg) = (refl, refl)
memory_told (memory.I64Store8 memarg) = (refl, refl)
memory_told (memory.I64Store16 memarg) = (refl, refl)
memory_told (memory.I64Store32 memarg) = (refl, refl)
memory_told (memory.MemorySize mem) = (refl, refl)
memory_told (memory.MemoryGrow mem) = (refl, refl)

pub memory_made : (o : MemoryOperator) → Made memory_info memory_immediates (map kind_of) memory_list o
memory_made (memory.LocalGet local_index) = refl
memory_made (memory.LocalSet local_index) = refl
memory_made (memory.LocalTee local_index) = refl
memory_made (memory.GlobalGet global_index) = refl
memory_made (memory.GlobalSet global_index) = refl
memory_made (memory.I32Load memarg) = refl
memory_made (memory.I64Load memarg) = refl
memory_made (memory.F32Load memarg) = refl
memory_made (memory.F64Load memarg) = refl
memory_made (memory.I32Load8S memarg) = refl
memory_made (memory.I32Load8U memarg) = refl
memory_made (memory.I32Load16S memarg) = refl
memory_made (memory.I32Load16U memarg) = refl
memory_made (memory.I64Load8S memarg) = refl
memory_made (memory.I64Load8U memarg) = refl
memory_made (memory.I64Load16S memarg) = refl
memory_made (memory.I64Load16U memarg) = refl
memory_made (memory.I64Load32S memarg) = refl
memory_made (memory.I64Load32U memarg) = refl
memory_made (memory.I32Store memarg) = refl
memory_made (memory.I64Store memarg) = refl
memory_made (memory.F32Store memarg) = refl
memory_made (memory.F64Store memarg) = refl
memory_made (memory.I32Store8 memarg) = refl
memory_made (memory.I32Store16 memarg) = refl
memory_made (memory.I64Store8 memarg) = refl
memory_made (memory.I64Store16 memarg) = refl
memory_made (memory.I64Store32 memarg) = refl
memory_made (memory.MemorySize mem) = refl
memory_made (memory.MemoryGrow mem) = refl

-- ---- const

abbrev pub const_list : List (ConstOperator × Maker ConstOperator)
const_list =
    (const.I32Const (pos 0), one signed const.I32Const) ∷
    (const.I64Const (pos 0), one signed const.I64Const) ∷
    (const.F32Const some_float32, one float32 const.F32Const) ∷
    (const.F64Const some_float64, one float64 const.F64Const) ∷ []

pub const_told : (o : ConstOperator) → Told const_info const_immediates (map kind_of) const_list o
const_told (const.I32Const value) = (refl, refl)
const_told (const.I64Const value) = (refl, refl)
const_told (const.F32Const value) = (refl, refl)
const_told (const.F64Const value) = (refl, refl)

pub const_made : (o : ConstOperator) → Made const_info const_immediates (map kind_of) const_list o
const_made (const.I32Const value) = refl
const_made (const.I64Const value) = refl
const_made (const.F32Const value) = refl
const_made (const.F64Const value) = refl

-- ---- bulk

abbrev pub bulk_list : List (BulkOperator × Maker BulkOperator)
bulk_list =
    (bulk.TableGet 0, one number bulk.TableGet) ∷
    (bulk.TableSet 0, one number bulk.TableSet) ∷
    (bulk.RefNull some_heap, one heap bulk.RefNull) ∷
    (bulk.RefIsNull, bare bulk.RefIsNull) ∷
    (bulk.RefFunc 0, one number bulk.RefFunc) ∷
    (bulk.MemoryInit 0 0, two number number bulk.MemoryInit) ∷
    (bulk.DataDrop 0, one number bulk.DataDrop) ∷
    (bulk.MemoryCopy 0 0, two number number bulk.MemoryCopy) ∷
    (bulk.MemoryFill 0, one number bulk.MemoryFill) ∷
    (bulk.TableInit 0 0, two number number bulk.TableInit) ∷
    (bulk.ElemDrop 0, one number bulk.ElemDrop) ∷
    (bulk.TableCopy 0 0, two number number bulk.TableCopy) ∷
    (bulk.TableGrow 0, one number bulk.TableGrow) ∷
    (bulk.TableSize 0, one number bulk.TableSize) ∷
    (bulk.TableFill 0, one number bulk.TableFill) ∷
    (bulk.MemoryDiscard 0, one number bulk.MemoryDiscard) ∷ []

pub bulk_told : (o : BulkOperator) → Told bulk_info bulk_immediates (map kind_of) bulk_list o
bulk_told (bulk.TableGet table) = (refl, refl)
bulk_told (bulk.TableSet table) = (refl, refl)
bulk_told (bulk.RefNull hty) = (refl, refl)
bulk_told bulk.RefIsNull = (refl, refl)
bulk_told (bulk.RefFunc function_index) = (refl, refl)
bulk_told (bulk.MemoryInit data_index mem) = (refl, refl)
bulk_told (bulk.DataDrop data_index) = (refl, refl)
bulk_told (bulk.MemoryCopy dst_mem src_mem) = (refl, refl)
bulk_told (bulk.MemoryFill mem) = (refl, refl)
bulk_told (bulk.TableInit elem_index table) = (refl, refl)
bulk_told (bulk.ElemDrop elem_index) = (refl, refl)
bulk_told (bulk.TableCopy dst_table src_table) = (refl, refl)
bulk_told (bulk.TableGrow table) = (refl, refl)
bulk_told (bulk.TableSize table) = (refl, refl)
bulk_told (bulk.TableFill table) = (refl, refl)
bulk_told (bulk.MemoryDiscard mem) = (refl, refl)

pub bulk_made : (o : BulkOperator) → Made bulk_info bulk_immediates (map kind_of) bulk_list o
bulk_made (bulk.TableGet table) = refl
bulk_made (bulk.TableSet table) = refl
bulk_made (bulk.RefNull hty) = refl
bulk_made bulk.RefIsNull = refl
bulk_made (bulk.RefFunc function_index) = refl
bulk_made (bulk.MemoryInit data_index mem) = refl
bulk_made (bulk.DataDrop data_index) = refl
bulk_made (bulk.MemoryCopy dst_mem src_mem) = refl
bulk_made (bulk.MemoryFill mem) = refl
bulk_made (bulk.TableInit elem_index table) = refl
bulk_made (bulk.ElemDrop elem_index) = refl
bulk_made (bulk.TableCopy dst_table src_table) = refl
bulk_made (bulk.TableGrow table) = refl
bulk_made (bulk.TableSize table) = refl
bulk_made (bulk.TableFill table) = refl
bulk_made (bulk.MemoryDiscard mem) = refl
