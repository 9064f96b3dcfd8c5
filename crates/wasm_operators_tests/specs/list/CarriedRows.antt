-- What each operator carries behind its opcode, in the order of the bytes, as the list has it (written by
-- docs/operators/make_list_rows.py).
use Rattle.std.specs.Prelude.{List, [], ◌∷◌}
use Rattle.wasm_operators_immediates.specs.Kinds.{Types, Functions, Tables, Memories, Globals, Locals, Tags, Elements, DataSegments, Fields, Plain, Atomic, ReadModifyWrite}
use Rattle.wasm_operators_immediates.specs.Immediates.{Index, IndexOrZero, Label, Block, BranchTable, MemoryArgument, MemoryOrdering, Heap, CastBranch, ValueTypes, I32Constant, I64Constant}
use Rattle.wasm_operators_immediates.specs.Immediates.{F32Constant, F64Constant, V128Constant, Lane, Lanes, Count, TryTable, Handlers, ZeroByte}
use Rattle.wasm_operators_enums.specs.declared.control.ControlOperator.TheVariants as control
use Rattle.wasm_operators_enums.specs.declared.memory.MemoryOperator.TheVariants as memory
use Rattle.wasm_operators_enums.specs.declared.constant.ConstOperator.TheVariants as const
use Rattle.wasm_operators_enums.specs.declared.bulk.BulkOperator.TheVariants as bulk
use Rattle.wasm_operators_enums.specs.declared.gc.GcOperator.TheVariants as gc
use Rattle.wasm_operators_enums.specs.declared.gc.DescriptorOperator.TheVariants as descriptor
use Rattle.wasm_operators_enums.specs.declared.atomic.AtomicOperator.TheVariants as atomic
use Rattle.wasm_operators_enums.specs.declared.atomic.SharedOperator.TheVariants as shared
use Rattle.wasm_operators_enums.specs.declared.vector.SimdOperator.TheVariants as simd
use Rattle.wasm_operators_enums.specs.Op as op
use Rattle.wasm_operators_tests.specs.list.Listed.{Carried, Carries, carries, to_non_null, to_null}

abbrev pub control_carries : Carried → List Carries
control_carries c =
    carries (op.Control (control.Block c.block)) (Block c.block ∷ []) ∷
    carries (op.Control (control.Loop c.block)) (Block c.block ∷ []) ∷
    carries (op.Control (control.If c.block)) (Block c.block ∷ []) ∷
    carries (op.Control (control.Br 1)) (Label 1 ∷ []) ∷
    carries (op.Control (control.BrIf 1)) (Label 1 ∷ []) ∷
    carries (op.Control (control.BrTable c.labels)) (BranchTable c.labels ∷ []) ∷
    carries (op.Control (control.Call 1)) (Index Functions 1 ∷ []) ∷
    carries (op.Control (control.CallIndirect 1 2)) (Index Types 1 ∷ IndexOrZero Tables 2 ∷ []) ∷
    carries (op.Control (control.ReturnCall 1)) (Index Functions 1 ∷ []) ∷
    carries (op.Control (control.ReturnCallIndirect 1 2)) (Index Types 1 ∷ Index Tables 2 ∷ []) ∷
    carries (op.Control (control.CallRef 1)) (Index Types 1 ∷ []) ∷
    carries (op.Control (control.ReturnCallRef 1)) (Index Types 1 ∷ []) ∷
    carries (op.Control (control.BrOnNull 1)) (Label 1 ∷ []) ∷
    carries (op.Control (control.BrOnNonNull 1)) (Label 1 ∷ []) ∷ []

abbrev pub parametric_carries : Carried → List Carries
parametric_carries c =
    carries (op.Parametric (op.TypedSelect c.value)) (ValueTypes (c.value ∷ []) ∷ []) ∷
    carries (op.Parametric (op.TypedSelectMulti c.values)) (ValueTypes c.values ∷ []) ∷ []

abbrev pub exception_carries : Carried → List Carries
exception_carries c =
    carries (op.Exception (op.Try c.block)) (Block c.block ∷ []) ∷
    carries (op.Exception (op.Catch 1)) (Index Tags 1 ∷ []) ∷
    carries (op.Exception (op.Throw 1)) (Index Tags 1 ∷ []) ∷
    carries (op.Exception (op.Rethrow 1)) (Label 1 ∷ []) ∷
    carries (op.Exception (op.Delegate 1)) (Label 1 ∷ []) ∷
    carries (op.Exception (op.TryTable c.clauses)) (TryTable c.clauses ∷ []) ∷ []

abbrev pub continuation_carries : Carried → List Carries
continuation_carries c =
    carries (op.Continuation (op.ContNew 1)) (Index Types 1 ∷ []) ∷
    carries (op.Continuation (op.ContBind 1 2)) (Index Types 1 ∷ Index Types 2 ∷ []) ∷
    carries (op.Continuation (op.Suspend 1)) (Index Tags 1 ∷ []) ∷
    carries (op.Continuation (op.Resume 1 c.handlers)) (Index Types 1 ∷ Handlers c.handlers ∷ []) ∷
    carries (op.Continuation (op.ResumeThrow 1 2 c.handlers)) (Index Types 1 ∷ Index Tags 2 ∷ Handlers c.handlers ∷ []) ∷
    carries (op.Continuation (op.ResumeThrowRef 1 c.handlers)) (Index Types 1 ∷ Handlers c.handlers ∷ []) ∷
    carries (op.Continuation (op.Switch 1 2)) (Index Types 1 ∷ Index Tags 2 ∷ []) ∷ []

abbrev pub memory_carries : Carried → List Carries
memory_carries c =
    carries (op.Memory (memory.LocalGet 1)) (Index Locals 1 ∷ []) ∷
    carries (op.Memory (memory.LocalSet 1)) (Index Locals 1 ∷ []) ∷
    carries (op.Memory (memory.LocalTee 1)) (Index Locals 1 ∷ []) ∷
    carries (op.Memory (memory.GlobalGet 1)) (Index Globals 1 ∷ []) ∷
    carries (op.Memory (memory.GlobalSet 1)) (Index Globals 1 ∷ []) ∷
    carries (op.Memory (memory.I32Load c.memarg)) (MemoryArgument Plain 2 c.memarg ∷ []) ∷
    carries (op.Memory (memory.I64Load c.memarg)) (MemoryArgument Plain 3 c.memarg ∷ []) ∷
    carries (op.Memory (memory.F32Load c.memarg)) (MemoryArgument Plain 2 c.memarg ∷ []) ∷
    carries (op.Memory (memory.F64Load c.memarg)) (MemoryArgument Plain 3 c.memarg ∷ []) ∷
    carries (op.Memory (memory.I32Load8S c.memarg)) (MemoryArgument Plain 0 c.memarg ∷ []) ∷
    carries (op.Memory (memory.I32Load8U c.memarg)) (MemoryArgument Plain 0 c.memarg ∷ []) ∷
    carries (op.Memory (memory.I32Load16S c.memarg)) (MemoryArgument Plain 1 c.memarg ∷ []) ∷
    carries (op.Memory (memory.I32Load16U c.memarg)) (MemoryArgument Plain 1 c.memarg ∷ []) ∷
    carries (op.Memory (memory.I64Load8S c.memarg)) (MemoryArgument Plain 0 c.memarg ∷ []) ∷
    carries (op.Memory (memory.I64Load8U c.memarg)) (MemoryArgument Plain 0 c.memarg ∷ []) ∷
    carries (op.Memory (memory.I64Load16S c.memarg)) (MemoryArgument Plain 1 c.memarg ∷ []) ∷
    carries (op.Memory (memory.I64Load16U c.memarg)) (MemoryArgument Plain 1 c.memarg ∷ []) ∷
    carries (op.Memory (memory.I64Load32S c.memarg)) (MemoryArgument Plain 2 c.memarg ∷ []) ∷
    carries (op.Memory (memory.I64Load32U c.memarg)) (MemoryArgument Plain 2 c.memarg ∷ []) ∷
    carries (op.Memory (memory.I32Store c.memarg)) (MemoryArgument Plain 2 c.memarg ∷ []) ∷
    carries (op.Memory (memory.I64Store c.memarg)) (MemoryArgument Plain 3 c.memarg ∷ []) ∷
    carries (op.Memory (memory.F32Store c.memarg)) (MemoryArgument Plain 2 c.memarg ∷ []) ∷
    carries (op.Memory (memory.F64Store c.memarg)) (MemoryArgument Plain 3 c.memarg ∷ []) ∷
    carries (op.Memory (memory.I32Store8 c.memarg)) (MemoryArgument Plain 0 c.memarg ∷ []) ∷
    carries (op.Memory (memory.I32Store16 c.memarg)) (MemoryArgument Plain 1 c.memarg ∷ []) ∷
    carries (op.Memory (memory.I64Store8 c.memarg)) (MemoryArgument Plain 0 c.memarg ∷ []) ∷
    carries (op.Memory (memory.I64Store16 c.memarg)) (MemoryArgument Plain 1 c.memarg ∷ []) ∷
    carries (op.Memory (memory.I64Store32 c.memarg)) (MemoryArgument Plain 2 c.memarg ∷ []) ∷
    carries (op.Memory (memory.MemorySize 1)) (IndexOrZero Memories 1 ∷ []) ∷
    carries (op.Memory (memory.MemoryGrow 1)) (IndexOrZero Memories 1 ∷ []) ∷ []

abbrev pub const_carries : Carried → List Carries
const_carries c =
    carries (op.Const (const.I32Const c.signed)) (I32Constant c.signed ∷ []) ∷
    carries (op.Const (const.I64Const c.signed)) (I64Constant c.signed ∷ []) ∷
    carries (op.Const (const.F32Const c.float32)) (F32Constant c.float32 ∷ []) ∷
    carries (op.Const (const.F64Const c.float64)) (F64Constant c.float64 ∷ []) ∷ []

abbrev pub bulk_carries : Carried → List Carries
bulk_carries c =
    carries (op.Bulk (bulk.TableGet 1)) (Index Tables 1 ∷ []) ∷
    carries (op.Bulk (bulk.TableSet 1)) (Index Tables 1 ∷ []) ∷
    carries (op.Bulk (bulk.RefNull c.heap)) (Heap c.heap ∷ []) ∷
    carries (op.Bulk (bulk.RefFunc 1)) (Index Functions 1 ∷ []) ∷
    carries (op.Bulk (bulk.MemoryInit 1 2)) (Index DataSegments 1 ∷ Index Memories 2 ∷ []) ∷
    carries (op.Bulk (bulk.DataDrop 1)) (Index DataSegments 1 ∷ []) ∷
    carries (op.Bulk (bulk.MemoryCopy 1 2)) (Index Memories 1 ∷ Index Memories 2 ∷ []) ∷
    carries (op.Bulk (bulk.MemoryFill 1)) (Index Memories 1 ∷ []) ∷
    carries (op.Bulk (bulk.TableInit 1 2)) (Index Elements 1 ∷ Index Tables 2 ∷ []) ∷
    carries (op.Bulk (bulk.ElemDrop 1)) (Index Elements 1 ∷ []) ∷
    carries (op.Bulk (bulk.TableCopy 1 2)) (Index Tables 1 ∷ Index Tables 2 ∷ []) ∷
    carries (op.Bulk (bulk.TableGrow 1)) (Index Tables 1 ∷ []) ∷
    carries (op.Bulk (bulk.TableSize 1)) (Index Tables 1 ∷ []) ∷
    carries (op.Bulk (bulk.TableFill 1)) (Index Tables 1 ∷ []) ∷
    carries (op.Bulk (bulk.MemoryDiscard 1)) (Index Memories 1 ∷ []) ∷ []

abbrev pub gc_carries : Carried → List Carries
gc_carries c =
    carries (op.Gc (gc.StructNew 1)) (Index Types 1 ∷ []) ∷
    carries (op.Gc (gc.StructNewDefault 1)) (Index Types 1 ∷ []) ∷
    carries (op.Gc (gc.StructGet 1 2)) (Index Types 1 ∷ Index Fields 2 ∷ []) ∷
    carries (op.Gc (gc.StructGetS 1 2)) (Index Types 1 ∷ Index Fields 2 ∷ []) ∷
    carries (op.Gc (gc.StructGetU 1 2)) (Index Types 1 ∷ Index Fields 2 ∷ []) ∷
    carries (op.Gc (gc.StructSet 1 2)) (Index Types 1 ∷ Index Fields 2 ∷ []) ∷
    carries (op.Gc (gc.ArrayNew 1)) (Index Types 1 ∷ []) ∷
    carries (op.Gc (gc.ArrayNewDefault 1)) (Index Types 1 ∷ []) ∷
    carries (op.Gc (gc.ArrayNewFixed 1 2)) (Index Types 1 ∷ Count 2 ∷ []) ∷
    carries (op.Gc (gc.ArrayNewData 1 2)) (Index Types 1 ∷ Index DataSegments 2 ∷ []) ∷
    carries (op.Gc (gc.ArrayNewElem 1 2)) (Index Types 1 ∷ Index Elements 2 ∷ []) ∷
    carries (op.Gc (gc.ArrayGet 1)) (Index Types 1 ∷ []) ∷
    carries (op.Gc (gc.ArrayGetS 1)) (Index Types 1 ∷ []) ∷
    carries (op.Gc (gc.ArrayGetU 1)) (Index Types 1 ∷ []) ∷
    carries (op.Gc (gc.ArraySet 1)) (Index Types 1 ∷ []) ∷
    carries (op.Gc (gc.ArrayFill 1)) (Index Types 1 ∷ []) ∷
    carries (op.Gc (gc.ArrayCopy 1 2)) (Index Types 1 ∷ Index Types 2 ∷ []) ∷
    carries (op.Gc (gc.ArrayInitData 1 2)) (Index Types 1 ∷ Index DataSegments 2 ∷ []) ∷
    carries (op.Gc (gc.ArrayInitElem 1 2)) (Index Types 1 ∷ Index Elements 2 ∷ []) ∷
    carries (op.Gc (gc.RefTestNonNull c.heap)) (Heap c.heap ∷ []) ∷
    carries (op.Gc (gc.RefTestNullable c.heap)) (Heap c.heap ∷ []) ∷
    carries (op.Gc (gc.RefCastNonNull c.heap)) (Heap c.heap ∷ []) ∷
    carries (op.Gc (gc.RefCastNullable c.heap)) (Heap c.heap ∷ []) ∷
    carries (op.Gc (gc.BrOnCast 1 (to_non_null c) (to_null c))) (CastBranch 1 (to_non_null c) (to_null c) ∷ []) ∷
    carries (op.Gc (gc.BrOnCastFail 1 (to_non_null c) (to_null c))) (CastBranch 1 (to_non_null c) (to_null c) ∷ []) ∷ []

abbrev pub descriptor_carries : Carried → List Carries
descriptor_carries c =
    carries (op.Descriptor (descriptor.StructNewDesc 1)) (Index Types 1 ∷ []) ∷
    carries (op.Descriptor (descriptor.StructNewDefaultDesc 1)) (Index Types 1 ∷ []) ∷
    carries (op.Descriptor (descriptor.RefGetDesc 1)) (Index Types 1 ∷ []) ∷
    carries (op.Descriptor (descriptor.RefCastDescEqNonNull c.heap)) (Heap c.heap ∷ []) ∷
    carries (op.Descriptor (descriptor.RefCastDescEqNullable c.heap)) (Heap c.heap ∷ []) ∷
    carries (op.Descriptor (descriptor.BrOnCastDescEq 1 (to_non_null c) (to_null c))) (CastBranch 1 (to_non_null c) (to_null c) ∷ []) ∷
    carries (op.Descriptor (descriptor.BrOnCastDescEqFail 1 (to_non_null c) (to_null c))) (CastBranch 1 (to_non_null c) (to_null c) ∷ []) ∷ []

abbrev pub atomic_carries : Carried → List Carries
atomic_carries c =
    carries (op.Atomic (atomic.MemoryAtomicNotify c.memarg)) (MemoryArgument Atomic 2 c.memarg ∷ []) ∷
    carries (op.Atomic (atomic.MemoryAtomicWait32 c.memarg)) (MemoryArgument Atomic 2 c.memarg ∷ []) ∷
    carries (op.Atomic (atomic.MemoryAtomicWait64 c.memarg)) (MemoryArgument Atomic 3 c.memarg ∷ []) ∷
    carries (op.Atomic atomic.AtomicFence) (ZeroByte ∷ []) ∷
    carries (op.Atomic (atomic.I32AtomicLoad c.memarg)) (MemoryArgument Atomic 2 c.memarg ∷ []) ∷
    carries (op.Atomic (atomic.I64AtomicLoad c.memarg)) (MemoryArgument Atomic 3 c.memarg ∷ []) ∷
    carries (op.Atomic (atomic.I32AtomicLoad8U c.memarg)) (MemoryArgument Atomic 0 c.memarg ∷ []) ∷
    carries (op.Atomic (atomic.I32AtomicLoad16U c.memarg)) (MemoryArgument Atomic 1 c.memarg ∷ []) ∷
    carries (op.Atomic (atomic.I64AtomicLoad8U c.memarg)) (MemoryArgument Atomic 0 c.memarg ∷ []) ∷
    carries (op.Atomic (atomic.I64AtomicLoad16U c.memarg)) (MemoryArgument Atomic 1 c.memarg ∷ []) ∷
    carries (op.Atomic (atomic.I64AtomicLoad32U c.memarg)) (MemoryArgument Atomic 2 c.memarg ∷ []) ∷
    carries (op.Atomic (atomic.I32AtomicStore c.memarg)) (MemoryArgument Atomic 2 c.memarg ∷ []) ∷
    carries (op.Atomic (atomic.I64AtomicStore c.memarg)) (MemoryArgument Atomic 3 c.memarg ∷ []) ∷
    carries (op.Atomic (atomic.I32AtomicStore8 c.memarg)) (MemoryArgument Atomic 0 c.memarg ∷ []) ∷
    carries (op.Atomic (atomic.I32AtomicStore16 c.memarg)) (MemoryArgument Atomic 1 c.memarg ∷ []) ∷
    carries (op.Atomic (atomic.I64AtomicStore8 c.memarg)) (MemoryArgument Atomic 0 c.memarg ∷ []) ∷
    carries (op.Atomic (atomic.I64AtomicStore16 c.memarg)) (MemoryArgument Atomic 1 c.memarg ∷ []) ∷
    carries (op.Atomic (atomic.I64AtomicStore32 c.memarg)) (MemoryArgument Atomic 2 c.memarg ∷ []) ∷
    carries (op.Atomic (atomic.I32AtomicRmwAdd c.memarg)) (MemoryArgument ReadModifyWrite 2 c.memarg ∷ []) ∷
    carries (op.Atomic (atomic.I64AtomicRmwAdd c.memarg)) (MemoryArgument ReadModifyWrite 3 c.memarg ∷ []) ∷
    carries (op.Atomic (atomic.I32AtomicRmw8AddU c.memarg)) (MemoryArgument ReadModifyWrite 0 c.memarg ∷ []) ∷
    carries (op.Atomic (atomic.I32AtomicRmw16AddU c.memarg)) (MemoryArgument ReadModifyWrite 1 c.memarg ∷ []) ∷
    carries (op.Atomic (atomic.I64AtomicRmw8AddU c.memarg)) (MemoryArgument ReadModifyWrite 0 c.memarg ∷ []) ∷
    carries (op.Atomic (atomic.I64AtomicRmw16AddU c.memarg)) (MemoryArgument ReadModifyWrite 1 c.memarg ∷ []) ∷
    carries (op.Atomic (atomic.I64AtomicRmw32AddU c.memarg)) (MemoryArgument ReadModifyWrite 2 c.memarg ∷ []) ∷
    carries (op.Atomic (atomic.I32AtomicRmwSub c.memarg)) (MemoryArgument ReadModifyWrite 2 c.memarg ∷ []) ∷
    carries (op.Atomic (atomic.I64AtomicRmwSub c.memarg)) (MemoryArgument ReadModifyWrite 3 c.memarg ∷ []) ∷
    carries (op.Atomic (atomic.I32AtomicRmw8SubU c.memarg)) (MemoryArgument ReadModifyWrite 0 c.memarg ∷ []) ∷
    carries (op.Atomic (atomic.I32AtomicRmw16SubU c.memarg)) (MemoryArgument ReadModifyWrite 1 c.memarg ∷ []) ∷
    carries (op.Atomic (atomic.I64AtomicRmw8SubU c.memarg)) (MemoryArgument ReadModifyWrite 0 c.memarg ∷ []) ∷
    carries (op.Atomic (atomic.I64AtomicRmw16SubU c.memarg)) (MemoryArgument ReadModifyWrite 1 c.memarg ∷ []) ∷
    carries (op.Atomic (atomic.I64AtomicRmw32SubU c.memarg)) (MemoryArgument ReadModifyWrite 2 c.memarg ∷ []) ∷
    carries (op.Atomic (atomic.I32AtomicRmwAnd c.memarg)) (MemoryArgument ReadModifyWrite 2 c.memarg ∷ []) ∷
    carries (op.Atomic (atomic.I64AtomicRmwAnd c.memarg)) (MemoryArgument ReadModifyWrite 3 c.memarg ∷ []) ∷
    carries (op.Atomic (atomic.I32AtomicRmw8AndU c.memarg)) (MemoryArgument ReadModifyWrite 0 c.memarg ∷ []) ∷
    carries (op.Atomic (atomic.I32AtomicRmw16AndU c.memarg)) (MemoryArgument ReadModifyWrite 1 c.memarg ∷ []) ∷
    carries (op.Atomic (atomic.I64AtomicRmw8AndU c.memarg)) (MemoryArgument ReadModifyWrite 0 c.memarg ∷ []) ∷
    carries (op.Atomic (atomic.I64AtomicRmw16AndU c.memarg)) (MemoryArgument ReadModifyWrite 1 c.memarg ∷ []) ∷
    carries (op.Atomic (atomic.I64AtomicRmw32AndU c.memarg)) (MemoryArgument ReadModifyWrite 2 c.memarg ∷ []) ∷
    carries (op.Atomic (atomic.I32AtomicRmwOr c.memarg)) (MemoryArgument ReadModifyWrite 2 c.memarg ∷ []) ∷
    carries (op.Atomic (atomic.I64AtomicRmwOr c.memarg)) (MemoryArgument ReadModifyWrite 3 c.memarg ∷ []) ∷
    carries (op.Atomic (atomic.I32AtomicRmw8OrU c.memarg)) (MemoryArgument ReadModifyWrite 0 c.memarg ∷ []) ∷
    carries (op.Atomic (atomic.I32AtomicRmw16OrU c.memarg)) (MemoryArgument ReadModifyWrite 1 c.memarg ∷ []) ∷
    carries (op.Atomic (atomic.I64AtomicRmw8OrU c.memarg)) (MemoryArgument ReadModifyWrite 0 c.memarg ∷ []) ∷
    carries (op.Atomic (atomic.I64AtomicRmw16OrU c.memarg)) (MemoryArgument ReadModifyWrite 1 c.memarg ∷ []) ∷
    carries (op.Atomic (atomic.I64AtomicRmw32OrU c.memarg)) (MemoryArgument ReadModifyWrite 2 c.memarg ∷ []) ∷
    carries (op.Atomic (atomic.I32AtomicRmwXor c.memarg)) (MemoryArgument ReadModifyWrite 2 c.memarg ∷ []) ∷
    carries (op.Atomic (atomic.I64AtomicRmwXor c.memarg)) (MemoryArgument ReadModifyWrite 3 c.memarg ∷ []) ∷
    carries (op.Atomic (atomic.I32AtomicRmw8XorU c.memarg)) (MemoryArgument ReadModifyWrite 0 c.memarg ∷ []) ∷
    carries (op.Atomic (atomic.I32AtomicRmw16XorU c.memarg)) (MemoryArgument ReadModifyWrite 1 c.memarg ∷ []) ∷
    carries (op.Atomic (atomic.I64AtomicRmw8XorU c.memarg)) (MemoryArgument ReadModifyWrite 0 c.memarg ∷ []) ∷
    carries (op.Atomic (atomic.I64AtomicRmw16XorU c.memarg)) (MemoryArgument ReadModifyWrite 1 c.memarg ∷ []) ∷
    carries (op.Atomic (atomic.I64AtomicRmw32XorU c.memarg)) (MemoryArgument ReadModifyWrite 2 c.memarg ∷ []) ∷
    carries (op.Atomic (atomic.I32AtomicRmwXchg c.memarg)) (MemoryArgument ReadModifyWrite 2 c.memarg ∷ []) ∷
    carries (op.Atomic (atomic.I64AtomicRmwXchg c.memarg)) (MemoryArgument ReadModifyWrite 3 c.memarg ∷ []) ∷
    carries (op.Atomic (atomic.I32AtomicRmw8XchgU c.memarg)) (MemoryArgument ReadModifyWrite 0 c.memarg ∷ []) ∷
    carries (op.Atomic (atomic.I32AtomicRmw16XchgU c.memarg)) (MemoryArgument ReadModifyWrite 1 c.memarg ∷ []) ∷
    carries (op.Atomic (atomic.I64AtomicRmw8XchgU c.memarg)) (MemoryArgument ReadModifyWrite 0 c.memarg ∷ []) ∷
    carries (op.Atomic (atomic.I64AtomicRmw16XchgU c.memarg)) (MemoryArgument ReadModifyWrite 1 c.memarg ∷ []) ∷
    carries (op.Atomic (atomic.I64AtomicRmw32XchgU c.memarg)) (MemoryArgument ReadModifyWrite 2 c.memarg ∷ []) ∷
    carries (op.Atomic (atomic.I32AtomicRmwCmpxchg c.memarg)) (MemoryArgument ReadModifyWrite 2 c.memarg ∷ []) ∷
    carries (op.Atomic (atomic.I64AtomicRmwCmpxchg c.memarg)) (MemoryArgument ReadModifyWrite 3 c.memarg ∷ []) ∷
    carries (op.Atomic (atomic.I32AtomicRmw8CmpxchgU c.memarg)) (MemoryArgument ReadModifyWrite 0 c.memarg ∷ []) ∷
    carries (op.Atomic (atomic.I32AtomicRmw16CmpxchgU c.memarg)) (MemoryArgument ReadModifyWrite 1 c.memarg ∷ []) ∷
    carries (op.Atomic (atomic.I64AtomicRmw8CmpxchgU c.memarg)) (MemoryArgument ReadModifyWrite 0 c.memarg ∷ []) ∷
    carries (op.Atomic (atomic.I64AtomicRmw16CmpxchgU c.memarg)) (MemoryArgument ReadModifyWrite 1 c.memarg ∷ []) ∷
    carries (op.Atomic (atomic.I64AtomicRmw32CmpxchgU c.memarg)) (MemoryArgument ReadModifyWrite 2 c.memarg ∷ []) ∷ []

abbrev pub shared_carries : Carried → List Carries
shared_carries c =
    carries (op.Shared (shared.GlobalAtomicGet c.ordering 1)) (MemoryOrdering c.ordering ∷ Index Globals 1 ∷ []) ∷
    carries (op.Shared (shared.GlobalAtomicSet c.ordering 1)) (MemoryOrdering c.ordering ∷ Index Globals 1 ∷ []) ∷
    carries (op.Shared (shared.GlobalAtomicRmwAdd c.ordering 1)) (MemoryOrdering c.ordering ∷ Index Globals 1 ∷ []) ∷
    carries (op.Shared (shared.GlobalAtomicRmwSub c.ordering 1)) (MemoryOrdering c.ordering ∷ Index Globals 1 ∷ []) ∷
    carries (op.Shared (shared.GlobalAtomicRmwAnd c.ordering 1)) (MemoryOrdering c.ordering ∷ Index Globals 1 ∷ []) ∷
    carries (op.Shared (shared.GlobalAtomicRmwOr c.ordering 1)) (MemoryOrdering c.ordering ∷ Index Globals 1 ∷ []) ∷
    carries (op.Shared (shared.GlobalAtomicRmwXor c.ordering 1)) (MemoryOrdering c.ordering ∷ Index Globals 1 ∷ []) ∷
    carries (op.Shared (shared.GlobalAtomicRmwXchg c.ordering 1)) (MemoryOrdering c.ordering ∷ Index Globals 1 ∷ []) ∷
    carries (op.Shared (shared.GlobalAtomicRmwCmpxchg c.ordering 1)) (MemoryOrdering c.ordering ∷ Index Globals 1 ∷ []) ∷
    carries (op.Shared (shared.TableAtomicGet c.ordering 1)) (MemoryOrdering c.ordering ∷ Index Tables 1 ∷ []) ∷
    carries (op.Shared (shared.TableAtomicSet c.ordering 1)) (MemoryOrdering c.ordering ∷ Index Tables 1 ∷ []) ∷
    carries (op.Shared (shared.TableAtomicRmwXchg c.ordering 1)) (MemoryOrdering c.ordering ∷ Index Tables 1 ∷ []) ∷
    carries (op.Shared (shared.TableAtomicRmwCmpxchg c.ordering 1)) (MemoryOrdering c.ordering ∷ Index Tables 1 ∷ []) ∷
    carries (op.Shared (shared.StructAtomicGet c.ordering 1 2)) (MemoryOrdering c.ordering ∷ Index Types 1 ∷ Index Fields 2 ∷ []) ∷
    carries (op.Shared (shared.StructAtomicGetS c.ordering 1 2)) (MemoryOrdering c.ordering ∷ Index Types 1 ∷ Index Fields 2 ∷ []) ∷
    carries (op.Shared (shared.StructAtomicGetU c.ordering 1 2)) (MemoryOrdering c.ordering ∷ Index Types 1 ∷ Index Fields 2 ∷ []) ∷
    carries (op.Shared (shared.StructAtomicSet c.ordering 1 2)) (MemoryOrdering c.ordering ∷ Index Types 1 ∷ Index Fields 2 ∷ []) ∷
    carries (op.Shared (shared.StructAtomicRmwAdd c.ordering 1 2)) (MemoryOrdering c.ordering ∷ Index Types 1 ∷ Index Fields 2 ∷ []) ∷
    carries (op.Shared (shared.StructAtomicRmwSub c.ordering 1 2)) (MemoryOrdering c.ordering ∷ Index Types 1 ∷ Index Fields 2 ∷ []) ∷
    carries (op.Shared (shared.StructAtomicRmwAnd c.ordering 1 2)) (MemoryOrdering c.ordering ∷ Index Types 1 ∷ Index Fields 2 ∷ []) ∷
    carries (op.Shared (shared.StructAtomicRmwOr c.ordering 1 2)) (MemoryOrdering c.ordering ∷ Index Types 1 ∷ Index Fields 2 ∷ []) ∷
    carries (op.Shared (shared.StructAtomicRmwXor c.ordering 1 2)) (MemoryOrdering c.ordering ∷ Index Types 1 ∷ Index Fields 2 ∷ []) ∷
    carries (op.Shared (shared.StructAtomicRmwXchg c.ordering 1 2)) (MemoryOrdering c.ordering ∷ Index Types 1 ∷ Index Fields 2 ∷ []) ∷
    carries (op.Shared (shared.StructAtomicRmwCmpxchg c.ordering 1 2)) (MemoryOrdering c.ordering ∷ Index Types 1 ∷ Index Fields 2 ∷ []) ∷
    carries (op.Shared (shared.ArrayAtomicGet c.ordering 1)) (MemoryOrdering c.ordering ∷ Index Types 1 ∷ []) ∷
    carries (op.Shared (shared.ArrayAtomicGetS c.ordering 1)) (MemoryOrdering c.ordering ∷ Index Types 1 ∷ []) ∷
    carries (op.Shared (shared.ArrayAtomicGetU c.ordering 1)) (MemoryOrdering c.ordering ∷ Index Types 1 ∷ []) ∷
    carries (op.Shared (shared.ArrayAtomicSet c.ordering 1)) (MemoryOrdering c.ordering ∷ Index Types 1 ∷ []) ∷
    carries (op.Shared (shared.ArrayAtomicRmwAdd c.ordering 1)) (MemoryOrdering c.ordering ∷ Index Types 1 ∷ []) ∷
    carries (op.Shared (shared.ArrayAtomicRmwSub c.ordering 1)) (MemoryOrdering c.ordering ∷ Index Types 1 ∷ []) ∷
    carries (op.Shared (shared.ArrayAtomicRmwAnd c.ordering 1)) (MemoryOrdering c.ordering ∷ Index Types 1 ∷ []) ∷
    carries (op.Shared (shared.ArrayAtomicRmwOr c.ordering 1)) (MemoryOrdering c.ordering ∷ Index Types 1 ∷ []) ∷
    carries (op.Shared (shared.ArrayAtomicRmwXor c.ordering 1)) (MemoryOrdering c.ordering ∷ Index Types 1 ∷ []) ∷
    carries (op.Shared (shared.ArrayAtomicRmwXchg c.ordering 1)) (MemoryOrdering c.ordering ∷ Index Types 1 ∷ []) ∷
    carries (op.Shared (shared.ArrayAtomicRmwCmpxchg c.ordering 1)) (MemoryOrdering c.ordering ∷ Index Types 1 ∷ []) ∷ []

abbrev pub simd_carries : Carried → List Carries
simd_carries c =
    carries (op.Simd (simd.V128Load c.memarg)) (MemoryArgument Plain 4 c.memarg ∷ []) ∷
    carries (op.Simd (simd.V128Load8x8S c.memarg)) (MemoryArgument Plain 3 c.memarg ∷ []) ∷
    carries (op.Simd (simd.V128Load8x8U c.memarg)) (MemoryArgument Plain 3 c.memarg ∷ []) ∷
    carries (op.Simd (simd.V128Load16x4S c.memarg)) (MemoryArgument Plain 3 c.memarg ∷ []) ∷
    carries (op.Simd (simd.V128Load16x4U c.memarg)) (MemoryArgument Plain 3 c.memarg ∷ []) ∷
    carries (op.Simd (simd.V128Load32x2S c.memarg)) (MemoryArgument Plain 3 c.memarg ∷ []) ∷
    carries (op.Simd (simd.V128Load32x2U c.memarg)) (MemoryArgument Plain 3 c.memarg ∷ []) ∷
    carries (op.Simd (simd.V128Load8Splat c.memarg)) (MemoryArgument Plain 0 c.memarg ∷ []) ∷
    carries (op.Simd (simd.V128Load16Splat c.memarg)) (MemoryArgument Plain 1 c.memarg ∷ []) ∷
    carries (op.Simd (simd.V128Load32Splat c.memarg)) (MemoryArgument Plain 2 c.memarg ∷ []) ∷
    carries (op.Simd (simd.V128Load64Splat c.memarg)) (MemoryArgument Plain 3 c.memarg ∷ []) ∷
    carries (op.Simd (simd.V128Store c.memarg)) (MemoryArgument Plain 4 c.memarg ∷ []) ∷
    carries (op.Simd (simd.V128Const c.vector)) (V128Constant c.vector ∷ []) ∷
    carries (op.Simd (simd.I8x16Shuffle c.lanes)) (Lanes c.lanes ∷ []) ∷
    carries (op.Simd (simd.I8x16ExtractLaneS 1)) (Lane 16 1 ∷ []) ∷
    carries (op.Simd (simd.I8x16ExtractLaneU 1)) (Lane 16 1 ∷ []) ∷
    carries (op.Simd (simd.I8x16ReplaceLane 1)) (Lane 16 1 ∷ []) ∷
    carries (op.Simd (simd.I16x8ExtractLaneS 1)) (Lane 8 1 ∷ []) ∷
    carries (op.Simd (simd.I16x8ExtractLaneU 1)) (Lane 8 1 ∷ []) ∷
    carries (op.Simd (simd.I16x8ReplaceLane 1)) (Lane 8 1 ∷ []) ∷
    carries (op.Simd (simd.I32x4ExtractLane 1)) (Lane 4 1 ∷ []) ∷
    carries (op.Simd (simd.I32x4ReplaceLane 1)) (Lane 4 1 ∷ []) ∷
    carries (op.Simd (simd.I64x2ExtractLane 1)) (Lane 2 1 ∷ []) ∷
    carries (op.Simd (simd.I64x2ReplaceLane 1)) (Lane 2 1 ∷ []) ∷
    carries (op.Simd (simd.F32x4ExtractLane 1)) (Lane 4 1 ∷ []) ∷
    carries (op.Simd (simd.F32x4ReplaceLane 1)) (Lane 4 1 ∷ []) ∷
    carries (op.Simd (simd.F64x2ExtractLane 1)) (Lane 2 1 ∷ []) ∷
    carries (op.Simd (simd.F64x2ReplaceLane 1)) (Lane 2 1 ∷ []) ∷
    carries (op.Simd (simd.V128Load8Lane c.memarg 1)) (MemoryArgument Plain 0 c.memarg ∷ Lane 16 1 ∷ []) ∷
    carries (op.Simd (simd.V128Load16Lane c.memarg 1)) (MemoryArgument Plain 1 c.memarg ∷ Lane 8 1 ∷ []) ∷
    carries (op.Simd (simd.V128Load32Lane c.memarg 1)) (MemoryArgument Plain 2 c.memarg ∷ Lane 4 1 ∷ []) ∷
    carries (op.Simd (simd.V128Load64Lane c.memarg 1)) (MemoryArgument Plain 3 c.memarg ∷ Lane 2 1 ∷ []) ∷
    carries (op.Simd (simd.V128Store8Lane c.memarg 1)) (MemoryArgument Plain 0 c.memarg ∷ Lane 16 1 ∷ []) ∷
    carries (op.Simd (simd.V128Store16Lane c.memarg 1)) (MemoryArgument Plain 1 c.memarg ∷ Lane 8 1 ∷ []) ∷
    carries (op.Simd (simd.V128Store32Lane c.memarg 1)) (MemoryArgument Plain 2 c.memarg ∷ Lane 4 1 ∷ []) ∷
    carries (op.Simd (simd.V128Store64Lane c.memarg 1)) (MemoryArgument Plain 3 c.memarg ∷ Lane 2 1 ∷ []) ∷
    carries (op.Simd (simd.V128Load32Zero c.memarg)) (MemoryArgument Plain 2 c.memarg ∷ []) ∷
    carries (op.Simd (simd.V128Load64Zero c.memarg)) (MemoryArgument Plain 3 c.memarg ∷ []) ∷ []
