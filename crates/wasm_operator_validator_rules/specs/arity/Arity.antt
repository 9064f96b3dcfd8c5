-- How many operands each operator takes and gives, as a table (WebAssembly 3.0, validation, instructions; vectors have no row).
-- A number that the module or the open frames determine is looked up, and there is none where they do not know it.
use Rattle.std.specs.Prelude.{ℕ, ◌+◌, ◌-◌, ◌*◌, ◌^◌, List, [], ◌∷◌, length, Option, Some, None, option_map, option_and_then, slice_get, min}
use Rattle.wasm_types.specs.trees.Types.{InnerOf, function, array_of, struct_of, continuation, number, ref, abstract, concrete, exact}
use Rattle.wasm_types.specs.trees.Trees.{TypeTree}
use Rattle.wasm_types.specs.trees.Below.{expanded}
use Rattle.wasm_operators_immediates.specs.declared.block.BlockType.{BlockType}
use Rattle.wasm_operators_immediates.specs.declared.block.BlockType.TheVariants as block
use Rattle.wasm_operators_immediates.specs.declared.frames.FrameKind.{FrameKind}
use Rattle.wasm_operators_immediates.specs.declared.frames.FrameKind.TheVariants as frames
use Rattle.wasm_operators_enums.specs.declared.control.ControlOperator.{ControlOperator}
use Rattle.wasm_operators_enums.specs.declared.control.ControlOperator.TheVariants as control
use Rattle.wasm_operators_enums.specs.declared.memory.MemoryOperator.{MemoryOperator}
use Rattle.wasm_operators_enums.specs.declared.memory.MemoryOperator.TheVariants as memory
use Rattle.wasm_operators_enums.specs.declared.bulk.BulkOperator.{BulkOperator}
use Rattle.wasm_operators_enums.specs.declared.bulk.BulkOperator.TheVariants as bulk
use Rattle.wasm_operators_enums.specs.declared.gc.GcOperator.{GcOperator}
use Rattle.wasm_operators_enums.specs.declared.gc.GcOperator.TheVariants as gc
use Rattle.wasm_operators_enums.specs.declared.gc.DescriptorOperator.{DescriptorOperator}
use Rattle.wasm_operators_enums.specs.declared.gc.DescriptorOperator.TheVariants as descriptor
use Rattle.wasm_operators_enums.specs.declared.atomic.AtomicOperator.{AtomicOperator}
use Rattle.wasm_operators_enums.specs.declared.atomic.AtomicOperator.TheVariants as atomic
use Rattle.wasm_operators_enums.specs.declared.atomic.SharedOperator.{SharedOperator}
use Rattle.wasm_operators_enums.specs.declared.atomic.SharedOperator.TheVariants as shared
use Rattle.wasm_operators_enums.specs.Op as op
use Rattle.wasm_operators_enums.specs.Op.{Op, ParametricTree, ExceptionTree, ContinuationTree}
use Rattle.wasm_operator_validator_rules.specs.Operands.{ValueType}
use Rattle.wasm_operator_validator_rules.specs.Context.{Module}
use Rattle.wasm_operator_validator_rules.specs.Numbers.{class_of, taken_by, given_by}
use Rattle.wasm_operator_validator_rules.specs.Accesses.{AccessOf, access_of, atomic_access_of, operands_of, results_of}

-- ---- what is looked up

-- how many operands are taken and given
abbrev pub Counts : Type 0
Counts = ℕ × ℕ

-- the module, and the open frames by their types and kinds, the innermost first
pub record Known : Type 0 where
  pub «module» : Module
  pub frames : List (BlockType × FrameKind)

-- the same of a function type: its parameters and results
abbrev pub function_counts : InnerOf TypeTree → Option Counts
function_counts (function ps rs) = Some (length ps, length rs)
function_counts (array_of x) = None
function_counts (struct_of xs) = None
function_counts (continuation t) = None

abbrev pub type_counts : Option TypeTree → Option Counts
type_counts t = option_and_then (λ u. function_counts (expanded u)) t

-- of a continuation, by its function type (the proposal on stack switching)
abbrev pub resumed : InnerOf TypeTree → Option TypeTree
resumed (function ps rs) = None
resumed (array_of x) = None
resumed (struct_of xs) = None
resumed (continuation t) = Some t

abbrev pub continuation_counts : Option TypeTree → Option Counts
continuation_counts t = type_counts (option_and_then (λ u. resumed (expanded u)) t)

-- how many fields a struct has
abbrev pub field_count : InnerOf TypeTree → Option ℕ
field_count (function ps rs) = None
field_count (array_of x) = None
field_count (struct_of xs) = Some (length xs)
field_count (continuation t) = None

abbrev pub struct_size : Option TypeTree → Option ℕ
struct_size t = option_and_then (λ u. field_count (expanded u)) t

-- a block's parameters and results
abbrev pub block_counts : Module → BlockType → Option Counts
block_counts m block.Empty = Some (0, 0)
block_counts m (block.Val t) = Some (0, 1)
block_counts m (block.FuncType x) = type_counts (slice_get m.types x)

-- how many operands a branch to a frame takes
abbrev pub label_count : FrameKind → Counts → ℕ
label_count frames.Loop c = c.0
label_count k c = c.1

abbrev pub frame_counts : Known → ℕ → Option Counts
frame_counts k l = option_and_then (λ f. block_counts k.«module» f.0) (slice_get k.frames l)

abbrev pub label_of_frame : Known → ℕ → Option ℕ
label_of_frame k l = option_and_then (λ f. option_map (label_count f.1) (block_counts k.«module» f.0)) (slice_get k.frames l)

-- a number in 32 bits, where those that are larger end
abbrev pub in_u32 : ℕ → ℕ
in_u32 n = min n (2 ^ 32 - 1)

-- the outermost frame, of the first 2^32 - 1
abbrev pub outermost : Known → ℕ
outermost k = in_u32 (length k.frames) - 1

-- ---- the groups

-- the row of an operator that takes so many operands more than it names, and gives what it names or nothing
abbrev pub opening : ℕ → Option Counts → Option Counts
opening more c = option_map (λ n. (n.0 + more, n.0)) c

abbrev pub calling : ℕ → Option Counts → Option Counts
calling more c = option_map (λ n. (n.0 + more, n.1)) c

abbrev pub leaving : ℕ → Option ℕ → Option Counts
leaving more c = option_map (λ n. (n + more, 0)) c

abbrev pub keeping : ℕ → ℕ → Option ℕ → Option Counts
keeping more kept c = option_map (λ n. (n + more, n + kept)) c

-- the results of the innermost frame, and what its next part begins with
abbrev pub turning : Option Counts → Option Counts
turning c = option_map (λ n. (n.1, n.0)) c

abbrev pub closing : Option Counts → Option Counts
closing c = option_map (λ n. (n.1, n.1)) c

abbrev pub results_alone : Option Counts → Option ℕ
results_alone c = option_map (λ n. n.1) c

abbrev pub params_alone : Option Counts → Option ℕ
params_alone c = option_map (λ n. n.0) c

abbrev pub control_counts : Known → ControlOperator → Option Counts
control_counts k control.Unreachable = Some (0, 0)
control_counts k control.Nop = Some (0, 0)
control_counts k (control.Block b) = opening 0 (block_counts k.«module» b)
control_counts k (control.Loop b) = opening 0 (block_counts k.«module» b)
control_counts k (control.If b) = opening 1 (block_counts k.«module» b)
control_counts k control.Else = turning (frame_counts k 0)
control_counts k control.End = closing (frame_counts k 0)
control_counts k (control.Br l) = leaving 0 (label_of_frame k l)
control_counts k (control.BrIf l) = keeping 1 0 (label_of_frame k l)
control_counts k (control.BrTable t) = leaving 1 (label_of_frame k t.default)
control_counts k control.Return = leaving 0 (results_alone (frame_counts k (outermost k)))
control_counts k (control.Call x) = calling 0 (type_counts (slice_get k.«module».functions x))
control_counts k (control.CallIndirect y x) = calling 1 (type_counts (slice_get k.«module».types y))
control_counts k (control.ReturnCall x) = leaving 0 (params_alone (type_counts (slice_get k.«module».functions x)))
control_counts k (control.ReturnCallIndirect y x) = leaving 1 (params_alone (type_counts (slice_get k.«module».types y)))
control_counts k (control.CallRef y) = calling 1 (type_counts (slice_get k.«module».types y))
control_counts k (control.ReturnCallRef y) = leaving 1 (params_alone (type_counts (slice_get k.«module».types y)))
control_counts k control.RefAsNonNull = Some (1, 1)
control_counts k (control.BrOnNull l) = keeping 1 1 (label_of_frame k l)
control_counts k (control.BrOnNonNull l) = option_map (λ n. (n, n - 1)) (label_of_frame k l)

abbrev pub parametric_counts : ParametricTree → Option Counts
parametric_counts op.Drop = Some (1, 0)
parametric_counts op.Select = Some (3, 1)
parametric_counts (op.TypedSelect t) = Some (3, 1)
parametric_counts (op.TypedSelectMulti ts) = Some (2 * length ts + 1, length ts)

abbrev pub exception_counts : Known → ExceptionTree → Option Counts
exception_counts k (op.Try b) = opening 0 (block_counts k.«module» b)
exception_counts k (op.Catch x) = option_and_then (λ c. option_map (λ r. (r, c.0)) (results_alone (frame_counts k 0))) (type_counts (slice_get k.«module».tags x))
exception_counts k (op.Throw x) = leaving 0 (params_alone (type_counts (slice_get k.«module».tags x)))
exception_counts k (op.Rethrow l) = Some (0, 0)
exception_counts k op.ThrowRef = Some (1, 0)
exception_counts k (op.Delegate l) = closing (frame_counts k 0)
exception_counts k op.CatchAll = leaving 0 (results_alone (frame_counts k 0))
exception_counts k (op.TryTable t) = opening 0 (block_counts k.«module» t.ty)

-- an access takes the address first
abbrev pub access_counts : Option AccessOf → Option Counts
access_counts a = option_map (λ b. (length (operands_of b.access) + 1, length (results_of b.access))) a

abbrev pub memory_counts : MemoryOperator → Option Counts
memory_counts (memory.LocalGet x) = Some (0, 1)
memory_counts (memory.LocalSet x) = Some (1, 0)
memory_counts (memory.LocalTee x) = Some (1, 1)
memory_counts (memory.GlobalGet x) = Some (0, 1)
memory_counts (memory.GlobalSet x) = Some (1, 0)
memory_counts (memory.MemorySize x) = Some (0, 1)
memory_counts (memory.MemoryGrow x) = Some (1, 1)
memory_counts o = access_counts (access_of o)

abbrev pub atomic_counts : AtomicOperator → Option Counts
atomic_counts atomic.AtomicFence = Some (0, 0)
atomic_counts o = access_counts (atomic_access_of o)

abbrev pub bulk_counts : BulkOperator → Option Counts
bulk_counts (bulk.TableGet x) = Some (1, 1)
bulk_counts (bulk.TableSet x) = Some (2, 0)
bulk_counts (bulk.RefNull h) = Some (0, 1)
bulk_counts bulk.RefIsNull = Some (1, 1)
bulk_counts (bulk.RefFunc x) = Some (0, 1)
bulk_counts (bulk.MemoryInit d x) = Some (3, 0)
bulk_counts (bulk.DataDrop d) = Some (0, 0)
bulk_counts (bulk.MemoryCopy x y) = Some (3, 0)
bulk_counts (bulk.MemoryFill x) = Some (3, 0)
bulk_counts (bulk.TableInit e x) = Some (3, 0)
bulk_counts (bulk.ElemDrop e) = Some (0, 0)
bulk_counts (bulk.TableCopy x y) = Some (3, 0)
bulk_counts (bulk.TableGrow x) = Some (2, 1)
bulk_counts (bulk.TableSize x) = Some (0, 1)
bulk_counts (bulk.TableFill x) = Some (3, 0)
bulk_counts (bulk.MemoryDiscard x) = Some (2, 0)

abbrev pub gc_counts : Known → GcOperator → Option Counts
gc_counts k gc.RefEq = Some (2, 1)
gc_counts k (gc.StructNew x) = option_map (λ n. (n, 1)) (struct_size (slice_get k.«module».types x))
gc_counts k (gc.StructNewDefault x) = Some (0, 1)
gc_counts k (gc.StructGet x i) = Some (1, 1)
gc_counts k (gc.StructGetS x i) = Some (1, 1)
gc_counts k (gc.StructGetU x i) = Some (1, 1)
gc_counts k (gc.StructSet x i) = Some (2, 0)
gc_counts k (gc.ArrayNew x) = Some (2, 1)
gc_counts k (gc.ArrayNewDefault x) = Some (1, 1)
gc_counts k (gc.ArrayNewFixed x n) = Some (n, 1)
gc_counts k (gc.ArrayNewData x d) = Some (2, 1)
gc_counts k (gc.ArrayNewElem x e) = Some (2, 1)
gc_counts k (gc.ArrayGet x) = Some (2, 1)
gc_counts k (gc.ArrayGetS x) = Some (2, 1)
gc_counts k (gc.ArrayGetU x) = Some (2, 1)
gc_counts k (gc.ArraySet x) = Some (3, 0)
gc_counts k gc.ArrayLen = Some (1, 1)
gc_counts k (gc.ArrayFill x) = Some (4, 0)
gc_counts k (gc.ArrayCopy x y) = Some (5, 0)
gc_counts k (gc.ArrayInitData x d) = Some (4, 0)
gc_counts k (gc.ArrayInitElem x e) = Some (4, 0)
gc_counts k (gc.RefTestNonNull h) = Some (1, 1)
gc_counts k (gc.RefTestNullable h) = Some (1, 1)
gc_counts k (gc.RefCastNonNull h) = Some (1, 1)
gc_counts k (gc.RefCastNullable h) = Some (1, 1)
gc_counts k (gc.BrOnCast l r s) = keeping 0 0 (label_of_frame k l)
gc_counts k (gc.BrOnCastFail l r s) = keeping 0 0 (label_of_frame k l)
gc_counts k gc.AnyConvertExtern = Some (1, 1)
gc_counts k gc.ExternConvertAny = Some (1, 1)
gc_counts k gc.RefI31 = Some (1, 1)
gc_counts k gc.I31GetS = Some (1, 1)
gc_counts k gc.I31GetU = Some (1, 1)

abbrev pub descriptor_counts : Known → DescriptorOperator → Option Counts
descriptor_counts k (descriptor.StructNewDesc x) = option_map (λ n. (n + 1, 1)) (struct_size (slice_get k.«module».types x))
descriptor_counts k (descriptor.StructNewDefaultDesc x) = Some (1, 1)
descriptor_counts k (descriptor.RefGetDesc x) = Some (1, 1)
descriptor_counts k (descriptor.RefCastDescEqNonNull h) = Some (2, 1)
descriptor_counts k (descriptor.RefCastDescEqNullable h) = Some (2, 1)
descriptor_counts k (descriptor.BrOnCastDescEq l r s) = keeping 1 0 (label_of_frame k l)
descriptor_counts k (descriptor.BrOnCastDescEqFail l r s) = keeping 1 0 (label_of_frame k l)

abbrev pub shared_counts : SharedOperator → Option Counts
shared_counts (shared.GlobalAtomicGet a x) = Some (0, 1)
shared_counts (shared.GlobalAtomicSet a x) = Some (1, 0)
shared_counts (shared.GlobalAtomicRmwAdd a x) = Some (1, 1)
shared_counts (shared.GlobalAtomicRmwSub a x) = Some (1, 1)
shared_counts (shared.GlobalAtomicRmwAnd a x) = Some (1, 1)
shared_counts (shared.GlobalAtomicRmwOr a x) = Some (1, 1)
shared_counts (shared.GlobalAtomicRmwXor a x) = Some (1, 1)
shared_counts (shared.GlobalAtomicRmwXchg a x) = Some (1, 1)
shared_counts (shared.GlobalAtomicRmwCmpxchg a x) = Some (2, 1)
shared_counts (shared.TableAtomicGet a x) = Some (1, 1)
shared_counts (shared.TableAtomicSet a x) = Some (2, 0)
shared_counts (shared.TableAtomicRmwXchg a x) = Some (2, 1)
shared_counts (shared.TableAtomicRmwCmpxchg a x) = Some (3, 1)
shared_counts (shared.StructAtomicGet a x i) = Some (1, 1)
shared_counts (shared.StructAtomicGetS a x i) = Some (1, 1)
shared_counts (shared.StructAtomicGetU a x i) = Some (1, 1)
shared_counts (shared.StructAtomicSet a x i) = Some (2, 0)
shared_counts (shared.StructAtomicRmwAdd a x i) = Some (2, 1)
shared_counts (shared.StructAtomicRmwSub a x i) = Some (2, 1)
shared_counts (shared.StructAtomicRmwAnd a x i) = Some (2, 1)
shared_counts (shared.StructAtomicRmwOr a x i) = Some (2, 1)
shared_counts (shared.StructAtomicRmwXor a x i) = Some (2, 1)
shared_counts (shared.StructAtomicRmwXchg a x i) = Some (2, 1)
shared_counts (shared.StructAtomicRmwCmpxchg a x i) = Some (3, 1)
shared_counts (shared.ArrayAtomicGet a x) = Some (2, 1)
shared_counts (shared.ArrayAtomicGetS a x) = Some (2, 1)
shared_counts (shared.ArrayAtomicGetU a x) = Some (2, 1)
shared_counts (shared.ArrayAtomicSet a x) = Some (3, 0)
shared_counts (shared.ArrayAtomicRmwAdd a x) = Some (3, 1)
shared_counts (shared.ArrayAtomicRmwSub a x) = Some (3, 1)
shared_counts (shared.ArrayAtomicRmwAnd a x) = Some (3, 1)
shared_counts (shared.ArrayAtomicRmwOr a x) = Some (3, 1)
shared_counts (shared.ArrayAtomicRmwXor a x) = Some (3, 1)
shared_counts (shared.ArrayAtomicRmwXchg a x) = Some (3, 1)
shared_counts (shared.ArrayAtomicRmwCmpxchg a x) = Some (4, 1)
shared_counts shared.RefI31Shared = Some (1, 1)

-- The type that the last parameter of a function refers to, if it refers to a defined type.
abbrev pub referred : ValueType → Option TypeTree
referred (number n) = None
referred (ref n (abstract s a)) = None
referred (ref n (concrete t)) = Some t
referred (ref n (exact t)) = Some t

abbrev pub last_referred : List ValueType → Option TypeTree
last_referred [] = None
last_referred (t ∷ []) = referred t
last_referred (t ∷ u ∷ ts) = last_referred (u ∷ ts)

-- what `switch` to a continuation of such a function takes, and gives: what the continuation takes that is the function's last parameter
abbrev pub switch_counts : InnerOf TypeTree → Option Counts
switch_counts (function ps rs) = option_map (λ d. (length ps, d.0)) (continuation_counts (last_referred ps))
switch_counts (array_of x) = None
switch_counts (struct_of xs) = None
switch_counts (continuation t) = None

abbrev pub continuation_operator_counts : Known → ContinuationTree → Option Counts
continuation_operator_counts k (op.ContNew x) = Some (1, 1)
continuation_operator_counts k (op.ContBind x y) =
    option_and_then (λ c. option_map (λ d. (c.0 - d.0 + 1, 1)) (continuation_counts (slice_get k.«module».types y))) (continuation_counts (slice_get k.«module».types x))
continuation_operator_counts k (op.Suspend x) = type_counts (slice_get k.«module».tags x)
continuation_operator_counts k (op.Resume x hs) = calling 1 (continuation_counts (slice_get k.«module».types x))
continuation_operator_counts k (op.ResumeThrow x e hs) =
    option_and_then (λ c. option_map (λ d. (d.0 + 1, c.1)) (type_counts (slice_get k.«module».tags e))) (continuation_counts (slice_get k.«module».types x))
continuation_operator_counts k (op.ResumeThrowRef x hs) = option_map (λ c. (2, c.1)) (continuation_counts (slice_get k.«module».types x))
continuation_operator_counts k (op.Switch x e) = option_and_then (λ f. switch_counts (expanded f)) (option_and_then (λ u. resumed (expanded u)) (slice_get k.«module».types x))

-- ---- all of them

abbrev pub counts_of : Known → Op → Option Counts
counts_of k (op.Control o) = control_counts k o
counts_of k (op.Parametric o) = parametric_counts o
counts_of k (op.Exception o) = exception_counts k o
counts_of k (op.Memory o) = memory_counts o
counts_of k (op.Const o) = Some (0, 1)
counts_of k (op.Numeric o) = Some (length (taken_by (class_of o)), length (given_by (class_of o)))
counts_of k (op.Bulk o) = bulk_counts o
counts_of k (op.Gc o) = gc_counts k o
counts_of k (op.Descriptor o) = descriptor_counts k o
counts_of k (op.Simd o) = None
counts_of k (op.SimdNumeric o) = None
counts_of k (op.Atomic o) = atomic_counts o
counts_of k (op.Shared o) = shared_counts o
counts_of k (op.Continuation o) = continuation_operator_counts k o
