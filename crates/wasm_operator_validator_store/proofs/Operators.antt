-- The step of each operator over a store.
use Rattle.std.proofs.Common.{◌≡◌, Bool, true, false, Option, Some, None, List, [], ◌∷◌, refl, ap, get_or, slice_get}
use Rattle.wasm_operators_enums.specs.declared.memory.MemoryOperator.{MemoryOperator}
use Rattle.wasm_operators_enums.specs.declared.memory.MemoryOperator.TheVariants as memory
use Rattle.wasm_operators_enums.specs.declared.bulk.BulkOperator.{BulkOperator}
use Rattle.wasm_operators_enums.specs.declared.bulk.BulkOperator.TheVariants as bulk
use Rattle.wasm_operators_enums.specs.declared.gc.GcOperator.{GcOperator}
use Rattle.wasm_operators_enums.specs.declared.gc.GcOperator.TheVariants as gc
use Rattle.wasm_operators_enums.specs.declared.atomic.AtomicOperator.{AtomicOperator}
use Rattle.wasm_operators_enums.specs.declared.atomic.AtomicOperator.TheVariants as atomic
use Rattle.wasm_operators_enums.specs.declared.vector.SimdOperator.{SimdOperator}
use Rattle.wasm_operators_immediates.specs.declared.memory.MemArg.{MemArg}
use Rattle.wasm_operators_enums.specs.Op as op
use Rattle.wasm_operators_enums.specs.Op.{Op}
use Rattle.wasm_operators_encoding.specs.expressions.Code.{Code, close, plain, nested, turn}
use Rattle.wasm_types.specs.trees.Types.{HeapOf}
use Rattle.wasm_types.specs.trees.Trees.{TypeTree}
use Rattle.wasm_operator_validator_rules.specs.Operands.{ValueType}
use Rattle.wasm_operator_validator_soundness.specs.runs.Values.{Function, Program}
use Rattle.wasm_operator_validator_soundness.specs.runs.States.{Activation, Answer}
use Rattle.wasm_operator_validator_soundness.specs.runs.Machine.{address, access, execute, operate_vector}
use Rattle.wasm_operator_validator_soundness.specs.runs.Soundness.{IsValidProgram}
use Rattle.wasm_operator_validator_store.specs.Stores.{Store, nothing, bits_of}
use Rattle.wasm_operator_validator_store.specs.Memories.{Reach, memory_access, simd_access}
use Rattle.wasm_operator_validator_store.specs.Atomics.{AtomicAccess, notification, atomic_access}
use Rattle.wasm_operator_validator_store.specs.Giving.{is_shared_memory, Either, Outside, Traps, Reaches, OrOutside, Aligned, ByOthers, GivesMemory, GivesBulk, GivesGc, GivesAtomic, GivesOperator, GivesCode}
use Rattle.wasm_operator_validator_store.specs.ValidStores.{Knows}
use Rattle.wasm_operator_validator_store.specs.Soundness.{AreValid, StoreStepsAreSound}
use Rattle.wasm_operator_validator_store.proofs.Operating.{CodeNew}
use Rattle.wasm_operator_validator_store.proofs.Answering.{IsDone, found_answer, assembled}
use Rattle.wasm_operator_validator_store.proofs.Accessing.{global_get_done, global_set_done, table_get_done, table_set_done, table_size_done, segment_drop_done}
use Rattle.wasm_operator_validator_store.proofs.Objects.{struct_get_done, struct_get_signed_done, struct_get_unsigned_done, struct_set_done, array_get_done, array_get_signed_done, array_get_unsigned_done, array_set_done}
use Rattle.wasm_operator_validator_store.proofs.Making.{struct_new_done, array_new_done, table_fill_done, table_grow_done}
use Rattle.wasm_operator_validator_store.proofs.Casting.{test_done, test_null_done, cast_done, cast_null_done, branch_on_cast_done, branch_on_cast_fail_done, equal_done, length_done}
use Rattle.wasm_operator_validator_store.proofs.Control.{silent, outside_done, popped_any, parametric_done, local_get_done, local_set_done, local_tee_done, constant_done, block_done, close_done, turn_done}
use Rattle.wasm_operator_validator_store.proofs.Calls.{control_done}
use Rattle.wasm_operator_validator_store.proofs.Memories.{memory_places, simd_places, simd_carried, atomic_places, there_is, reach_done, size_done, grows_done, fill_done, discard_done, copy_done, init_done, drop_done, trap_done, aligned_done}
use Rattle.wasm_operator_validator_store.proofs.Rethrowing.{exception_done}
use Rattle.wasm_operator_validator_store.proofs.Ranges.{table_init_done, table_copy_done}
use Rattle.wasm_operator_validator_store.proofs.Arrays.{array_new_fixed_done, array_new_data_done, array_new_elem_done, array_fill_done, array_copy_done, array_init_data_done, array_init_elem_done}
use Rattle.wasm_operator_validator_store.proofs.Defaults.{struct_new_default_done, array_new_default_done}
use Rattle.wasm_operator_validator_store.proofs.Converting.{extern_convert_any_done, any_convert_extern_done, box_done, unbox_signed_done, unbox_unsigned_done}
use Rattle.wasm_operator_validator_store.specs.Integers.{integer_operation}
use Rattle.wasm_operator_validator_store.proofs.Calculating.{numeric_done}

module _ (p : Program) (valid : IsValidProgram p) (results : List ValueType) (act : Activation) (acts : List Activation) (s : Store) (v : AreValid p results (act ∷ acts) s) (a : Answer) (u : Store) where
  module _ (more : Code) where
    abbrev Done : Op → Type 0
    Done o = IsDone p act acts (plain o more) s a u

    abbrev Next : Op → Type 0
    Next o = act.innermost.code ≡ plain o more

    memory_done : (o : MemoryOperator) → Next (op.Memory o) → GivesMemory p (act ∷ acts) s a u act o → Done (op.Memory o)
    memory_done (memory.LocalGet x) c h = local_get_done p valid results act acts s v more a u x h
    memory_done (memory.LocalSet x) c h = local_set_done p valid results act acts s v more a u x h
    memory_done (memory.LocalTee x) c h = local_tee_done p valid results act acts s v more a u x h
    memory_done (memory.GlobalGet x) c h = global_get_done p valid results act acts s v more a u x c h
    memory_done (memory.GlobalSet x) c h = global_set_done p valid results act acts s v more a u x c h
    memory_done (memory.MemorySize x) c h = size_done p valid results act acts s v more a u (op.Memory (memory.MemorySize x)) x (λ t. []) refl (λ K. tt) h
    memory_done (memory.MemoryGrow x) c h = grows_done p valid results act acts s v more a u (op.Memory (memory.MemoryGrow x)) x (λ t. address t.memory64 ∷ []) refl (λ K. tt) (bits_of (get_or act.innermost.values 0 nothing)) h
    memory_done o c h = let k = there_is p (act ∷ acts) s a u {A = Reach} (memory_access o) (Reaches p (act ∷ acts) s a u act) h in reach_done p valid results act acts s v more a u (op.Memory o) k.0 (memory_places o k.0 k.1) refl (λ K. tt) k.2

    bulk_done : (o : BulkOperator) → Next (op.Bulk o) → GivesBulk p (act ∷ acts) s a u act o → Done (op.Bulk o)
    bulk_done (bulk.RefNull q) c h = silent p valid results act acts s v more a u (op.Bulk (bulk.RefNull q)) (found_answer {A = HeapOf TypeTree} _ _ (λ (k : HeapOf TypeTree) e. tt)) tt h
    bulk_done bulk.RefIsNull c h = silent p valid results act acts s v more a u (op.Bulk bulk.RefIsNull) (popped_any p valid results act acts s v more a u act.innermost.values _ (λ w ws. tt)) tt (h.1.0, h.1.2)
    bulk_done (bulk.RefFunc x) c h = silent p valid results act acts s v more a u (op.Bulk (bulk.RefFunc x)) (found_answer {A = Function} _ _ (λ (f : Function) e. tt)) tt h
    bulk_done (bulk.TableGet x) c h = table_get_done p valid results act acts s v more a u x c h
    bulk_done (bulk.TableSet x) c h = table_set_done p valid results act acts s v more a u x c h
    bulk_done (bulk.TableSize x) c h = table_size_done p valid results act acts s v more a u x c h
    bulk_done (bulk.TableGrow x) c h = table_grow_done p valid results act acts s v more a u x c h
    bulk_done (bulk.TableFill x) c h = table_fill_done p valid results act acts s v more a u x c h
    bulk_done (bulk.TableInit i x) c h = table_init_done p valid results act acts s v more a u i x c h
    bulk_done (bulk.TableCopy x y) c h = table_copy_done p valid results act acts s v more a u x y c h
    bulk_done (bulk.ElemDrop i) c h = segment_drop_done p valid results act acts s v more a u i c h
    bulk_done (bulk.DataDrop d) c h = drop_done p valid results act acts s v more a u d h
    bulk_done (bulk.MemoryInit d x) c h = init_done p valid results act acts s v more a u d x h
    bulk_done (bulk.MemoryCopy x y) c h = copy_done p valid results act acts s v more a u x y h
    bulk_done (bulk.MemoryFill x) c h = fill_done p valid results act acts s v more a u x h
    bulk_done (bulk.MemoryDiscard x) c h = discard_done p valid results act acts s v more a u x h

    -- what reaches into no memory is as before
    vector_done : (o : SimdOperator) (i : Option Reach) → simd_access o ≡ i → Next (op.Simd o) → OrOutside p (act ∷ acts) s a u act i (Reaches p (act ∷ acts) s a u act) → Done (op.Simd o)
    vector_done o None e c h = outside_done p valid results act acts s v more a u (op.Simd o) c tt h
    vector_done o (Some r) e c h = reach_done p valid results act acts s v more a u (op.Simd o) r (simd_places o r e) (ap (λ i. operate_vector p a act acts i (op.Simd o) more) (simd_carried o r e)) (λ K. tt) h

    -- of a memory that other threads use, or of another
    others_done : (o : Op) (m : MemArg) (F : Type 0) → Next o → CodeNew (Knows s) p a act acts (plain o more) → (F → Done o)
        → ByOthers p (act ∷ acts) s a u act m F → Done o
    others_done o m F c new f h = at (is_shared_memory (slice_get p.«module».memories m.memory)) h
      where
        at : (b : Bool) → Either b (Outside p (act ∷ acts) s a u) F → Done o
        at true h = outside_done p valid results act acts s v more a u o c new h
        at false h = f h

    waits_done : (o : AtomicOperator) (m : MemArg) → Next (op.Atomic o)
        → (execute p a act acts (plain (op.Atomic o) more)) ≡ access p a act acts (op.Atomic o) more
        → ByOthers p (act ∷ acts) s a u act m (Traps p (act ∷ acts) s a u) → Done (op.Atomic o)
    waits_done o m c same h = others_done (op.Atomic o) m (Traps p (act ∷ acts) s a u) c tt (trap_done p valid results act acts s v more a u (op.Atomic o)
        same (λ K. tt)) h

    atomic_done : (o : AtomicOperator) → Next (op.Atomic o) → GivesAtomic p (act ∷ acts) s a u act o → Done (op.Atomic o)
    atomic_done atomic.AtomicFence c h = silent p valid results act acts s v more a u (op.Atomic atomic.AtomicFence) tt tt h
    atomic_done (atomic.MemoryAtomicNotify m) c h = let o = op.Atomic (atomic.MemoryAtomicNotify m) in
        others_done o m (Aligned p (act ∷ acts) s a u act (notification m)) c tt (aligned_done p valid results act acts s v more a u o refl (λ K. tt)
        (notification m) refl) h
    atomic_done (atomic.MemoryAtomicWait32 m) c h = waits_done (atomic.MemoryAtomicWait32 m) m c refl h
    atomic_done (atomic.MemoryAtomicWait64 m) c h = waits_done (atomic.MemoryAtomicWait64 m) m c refl h
    atomic_done o c h =
        let k = there_is p (act ∷ acts) s a u {A = AtomicAccess} (atomic_access o) (Aligned p (act ∷ acts) s a u act) h in
        aligned_done p valid results act acts s v more a u (op.Atomic o) refl (λ K. tt) k.0 (atomic_places o k.0 k.1) k.2

    gc_done : (o : GcOperator) → Next (op.Gc o) → GivesGc p (act ∷ acts) s a u act o → Done (op.Gc o)
    gc_done gc.RefEq c h = equal_done p valid results act acts s v more a u h
    gc_done (gc.StructNew x) c h = struct_new_done p valid results act acts s v more a u x c h
    gc_done (gc.StructNewDefault x) c h = struct_new_default_done p valid results act acts s v more a u x c h
    gc_done (gc.StructGet x i) c h = struct_get_done p valid results act acts s v more a u x i c h
    gc_done (gc.StructGetS x i) c h = struct_get_signed_done p valid results act acts s v more a u x i c h
    gc_done (gc.StructGetU x i) c h = struct_get_unsigned_done p valid results act acts s v more a u x i c h
    gc_done (gc.StructSet x i) c h = struct_set_done p valid results act acts s v more a u x i c h
    gc_done (gc.ArrayNew x) c h = array_new_done p valid results act acts s v more a u x c h
    gc_done (gc.ArrayNewDefault x) c h = array_new_default_done p valid results act acts s v more a u x c h
    gc_done (gc.ArrayNewFixed x n) c h = array_new_fixed_done p valid results act acts s v more a u x n c h
    gc_done (gc.ArrayNewData x d) c h = array_new_data_done p valid results act acts s v more a u x d c h
    gc_done (gc.ArrayNewElem x i) c h = array_new_elem_done p valid results act acts s v more a u x i c h
    gc_done (gc.ArrayGet x) c h = array_get_done p valid results act acts s v more a u x c h
    gc_done (gc.ArrayGetS x) c h = array_get_signed_done p valid results act acts s v more a u x c h
    gc_done (gc.ArrayGetU x) c h = array_get_unsigned_done p valid results act acts s v more a u x c h
    gc_done (gc.ArraySet x) c h = array_set_done p valid results act acts s v more a u x c h
    gc_done gc.ArrayLen c h = length_done p valid results act acts s v more a u h
    gc_done (gc.ArrayFill x) c h = array_fill_done p valid results act acts s v more a u x c h
    gc_done (gc.ArrayCopy x y) c h = array_copy_done p valid results act acts s v more a u x y c h
    gc_done (gc.ArrayInitData x d) c h = array_init_data_done p valid results act acts s v more a u x d c h
    gc_done (gc.ArrayInitElem x i) c h = array_init_elem_done p valid results act acts s v more a u x i c h
    gc_done (gc.RefTestNonNull q) c h = test_done p valid results act acts s v more a u q h
    gc_done (gc.RefTestNullable q) c h = test_null_done p valid results act acts s v more a u q h
    gc_done (gc.RefCastNonNull q) c h = cast_done p valid results act acts s v more a u q h
    gc_done (gc.RefCastNullable q) c h = cast_null_done p valid results act acts s v more a u q h
    gc_done (gc.BrOnCast n from to) c h = branch_on_cast_done p valid results act acts s v more a u n from to h
    gc_done (gc.BrOnCastFail n from to) c h = branch_on_cast_fail_done p valid results act acts s v more a u n from to h
    gc_done gc.AnyConvertExtern c h = any_convert_extern_done p valid results act acts s v more a u h
    gc_done gc.ExternConvertAny c h = extern_convert_any_done p valid results act acts s v more a u c h
    gc_done gc.RefI31 c h = box_done p valid results act acts s v more a u h
    gc_done gc.I31GetS c h = unbox_signed_done p valid results act acts s v more a u h
    gc_done gc.I31GetU c h = unbox_unsigned_done p valid results act acts s v more a u h

    operator_done : (o : Op) → Next o → GivesOperator p (act ∷ acts) s a u act o → Done o
    operator_done (op.Control o) c h = control_done p valid results act acts s v more a u o c h
    operator_done (op.Parametric o) c h = parametric_done p valid results act acts s v more a u o h
    operator_done (op.Exception o) c h = exception_done p valid results act acts s v more a u o c h
    operator_done (op.Memory o) c h = memory_done o c h
    operator_done (op.Bulk o) c h = bulk_done o c h
    operator_done (op.Gc o) c h = gc_done o c h
    operator_done (op.Const o) c h = constant_done p valid results act acts s v more a u o h
    operator_done (op.Numeric o) c h = numeric_done p valid results act acts s v more a u o (integer_operation o) refl c h
    operator_done (op.Simd o) c h = vector_done o (simd_access o) refl c h
    operator_done (op.Atomic o) c h = atomic_done o c h
    operator_done o c h = outside_done p valid results act acts s v more a u o c tt h

  code_done : (c : Code) → act.innermost.code ≡ c → GivesCode p (act ∷ acts) s a u act c → IsDone p act acts c s a u
  code_done (plain o more) e h = operator_done more o e h
  code_done (nested o body more) e h = block_done p valid results act acts s v a u o body more h
  code_done (close o) e h = close_done p valid results act acts s v a u o h
  code_done (turn o more) e h = turn_done p valid results act acts s v a u o more h

pub store_steps_sound : StoreStepsAreSound
store_steps_sound p results [] s a u valid v h = absurd h
store_steps_sound p results (act ∷ acts) s a u valid v h = assembled p valid results act acts s v a u (code_done p valid results act acts s v a u act.innermost.code refl h)
