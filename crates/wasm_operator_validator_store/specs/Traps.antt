-- Which steps may trap, by the operator and by what is there (WebAssembly 3.0, execution, instructions): under what a store gives, no others do.
use Rattle.std.specs.Prelude.{◌≡◌, ℕ, ◌+◌, ◌*◌, Bool, true, false, not, ◌||◌, IsTrue, List, [], ◌∷◌, length, take, replicate, get_or, Option, Some, None, is_some, option_map, slice_get}
use Rattle.wasm_operators_enums.specs.declared.control.ControlOperator.{ControlOperator}
use Rattle.wasm_operators_enums.specs.declared.control.ControlOperator.TheVariants as control
use Rattle.wasm_types.specs.trees.Types.{FieldOf}
use Rattle.wasm_types.specs.trees.Trees.{TypeTree}
use Rattle.wasm_types.specs.trees.Below.{expanded}
use Rattle.wasm_operators_immediates.specs.declared.memory.MemArg.{MemArg}
use Rattle.wasm_operators_enums.specs.declared.bulk.BulkOperator.{BulkOperator}
use Rattle.wasm_operators_enums.specs.declared.bulk.BulkOperator.TheVariants as bulk
use Rattle.wasm_operators_enums.specs.declared.gc.GcOperator.{GcOperator}
use Rattle.wasm_operators_enums.specs.declared.gc.GcOperator.TheVariants as gc
use Rattle.wasm_operators_enums.specs.declared.atomic.AtomicOperator.{AtomicOperator}
use Rattle.wasm_operators_enums.specs.declared.atomic.AtomicOperator.TheVariants as atomic
use Rattle.wasm_operators_enums.specs.Op as op
use Rattle.wasm_operators_enums.specs.Op.{Op, ExceptionTree}
use Rattle.wasm_operators_encoding.specs.expressions.Code.{Code, plain}
use Rattle.wasm_operator_validator_soundness.specs.runs.Values.{Program, Value, ref_function, ref_object, ref_i31, is_null}
use Rattle.wasm_operator_validator_soundness.specs.runs.States.{Activation, State, Answer, trapped}
use Rattle.wasm_operator_validator_soundness.specs.runs.Progress.{control_can_trap, exception_can_trap, bulk_can_trap, gc_can_trap, can_trap}
use Rattle.wasm_operator_validator_soundness.specs.runs.Soundness.{step}
use Rattle.wasm_operator_validator_store.specs.Stores.{ObjectInstance, Store, placed, nothing, bits_of, field_at, table_in, memory_in, segment_in, data_in}
use Rattle.wasm_operator_validator_store.specs.Memories.{past, Access, reads, writes, Reach, memory_access, simd_access, number_count, stored_type, stored_size}
use Rattle.wasm_operator_validator_store.specs.Atomics.{is_misaligned, AtomicAccess, notification, atomic_access}
use Rattle.wasm_operator_validator_store.specs.Integers.{Operation, integer_operation}
use Rattle.wasm_operator_validator_store.specs.Giving.{is_shared_memory, GivesStep}
use Rattle.wasm_operator_validator_store.specs.Determined.{is_own_at}

-- nothing is there
abbrev pub is_missing : {A : Type 0} → Option A → Bool
is_missing o = not (is_some o)

-- what holds of the fields, or there are none
abbrev pub of_fields : Option (List Value) → (List Value → Bool) → Bool
of_fields None f = true
of_fields (Some vs) f = f vs

abbrev pub is_unboxed : Value → Bool
is_unboxed (ref_i31 b) = true
is_unboxed v = false

module _ (p : Program) (s : Store) (act : Activation) where
  abbrev pub operand : ℕ → Value
  operand n = get_or act.innermost.values n nothing

  abbrev pub number_at : ℕ → ℕ
  number_at n = bits_of (operand n)

  -- the fields or elements of an object; null has none
  abbrev pub fields_of : Value → Option (List Value)
  fields_of (ref_object k t) = option_map (λ (o : ObjectInstance). o.fields) (slice_get s.objects k)
  fields_of v = None

  -- null, or past the end
  abbrev pub reads_past : Value → ℕ → Bool
  reads_past v i = of_fields (fields_of v) (λ vs. is_missing (slice_get vs i))

  abbrev pub writes_past : Value → ℕ → List Value → Bool
  writes_past v i us = of_fields (fields_of v) (λ vs. is_missing (placed vs i us))

  -- null, or so many elements from a place on are past the end
  abbrev pub elements_end : Value → ℕ → ℕ → Bool
  elements_end v i n = of_fields (fields_of v) (λ vs. past (length vs) i n)

  -- null, or a function of the host
  abbrev pub calls_other : Value → Bool
  calls_other (ref_function i t) = not (is_own_at p s act i)
  calls_other v = true

  abbrev pub control_traps : ControlOperator → Bool
  control_traps (control.Call x) = not (is_own_at p s act (Some x))
  control_traps (control.ReturnCall x) = not (is_own_at p s act (Some x))
  control_traps (control.CallRef x) = calls_other (operand 0)
  control_traps (control.ReturnCallRef x) = calls_other (operand 0)
  control_traps control.RefAsNonNull = is_null (operand 0)
  control_traps o = control_can_trap o

  abbrev pub exception_traps : ExceptionTree → Bool
  exception_traps op.ThrowRef = is_null (operand 0)
  exception_traps o = exception_can_trap o

  -- past the end of a memory, by the address and the offset, and of a data segment
  abbrev pub memory_past : ℕ → ℕ → ℕ → Bool
  memory_past x i n = past (length (memory_in s x)) i n

  abbrev pub data_past : ℕ → ℕ → ℕ → Bool
  data_past d i n = past (length (data_in s d)) i n

  abbrev pub access_past : MemArg → Access → Bool
  access_past m (reads ts n k f) = memory_past m.memory (number_at (length ts) + m.offset) k
  access_past m (writes n k f) = memory_past m.memory (number_at 1 + m.offset) k

  abbrev pub reach_past : Bool → Option Reach → Bool
  reach_past b None = b
  reach_past b (Some r) = access_past r.argument r.access

  -- at an address that is no multiple of the width, or past the end
  abbrev pub exchange_at : AtomicAccess → ℕ
  exchange_at r = number_at (length r.takes) + r.argument.offset

  abbrev pub exchange_past : AtomicAccess → Bool
  exchange_past r = is_misaligned (exchange_at r) r.size || memory_past r.argument.memory (exchange_at r) r.size

  abbrev pub exchange_traps : Option AtomicAccess → Bool
  exchange_traps None = true
  exchange_traps (Some r) = exchange_past r

  -- Threads are woken at a memory that other threads use, and no thread waits at another.
  abbrev pub atomic_traps : AtomicOperator → Bool
  atomic_traps atomic.AtomicFence = false
  atomic_traps (atomic.MemoryAtomicNotify m) = is_shared_memory (slice_get p.«module».memories m.memory)
      || exchange_past (notification m)
  atomic_traps o = exchange_traps (atomic_access o)

  -- so many elements that are stored alike, in a data segment
  abbrev pub elements_past : ℕ → Option (FieldOf TypeTree) → ℕ → ℕ → Bool
  elements_past d None i n = true
  elements_past d (Some f) i n = data_past d i (n * stored_size f.storage)

  abbrev pub made_past : ℕ → Option TypeTree → ℕ → ℕ → Bool
  made_past d None i n = true
  made_past d (Some t) i n = elements_past d (field_at (expanded t) 0) i n

  -- the object that a reference names; null names none
  abbrev pub object_of : Value → Option ObjectInstance
  object_of (ref_object k t) = slice_get s.objects k
  object_of v = None

  -- so many elements of an array, from a place on, past its end, or past that of the data segment that has their bytes; or there is no array
  abbrev pub stored_past : ℕ → Option (FieldOf TypeTree) → ℕ → ℕ → ℕ → ℕ → Bool
  stored_past d None size j i n = true
  stored_past d (Some f) size j i n = data_past d i (n * stored_size f.storage)
      || past size j (number_count (stored_type f.storage) n)

  abbrev pub filled_past : ℕ → Option ObjectInstance → ℕ → ℕ → ℕ → Bool
  filled_past d None j i n = true
  filled_past d (Some o) j i n = stored_past d (field_at (expanded o.type) 0) (length o.fields) j i n

  -- past the end of a table, and of an element segment
  abbrev pub table_past : ℕ → ℕ → ℕ → Bool
  table_past x i n = past (length (table_in s x)) i n

  abbrev pub segment_past : ℕ → ℕ → ℕ → Bool
  segment_past e i n = past (length (segment_in s e)) i n

  abbrev pub bulk_traps : BulkOperator → Bool
  bulk_traps (bulk.TableInit e x) = segment_past e (number_at 1) (number_at 0) || table_past x (number_at 2) (number_at 0)
  bulk_traps (bulk.TableCopy x y) = table_past y (number_at 1) (number_at 0) || table_past x (number_at 2) (number_at 0)
  bulk_traps (bulk.MemoryInit d x) = data_past d (number_at 1) (number_at 0) || memory_past x (number_at 2) (number_at 0)
  bulk_traps (bulk.MemoryCopy x y) = memory_past y (number_at 1) (number_at 0)
      || memory_past x (number_at 2) (number_at 0)
  bulk_traps (bulk.MemoryFill x) = memory_past x (number_at 2) (number_at 0)
  bulk_traps (bulk.TableGet x) = is_missing (slice_get (table_in s x) (number_at 0))
  bulk_traps (bulk.TableSet x) = is_missing (placed (table_in s x) (number_at 1) (take 1 act.innermost.values))
  bulk_traps (bulk.TableFill x) = is_missing
      (placed (table_in s x) (number_at 2) (replicate (number_at 0) (operand 1)))
  bulk_traps o = bulk_can_trap o

  abbrev pub gc_traps : GcOperator → Bool
  gc_traps (gc.StructGet x i) = reads_past (operand 0) i
  gc_traps (gc.StructGetS x i) = reads_past (operand 0) i
  gc_traps (gc.StructGetU x i) = reads_past (operand 0) i
  gc_traps (gc.StructSet x i) = writes_past (operand 1) i (take 1 act.innermost.values)
  gc_traps (gc.ArrayGet x) = reads_past (operand 1) (number_at 0)
  gc_traps (gc.ArrayGetS x) = reads_past (operand 1) (number_at 0)
  gc_traps (gc.ArrayGetU x) = reads_past (operand 1) (number_at 0)
  gc_traps (gc.ArraySet x) = writes_past (operand 2) (number_at 1) (take 1 act.innermost.values)
  gc_traps (gc.ArrayFill x) = writes_past (operand 3) (number_at 2) (replicate (number_at 0) (operand 1))
  gc_traps gc.ArrayLen = of_fields (fields_of (operand 0)) (λ vs. false)
  gc_traps gc.I31GetS = not (is_unboxed (operand 0))
  gc_traps gc.I31GetU = not (is_unboxed (operand 0))
  gc_traps (gc.ArrayCopy x y) = elements_end (operand 2) (number_at 1) (number_at 0)
      || elements_end (operand 4) (number_at 3) (number_at 0)
  gc_traps (gc.ArrayInitElem x e) = segment_past e (number_at 1) (number_at 0)
      || elements_end (operand 3) (number_at 2) (number_at 0)
  gc_traps (gc.ArrayNewElem x e) = segment_past e (number_at 1) (number_at 0)
  gc_traps (gc.ArrayNewData x d) = made_past d (slice_get p.«module».types x) (number_at 1) (number_at 0)
  gc_traps (gc.ArrayInitData x d) = filled_past d (object_of (operand 3)) (number_at 2) (number_at 1) (number_at 0)
  gc_traps (gc.RefCastNullable h) = not (is_null (operand 0))
  gc_traps o = gc_can_trap o

  -- a function of integers has no value
  abbrev pub is_undefined : Bool → Option Operation → Bool
  is_undefined b None = b
  is_undefined b (Some r) = is_missing (r.value (number_at 1) (number_at 0))

  abbrev pub traps : Op → Bool
  traps (op.Control o) = control_traps o
  traps (op.Exception o) = exception_traps o
  traps (op.Bulk o) = bulk_traps o
  traps (op.Gc o) = gc_traps o
  traps (op.Memory o) = reach_past false (memory_access o)
  traps (op.Simd o) = reach_past (can_trap (op.Simd o)) (simd_access o)
  traps (op.Atomic o) = atomic_traps o
  traps (op.Numeric o) = is_undefined (can_trap (op.Numeric o)) (integer_operation o)
  traps o = can_trap o

  -- neither the beginning nor the end of a block
  abbrev pub code_traps : Code → Bool
  code_traps (plain o more) = traps o
  code_traps c = false

abbrev pub step_traps : Program → State → Store → Bool
step_traps p [] s = false
step_traps p (act ∷ acts) s = code_traps p s act act.innermost.code

-- ---- the theorem: whether or not all fits

abbrev pub OnlyTheseTrap : Type 0
OnlyTheseTrap = (p : Program) (x : State) (s : Store) (a : Answer) (u : Store) → GivesStep p x s a u
    → (step p x a).outcome ≡ trapped → IsTrue (step_traps p x s)
