-- Memories, as a compiler may rely on them (WebAssembly 3.0, execution, memory instructions): which steps trap exactly, and that what is read is
-- what was written last.
use Rattle.std.specs.Prelude.{◌≡◌, ◌≤◌, ◌<◌, ◌+◌, ◌*◌, ◌%◌, ◌^◌, ℕ, Bool, true, false, not, ◌&&◌, IsTrue, List, [], ◌∷◌, length, Option, Some, None, is_some, slice_get, get_or}
use Rattle.wasm_operators_enums.specs.declared.memory.MemoryOperator.{MemoryOperator}
use Rattle.wasm_operators_enums.specs.declared.bulk.BulkOperator.{BulkOperator}
use Rattle.wasm_operators_enums.specs.declared.bulk.BulkOperator.TheVariants as bulk
use Rattle.wasm_operators_enums.specs.declared.control.ControlOperator.{ControlOperator}
use Rattle.wasm_operators_enums.specs.declared.control.ControlOperator.TheVariants as control
use Rattle.wasm_operators_enums.specs.declared.gc.GcOperator.{GcOperator}
use Rattle.wasm_operators_enums.specs.declared.gc.GcOperator.TheVariants as gc
use Rattle.wasm_operators_enums.specs.Op as op
use Rattle.wasm_operators_enums.specs.Op.{Op, ExceptionTree}
use Rattle.wasm_operators_encoding.specs.expressions.Code.{Code, plain}
use Rattle.wasm_operator_validator_rules.specs.Operands.{ValueType}
use Rattle.wasm_operator_validator_soundness.specs.runs.Values.{Program, Value, is_null}
use Rattle.wasm_operator_validator_soundness.specs.runs.States.{State, Answer, trapped}
use Rattle.wasm_operator_validator_soundness.specs.runs.Soundness.{step, IsValidProgram}
use Rattle.wasm_operator_validator_store.specs.Stores.{MemoryInstance, Store, nothing, range, placed, memory_at, memory_in, with_memory, memory_address}
use Rattle.wasm_operator_validator_store.specs.Memories.{number_of, bytes_of, past, memory_access, simd_access}
use Rattle.wasm_operator_validator_store.specs.Integers.{integer_operation}
use Rattle.wasm_operator_validator_store.specs.ValidStores.{Each, IsByte}
use Rattle.wasm_operator_validator_store.specs.Giving.{GivesStep}
use Rattle.wasm_operator_validator_store.specs.Soundness.{AreValid}
use Rattle.wasm_operator_validator_store.specs.Determined.{is_unshared, reach_is_determined, atomic_is_determined}
use Rattle.wasm_operator_validator_store.specs.Traps.{step_traps}

-- ---- which operators: those that reach into memories that no other thread uses, atomic ones too, single elements and ranges of tables and
-- objects, what finds null, and operators on integers. Of `memory.discard` it is open.

abbrev pub bulk_is_exact : Program → BulkOperator → Bool
bulk_is_exact p (bulk.MemoryInit d x) = is_unshared p x
bulk_is_exact p (bulk.MemoryCopy x y) = is_unshared p x && is_unshared p y
bulk_is_exact p (bulk.MemoryFill x) = is_unshared p x
bulk_is_exact p (bulk.TableGet x) = true
bulk_is_exact p (bulk.TableInit e x) = true
bulk_is_exact p (bulk.TableCopy x y) = true
bulk_is_exact p (bulk.TableSet x) = true
bulk_is_exact p (bulk.TableFill x) = true
bulk_is_exact p o = false

abbrev pub gc_is_exact : GcOperator → Bool
gc_is_exact (gc.StructGet x i) = true
gc_is_exact (gc.StructGetS x i) = true
gc_is_exact (gc.StructGetU x i) = true
gc_is_exact (gc.StructSet x i) = true
gc_is_exact (gc.ArrayGet x) = true
gc_is_exact (gc.ArrayGetS x) = true
gc_is_exact (gc.ArrayGetU x) = true
gc_is_exact (gc.ArraySet x) = true
gc_is_exact (gc.ArrayFill x) = true
gc_is_exact gc.ArrayLen = true
gc_is_exact gc.I31GetS = true
gc_is_exact gc.I31GetU = true
gc_is_exact (gc.ArrayNewData x d) = true
gc_is_exact (gc.ArrayNewElem x e) = true
gc_is_exact (gc.ArrayCopy x y) = true
gc_is_exact (gc.ArrayInitElem x e) = true
gc_is_exact (gc.ArrayInitData x d) = true
gc_is_exact o = false

-- with this on top: a call by a null reference, while a function of the host may trap or not
abbrev pub control_is_exact : Value → ControlOperator → Bool
control_is_exact v control.Unreachable = true
control_is_exact v control.RefAsNonNull = true
control_is_exact v (control.CallRef x) = is_null v
control_is_exact v (control.ReturnCallRef x) = is_null v
control_is_exact v o = false

abbrev pub exception_is_exact : ExceptionTree → Bool
exception_is_exact op.ThrowRef = true
exception_is_exact o = false

abbrev pub is_exact : Program → Value → Op → Bool
is_exact p v (op.Memory o) = reach_is_determined p (memory_access o)
is_exact p v (op.Simd o) = reach_is_determined p (simd_access o)
is_exact p v (op.Atomic o) = atomic_is_determined p o
is_exact p v (op.Bulk o) = bulk_is_exact p o
is_exact p v (op.Gc o) = gc_is_exact o
is_exact p v (op.Control o) = control_is_exact v o
is_exact p v (op.Exception o) = exception_is_exact o
is_exact p v (op.Numeric o) = is_some (integer_operation o)
is_exact p v o = false

abbrev pub code_is_exact : Program → Value → Code → Bool
code_is_exact p v (plain o more) = is_exact p v o
code_is_exact p v c = false

abbrev pub step_is_exact : Program → State → Bool
step_is_exact p [] = false
step_is_exact p (act ∷ acts) = code_is_exact p (get_or act.innermost.values 0 nothing) act.innermost.code

-- Such a step traps if `step_traps` says so; that no other does is `OnlyTheseTrap`. So an access traps exactly if the address, the offset and
-- the width, added as numbers, are past the size, and an atomic one also if the address and the offset are no multiple of the width.
abbrev pub TrapsExactly : Type 0
TrapsExactly = (p : Program) (results : List ValueType) (x : State) (s : Store) (a : Answer) (u : Store)
    → IsValidProgram p → AreValid p results x s → GivesStep p x s a u → IsTrue (step_is_exact p x)
    → IsTrue (step_traps p x s) → (step p x a).outcome ≡ trapped

-- ---- bytes

-- Bytes are there exactly if they end within; what is read after a write is what was written, and each byte before and after it is as it was.
pub record BytesAreKept : Type 0 where
  pub there : (bs : List ℕ) (i n : ℕ) → is_some (range bs i n) ≡ not (past (length bs) i n)
  pub fits : (bs : List ℕ) (i : ℕ) (cs : List ℕ) → is_some (placed bs i cs) ≡ not (past (length bs) i (length cs))
  pub size : (bs : List ℕ) (i : ℕ) (cs ds : List ℕ) → placed bs i cs ≡ Some ds → length ds ≡ length bs
  pub written : (bs : List ℕ) (i : ℕ) (cs ds : List ℕ) → placed bs i cs ≡ Some ds → range ds i (length cs) ≡ Some cs
  pub before : (bs : List ℕ) (i : ℕ) (cs ds : List ℕ) (k : ℕ) → placed bs i cs ≡ Some ds → k < i
      → slice_get ds k ≡ slice_get bs k
  pub after : (bs : List ℕ) (i : ℕ) (cs ds : List ℕ) (k : ℕ) → placed bs i cs ≡ Some ds → i + length cs ≤ k
      → slice_get ds k ≡ slice_get bs k
  -- a number that is read is what its bytes are, and a number that is written is read again, as far as it has so many bits
  pub number : (k b : ℕ) → number_of (bytes_of k b) ≡ b % 2 ^ (8 * k)
  pub bytes : (bs : List ℕ) → Each IsByte bs → bytes_of (length bs) (number_of bs) ≡ bs

-- a memory that is there holds what was written to it, and each other memory what it held
pub record MemoriesAreKept : Type 0 where
  pub same : (s : Store) (x : ℕ) (bs : List ℕ) (m : MemoryInstance) → memory_at s x ≡ Some m
      → memory_in (with_memory s x bs) x ≡ bs
  pub others : (s : Store) (x y : ℕ) (bs : List ℕ) → (memory_address s x ≡ memory_address s y → ⊥)
      → memory_in (with_memory s x bs) y ≡ memory_in s y
