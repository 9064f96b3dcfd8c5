-- Where a store leaves nothing open (WebAssembly 3.0, execution, introduction, conventions): two answers that it gives to one step lead to one
-- outcome and one store, new addresses too, since these are the next that are free.
use Rattle.std.specs.Prelude.{◌≡◌, ℕ, Bool, true, false, IsTrue, not, ◌&&◌, List, [], ◌∷◌, get_or, length, Option, Some, None, is_some, slice_get}
use Rattle.wasm_operators_enums.specs.declared.control.ControlOperator.{ControlOperator}
use Rattle.wasm_operators_enums.specs.declared.control.ControlOperator.TheVariants as control
use Rattle.wasm_operators_enums.specs.declared.memory.MemoryOperator.{MemoryOperator}
use Rattle.wasm_operators_enums.specs.declared.memory.MemoryOperator.TheVariants as memory
use Rattle.wasm_operators_enums.specs.declared.bulk.BulkOperator.{BulkOperator}
use Rattle.wasm_operators_enums.specs.declared.bulk.BulkOperator.TheVariants as bulk
use Rattle.wasm_operators_enums.specs.declared.gc.GcOperator.{GcOperator}
use Rattle.wasm_operators_enums.specs.declared.gc.GcOperator.TheVariants as gc
use Rattle.wasm_operators_enums.specs.declared.atomic.AtomicOperator.{AtomicOperator}
use Rattle.wasm_operators_enums.specs.declared.atomic.AtomicOperator.TheVariants as atomic
use Rattle.wasm_operators_enums.specs.Op as op
use Rattle.wasm_operators_enums.specs.Op.{Op}
use Rattle.wasm_operators_encoding.specs.expressions.Code.{Code, plain, nested, close, turn}
use Rattle.wasm_operator_validator_soundness.specs.runs.Values.{Body, Program, Value, ref_null, ref_function}
use Rattle.wasm_operator_validator_soundness.specs.runs.States.{Activation, State, Answer, next}
use Rattle.wasm_operator_validator_soundness.specs.runs.Machine.{body_of}
use Rattle.wasm_operator_validator_soundness.specs.runs.Soundness.{step}
use Rattle.wasm_operator_validator_store.specs.Stores.{Store, nothing, bits_of, table_in}
use Rattle.wasm_operator_validator_store.specs.Memories.{Reach, memory_access, simd_access}
use Rattle.wasm_operator_validator_store.specs.Atomics.{AtomicAccess, atomic_access}
use Rattle.wasm_operator_validator_store.specs.Integers.{integer_operation}
use Rattle.wasm_operator_validator_store.specs.Giving.{is_shared_memory, GivesStep}
use Rattle.wasm_operator_validator_store.specs.Soundness.{StoreRuns}

-- ---- which operators: not those on floats and vectors, and what reaches into a memory that other threads use;
-- `table.grow` and `memory.grow`, which may fail, and `extern.convert_any`, whose address is the host's; nor a call of a function of the host

abbrev pub is_own : Option Body → Bool
is_own None = false
is_own (Some f) = true

-- no other thread uses the memory
abbrev pub is_unshared : Program → ℕ → Bool
is_unshared p x = not (is_shared_memory (slice_get p.«module».memories x))

abbrev pub reach_is_determined : Program → Option Reach → Bool
reach_is_determined p None = false
reach_is_determined p (Some r) = is_unshared p r.argument.memory

abbrev pub memory_is_determined : Program → MemoryOperator → Bool
memory_is_determined p (memory.LocalGet x) = true
memory_is_determined p (memory.LocalSet x) = true
memory_is_determined p (memory.LocalTee x) = true
memory_is_determined p (memory.GlobalGet x) = true
memory_is_determined p (memory.GlobalSet x) = true
memory_is_determined p (memory.MemorySize x) = is_unshared p x
memory_is_determined p o = reach_is_determined p (memory_access o)

abbrev pub bulk_is_determined : Program → BulkOperator → Bool
bulk_is_determined p (bulk.MemoryInit d x) = is_unshared p x
bulk_is_determined p (bulk.MemoryCopy x y) = is_unshared p x && is_unshared p y
bulk_is_determined p (bulk.MemoryFill x) = is_unshared p x
bulk_is_determined p (bulk.MemoryDiscard x) = false
bulk_is_determined p (bulk.TableGrow x) = false
bulk_is_determined p o = true

abbrev pub exchange_is_determined : Program → Option AtomicAccess → Bool
exchange_is_determined p None = false
exchange_is_determined p (Some r) = is_unshared p r.argument.memory

abbrev pub atomic_is_determined : Program → AtomicOperator → Bool
atomic_is_determined p atomic.AtomicFence = true
atomic_is_determined p (atomic.MemoryAtomicNotify m) = is_unshared p m.memory
atomic_is_determined p (atomic.MemoryAtomicWait32 m) = is_unshared p m.memory
atomic_is_determined p (atomic.MemoryAtomicWait64 m) = is_unshared p m.memory
atomic_is_determined p o = exchange_is_determined p (atomic_access o)

abbrev pub gc_is_determined : GcOperator → Bool
gc_is_determined gc.ExternConvertAny = false
gc_is_determined o = true

module _ (p : Program) (s : Store) (act : Activation) where
  -- a function of the program itself, by its index
  abbrev pub is_own_at : Option ℕ → Bool
  is_own_at None = false
  is_own_at (Some x) = is_own (body_of (slice_get p.functions x))

  -- null, or such a function
  abbrev pub calls_own : Value → Bool
  calls_own (ref_null c h) = true
  calls_own (ref_function i t) = is_own_at i
  calls_own v = false

  abbrev pub on_top : Value
  on_top = get_or act.innermost.values 0 nothing

  -- what a table holds; past its end there is a trap
  abbrev pub calls_own_there : Option Value → Bool
  calls_own_there None = true
  calls_own_there (Some v) = calls_own v

  abbrev pub control_is_determined : ControlOperator → Bool
  control_is_determined (control.Call x) = is_own_at (Some x)
  control_is_determined (control.ReturnCall x) = is_own_at (Some x)
  control_is_determined (control.CallIndirect y x) = calls_own_there (slice_get (table_in s x) (bits_of on_top))
  control_is_determined (control.ReturnCallIndirect y x) = calls_own_there (slice_get (table_in s x) (bits_of on_top))
  control_is_determined (control.CallRef x) = calls_own on_top
  control_is_determined (control.ReturnCallRef x) = calls_own on_top
  control_is_determined o = true

  abbrev pub is_determined : Op → Bool
  is_determined (op.Control o) = control_is_determined o
  is_determined (op.Parametric o) = true
  is_determined (op.Exception o) = true
  is_determined (op.Memory o) = memory_is_determined p o
  is_determined (op.Bulk o) = bulk_is_determined p o
  is_determined (op.Gc o) = gc_is_determined o
  is_determined (op.Const o) = true
  is_determined (op.Numeric o) = is_some (integer_operation o)
  is_determined (op.Simd o) = reach_is_determined p (simd_access o)
  is_determined (op.Atomic o) = atomic_is_determined p o
  is_determined o = false

  -- the beginnings and ends of blocks too
  abbrev pub code_is_determined : Code → Bool
  code_is_determined (plain o more) = is_determined o
  code_is_determined (nested o body more) = true
  code_is_determined (close o) = true
  code_is_determined (turn o more) = true

abbrev pub step_is_determined : Program → State → Store → Bool
step_is_determined p [] s = true
step_is_determined p (act ∷ acts) s = code_is_determined p s act act.innermost.code

-- ---- the theorem: whether or not all fits

abbrev pub StoreStepsAreDetermined : Type 0
StoreStepsAreDetermined = (p : Program) (x : State) (s : Store) (a b : Answer) (u w : Store)
    → IsTrue (step_is_determined p x s) → GivesStep p x s a u → GivesStep p x s b w
    → ((step p x a).outcome ≡ (step p x b).outcome) × (u ≡ w)

-- Of two runs of one length from one state and one store, of which one has only such steps, both come to the same.
abbrev pub DeterminedRuns : Program → Store → State → List Answer → Store → State → Type 0
DeterminedRuns p s x [] u y = (s ≡ u) × (x ≡ y)
DeterminedRuns p s x (a ∷ answers) u y = (w : Store) × (z : State) × IsTrue (step_is_determined p x s)
    × GivesStep p x s a w × ((step p x a).outcome ≡ next z) × DeterminedRuns p w z answers u y

abbrev pub RunsAreDetermined : Program → Type 0
RunsAreDetermined p = (s : Store) (x : State) (answers others : List Answer) (u w : Store) (y z : State)
    → DeterminedRuns p s x answers u y → StoreRuns p s x others w z → length answers ≡ length others
    → (u ≡ w) × (y ≡ z)

abbrev pub StoreRunsAreDetermined : Type 0
StoreRunsAreDetermined = (p : Program) → RunsAreDetermined p
