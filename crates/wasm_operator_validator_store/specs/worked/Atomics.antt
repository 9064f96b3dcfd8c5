-- Worked steps over a store: atomic accesses to memories.
use Rattle.std.specs.Prelude.{◌≡◌, ℕ, true, false, List, [], ◌∷◌}
use Rattle.wasm_types.specs.trees.Types.{number, i64}
use Rattle.wasm_operators_enums.specs.declared.atomic.AtomicOperator.{AtomicOperator}
use Rattle.wasm_operators_enums.specs.declared.atomic.AtomicOperator.TheVariants as atomic
use Rattle.wasm_operators_enums.specs.declared.memory.MemoryOperator.TheVariants as memory
use Rattle.wasm_operators_enums.specs.Op as op
use Rattle.wasm_operators_encoding.specs.expressions.Code.{Code, plain}
use Rattle.wasm_operator_validator_soundness.specs.runs.Values.{Value, number_value}
use Rattle.wasm_operator_validator_soundness.specs.runs.States.{Answer, State, returned, trapped}
use Rattle.wasm_operator_validator_soundness.specs.runs.worked.Runs.{silent, standing, end}
use Rattle.wasm_operator_validator_store.specs.Stores.{Store}
use Rattle.wasm_operator_validator_store.specs.Giving.{GivesStep}
use Rattle.wasm_operator_validator_store.specs.Determined.{step_is_determined}
use Rattle.wasm_operator_validator_store.specs.Traps.{step_traps}
use Rattle.wasm_operator_validator_store.specs.Exact.{step_is_exact}
use Rattle.wasm_operator_validator_store.specs.worked.Program.{num, giving, trapping, program, store, numbers, in_place, LeadsFrom, Leads, returns, memory_then, drop_then}
use Rattle.wasm_operator_validator_store.specs.worked.Memories.{at}

abbrev pub atomic_then : AtomicOperator → Code → Code
atomic_then o more = plain (op.Atomic o) more

-- a byte of the first memory, at an address that lies below
abbrev pub byte_then : Code
byte_then = memory_then (memory.I32Load8U (at 0 0)) end

abbrev pub wide_num : ℕ → Value
wide_num b = number_value i64 b

abbrev pub before : AtomicOperator → List Value → State
before o vs = standing numbers vs (atomic_then o end)

abbrev pub Steps : AtomicOperator → List Value → Answer → Store → Type 0
Steps o vs a u = GivesStep program (before o vs) store a u

-- this is given
abbrev pub Reads : AtomicOperator → List Value → ℕ → Type 0
Reads o vs b = Leads (atomic_then o end) vs (giving (num b ∷ []) ∷ []) silent (returns b)

abbrev pub ReadsWide : AtomicOperator → List Value → ℕ → Type 0
ReadsWide o vs b = LeadsFrom (in_place (number i64 ∷ []) vs (atomic_then o end)) (giving (wide_num b ∷ []) ∷ []) silent
    (returned (wide_num b ∷ []))

abbrev pub Falls : AtomicOperator → List Value → Type 0
Falls o vs = Leads (atomic_then o end) vs [] trapping trapped

-- a byte after a store; what is given by another access, and a byte after it
abbrev pub Stores : AtomicOperator → List Value → ℕ → Type 0
Stores o vs b = Leads (atomic_then o byte_then) vs (silent ∷ giving (num b ∷ []) ∷ []) silent (returns b)

abbrev pub Leaves : AtomicOperator → List Value → Value → ℕ → Type 0
Leaves o vs old b = Leads (atomic_then o (drop_then byte_then)) vs (giving (old ∷ []) ∷ silent ∷ giving (num b ∷ []) ∷ [])
    silent (returns b)

pub record AtomicLoadsWorked : Type 0 where
  pub word : Reads (atomic.I32AtomicLoad (at 0 0)) (num 0 ∷ []) 4277993985
  pub byte : Reads (atomic.I32AtomicLoad8U (at 0 0)) (num 3 ∷ []) 254
  pub half : Reads (atomic.I32AtomicLoad16U (at 0 0)) (num 6 ∷ []) 32775
  pub offset : Reads (atomic.I32AtomicLoad16U (at 4 0)) (num 2 ∷ []) 32775
  pub of_wide_memory : Reads (atomic.I32AtomicLoad16U (at 0 1)) (wide_num 2 ∷ []) 1543
  pub wide_word : ReadsWide (atomic.I64AtomicLoad (at 0 0)) (num 0 ∷ []) 9225348984514347521
  pub wide_low : ReadsWide (atomic.I64AtomicLoad32U (at 0 0)) (num 4 ∷ []) 2147943941
  pub wide_byte : ReadsWide (atomic.I64AtomicLoad8U (at 0 0)) (num 7 ∷ []) 128
  -- no other number, and the store is as it was
  pub no_other : (u : Store) → Steps (atomic.I32AtomicLoad8U (at 0 0)) (num 3 ∷ []) (giving (num 253 ∷ [])) u → ⊥
  pub no_sign : (u : Store) → Steps (atomic.I32AtomicLoad8U (at 0 0)) (num 3 ∷ []) (giving (num 4294967294 ∷ [])) u → ⊥
  pub no_change : (a : Answer) (u : Store) → Steps (atomic.I32AtomicLoad (at 0 0)) (num 0 ∷ []) a u → u ≡ store

-- past the end, and addresses that are no multiple of the width
pub record AtomicBoundsWorked : Type 0 where
  pub last_word : Reads (atomic.I32AtomicLoad (at 0 0)) (num 4 ∷ []) 2147943941
  pub past_word : Falls (atomic.I32AtomicLoad (at 0 0)) (num 8 ∷ [])
  pub past_by_offset : Falls (atomic.I32AtomicLoad (at 4 0)) (num 4 ∷ [])
  pub no_wrap : Falls (atomic.I32AtomicLoad8U (at 1 0)) (num 4294967295 ∷ [])
  pub misaligned_word : Falls (atomic.I32AtomicLoad (at 0 0)) (num 2 ∷ [])
  pub misaligned_half : Falls (atomic.I32AtomicLoad16U (at 0 0)) (num 3 ∷ [])
  pub misaligned_by_offset : Falls (atomic.I32AtomicLoad (at 2 0)) (num 0 ∷ [])
  pub aligned_by_offset : Reads (atomic.I32AtomicLoad (at 2 0)) (num 2 ∷ []) 2147943941
  pub misaligned_wide : Falls (atomic.I64AtomicLoad (at 0 0)) (num 4 ∷ [])
  pub past_store : Falls (atomic.I32AtomicStore (at 0 0)) (num 1 ∷ num 8 ∷ [])
  pub misaligned_store : Falls (atomic.I32AtomicStore16 (at 0 0)) (num 1 ∷ num 1 ∷ [])
  pub past_add : Falls (atomic.I32AtomicRmw8AddU (at 0 0)) (num 1 ∷ num 8 ∷ [])
  pub misaligned_add : Falls (atomic.I32AtomicRmwAdd (at 0 0)) (num 1 ∷ num 1 ∷ [])
  pub past_exchange : Falls (atomic.I32AtomicRmw8CmpxchgU (at 0 0)) (num 1 ∷ num 1 ∷ num 8 ∷ [])
  pub misaligned_exchange : Falls (atomic.I32AtomicRmw16CmpxchgU (at 0 0)) (num 1 ∷ num 1 ∷ num 5 ∷ [])
  pub empty : Falls (atomic.I32AtomicLoad8U (at 0 3)) (num 0 ∷ [])
  -- no trap at a multiple within bounds, and nothing else where there is a trap
  pub not_within : (u : Store) → Steps (atomic.I32AtomicLoad (at 0 0)) (num 4 ∷ []) trapping u → ⊥
  pub not_misaligned : (a : Answer) (u : Store) → Steps (atomic.I32AtomicLoad (at 0 0)) (num 2 ∷ []) a u → a.traps ≡ true

pub record AtomicStoresWorked : Type 0 where
  pub low : Stores (atomic.I32AtomicStore16 (at 0 0)) (num 66047 ∷ num 2 ∷ num 2 ∷ []) 255
  pub high : Stores (atomic.I32AtomicStore16 (at 0 0)) (num 66047 ∷ num 2 ∷ num 3 ∷ []) 1
  pub above : Stores (atomic.I32AtomicStore16 (at 0 0)) (num 66047 ∷ num 2 ∷ num 4 ∷ []) 5
  pub word : Stores (atomic.I32AtomicStore (at 0 0)) (num 67305985 ∷ num 4 ∷ num 7 ∷ []) 4
  pub wide : Stores (atomic.I64AtomicStore (at 0 0)) (wide_num 578437695752307201 ∷ num 0 ∷ num 6 ∷ []) 7
  pub something : Steps (atomic.I32AtomicStore8 (at 0 0)) (num 9 ∷ num 0 ∷ []) silent store → ⊥

-- the number that was there is given, and so many bytes become another
pub record AtomicChangesWorked : Type 0 where
  pub add : Leaves (atomic.I32AtomicRmwAdd (at 0 0)) (num 5 ∷ num 4 ∷ num 4 ∷ []) (num 2147943941) 10
  pub add_carries : Leaves (atomic.I32AtomicRmw16AddU (at 0 0)) (num 5 ∷ num 2 ∷ num 3 ∷ []) (num 65277) 255
  pub add_wraps : Leaves (atomic.I32AtomicRmw8AddU (at 0 0)) (num 5 ∷ num 2 ∷ num 2 ∷ []) (num 253) 2
  pub add_stays_within : Leaves (atomic.I32AtomicRmw8AddU (at 0 0)) (num 5 ∷ num 2 ∷ num 3 ∷ []) (num 253) 254
  pub add_low_bits : Leaves (atomic.I32AtomicRmw8AddU (at 0 0)) (num 511 ∷ num 2 ∷ num 2 ∷ []) (num 253) 252
  pub add_wide : Leaves (atomic.I64AtomicRmw32AddU (at 0 0)) (wide_num 1 ∷ num 4 ∷ num 4 ∷ []) (wide_num 2147943941) 6
  pub subtract : Leaves (atomic.I32AtomicRmwSub (at 0 0)) (num 1 ∷ num 4 ∷ num 4 ∷ []) (num 2147943941) 4
  pub subtract_wraps : Leaves (atomic.I32AtomicRmw8SubU (at 0 0)) (num 2 ∷ num 0 ∷ num 0 ∷ []) (num 1) 255
  pub subtract_low_bits : Leaves (atomic.I32AtomicRmw8SubU (at 0 0)) (num 258 ∷ num 0 ∷ num 0 ∷ []) (num 1) 255
  pub conjunction : Leaves (atomic.I32AtomicRmw8AndU (at 0 0)) (num 15 ∷ num 2 ∷ num 2 ∷ []) (num 253) 13
  pub disjunction : Leaves (atomic.I32AtomicRmw8OrU (at 0 0)) (num 6 ∷ num 0 ∷ num 0 ∷ []) (num 1) 7
  pub difference : Leaves (atomic.I32AtomicRmw8XorU (at 0 0)) (num 255 ∷ num 2 ∷ num 2 ∷ []) (num 253) 2
  pub exchange : Leaves (atomic.I32AtomicRmw16XchgU (at 0 0)) (num 770 ∷ num 6 ∷ num 7 ∷ []) (num 32775) 3
  -- what was there is given, not what is there then
  pub not_new : (u : Store) → Steps (atomic.I32AtomicRmw8AddU (at 0 0)) (num 1 ∷ num 0 ∷ []) (giving (num 2 ∷ [])) u → ⊥
  pub something : (a : Answer) → Steps (atomic.I32AtomicRmw8AddU (at 0 0)) (num 1 ∷ num 0 ∷ []) a store → ⊥

-- the number on top is written if the one below it is there
pub record AtomicExchangesWorked : Type 0 where
  pub equal : Leaves (atomic.I32AtomicRmwCmpxchg (at 0 0)) (num 9 ∷ num 2147943941 ∷ num 4 ∷ num 4 ∷ []) (num 2147943941) 9
  pub equal_all : Leaves (atomic.I32AtomicRmwCmpxchg (at 0 0)) (num 9 ∷ num 2147943941 ∷ num 4 ∷ num 7 ∷ []) (num 2147943941) 0
  pub equal_low_bits : Leaves (atomic.I32AtomicRmw8CmpxchgU (at 0 0)) (num 7 ∷ num 509 ∷ num 2 ∷ num 2 ∷ []) (num 253) 7
  pub equal_wide : Leaves (atomic.I64AtomicRmw16CmpxchgU (at 0 0)) (wide_num 7 ∷ wide_num 513 ∷ num 0 ∷ num 1 ∷ []) (wide_num 513) 0
  pub unequal : Leaves (atomic.I32AtomicRmwCmpxchg (at 0 0)) (num 9 ∷ num 1 ∷ num 4 ∷ num 4 ∷ []) (num 2147943941) 5
  pub unequal_changes_nothing : (a : Answer) (u : Store)
      → Steps (atomic.I32AtomicRmwCmpxchg (at 0 0)) (num 9 ∷ num 1 ∷ num 4 ∷ []) a u → u ≡ store
  pub equal_changes_something : (a : Answer)
      → Steps (atomic.I32AtomicRmwCmpxchg (at 0 0)) (num 9 ∷ num 2147943941 ∷ num 4 ∷ []) a store → ⊥

-- Threads that wait, and a fence; and a memory that other threads use: any bytes, and a trap past what was there or at an address that is
-- no multiple of the width
pub record AtomicThreadsWorked : Type 0 where
  pub none_woken : Reads (atomic.MemoryAtomicNotify (at 0 0)) (num 5 ∷ num 4 ∷ []) 0
  pub notify_past : Falls (atomic.MemoryAtomicNotify (at 0 0)) (num 5 ∷ num 8 ∷ [])
  pub notify_misaligned : Falls (atomic.MemoryAtomicNotify (at 0 0)) (num 5 ∷ num 2 ∷ [])
  pub not_woken : (u : Store) → Steps (atomic.MemoryAtomicNotify (at 0 0)) (num 5 ∷ num 4 ∷ []) (giving (num 1 ∷ [])) u → ⊥
  pub wait : Falls (atomic.MemoryAtomicWait32 (at 0 0)) (wide_num 0 ∷ num 1 ∷ num 0 ∷ [])
  pub wide_wait : Falls (atomic.MemoryAtomicWait64 (at 0 0)) (wide_num 0 ∷ wide_num 1 ∷ num 0 ∷ [])
  pub fence : Leads (atomic_then atomic.AtomicFence byte_then) (num 2 ∷ []) (silent ∷ giving (num 253 ∷ []) ∷ []) silent (returns 253)
  pub any_number : Reads (atomic.I32AtomicLoad (at 0 2)) (num 0 ∷ []) 9
  pub any_woken : Reads (atomic.MemoryAtomicNotify (at 0 2)) (num 5 ∷ num 0 ∷ []) 1
  pub any_wait : Reads (atomic.MemoryAtomicWait32 (at 0 2)) (wide_num 0 ∷ num 1 ∷ num 0 ∷ []) 1
  pub own_determined : step_is_determined program (before (atomic.I32AtomicRmwAdd (at 0 0)) []) store ≡ true
  pub wait_determined : step_is_determined program (before (atomic.MemoryAtomicWait32 (at 0 0)) []) store ≡ true
  pub fence_determined : step_is_determined program (before atomic.AtomicFence []) store ≡ true
  pub shared_open : step_is_determined program (before (atomic.I32AtomicRmwAdd (at 0 2)) []) store ≡ false
  pub own_exact : step_is_exact program (before (atomic.I32AtomicRmwAdd (at 0 0)) []) ≡ true
  pub shared_inexact : step_is_exact program (before (atomic.I32AtomicRmwAdd (at 0 2)) []) ≡ false
  pub no_trap_within : step_traps program (before (atomic.I32AtomicLoad (at 0 0)) (num 4 ∷ [])) store ≡ false
  pub trap_misaligned : step_traps program (before (atomic.I32AtomicLoad (at 0 0)) (num 2 ∷ [])) store ≡ true
  pub trap_past : step_traps program (before (atomic.I32AtomicLoad (at 0 0)) (num 8 ∷ [])) store ≡ true
  pub trap_waiting : step_traps program (before (atomic.MemoryAtomicWait32 (at 0 0)) []) store ≡ true
  pub shared_past : Falls (atomic.I32AtomicLoad (at 0 2)) (num 4 ∷ [])
  pub shared_misaligned : (a : Answer) (u : Store) → Steps (atomic.I32AtomicLoad (at 0 2)) (num 2 ∷ []) a u → a.traps ≡ true
  pub no_trap_shared : step_traps program (before (atomic.I32AtomicLoad (at 0 2)) (num 0 ∷ [])) store ≡ false
  pub trap_shared_misaligned : step_traps program (before (atomic.I32AtomicLoad (at 0 2)) (num 2 ∷ [])) store ≡ true
  pub trap_shared_waiting : step_traps program (before (atomic.MemoryAtomicWait32 (at 0 2)) []) store ≡ true
  pub trap_shared_woken : step_traps program (before (atomic.MemoryAtomicNotify (at 0 2)) (num 5 ∷ num 0 ∷ [])) store ≡ true
  pub no_trap_woken : step_traps program (before (atomic.MemoryAtomicNotify (at 0 0)) (num 5 ∷ num 0 ∷ [])) store ≡ false
  pub no_trap_at_fence : step_traps program (before atomic.AtomicFence []) store ≡ false

pub record AtomicsWorked : Type 0 where
  pub loads : AtomicLoadsWorked
  pub bounds : AtomicBoundsWorked
  pub stores : AtomicStoresWorked
  pub changes : AtomicChangesWorked
  pub exchanges : AtomicExchangesWorked
  pub threads : AtomicThreadsWorked
