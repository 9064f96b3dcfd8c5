-- Atomic accesses to a memory (the proposal on threads, execution): which bytes are read and written at once, and which number is given, as it
-- was and without a sign.
use Rattle.std.specs.Prelude.{ℕ, ◌+◌, ◌-◌, ◌*◌, ◌%◌, ◌^◌, Bool, not, ◌==◌, List, [], ◌∷◌, Option, Some, None, if◌then◌else◌}
use Rattle.std.specs.Int.RustNames.{bit_and, bit_or, bit_xor}
use Rattle.wasm_types.specs.trees.Types.{Number, i32, i64}
use Rattle.wasm_operators_immediates.specs.declared.memory.MemArg.{MemArg}
use Rattle.wasm_operators_enums.specs.declared.atomic.AtomicOperator.{AtomicOperator}
use Rattle.wasm_operators_enums.specs.declared.atomic.AtomicOperator.TheVariants as atomic
use Rattle.wasm_operator_validator_soundness.specs.runs.Values.{Value, number_value}

-- an address that is no multiple of so many bytes
abbrev pub is_misaligned : ℕ → ℕ → Bool
is_misaligned i k = not (i % k == 0)

-- It takes numbers of these types above the address, reaches so many bytes there, and gives a number of this type, if one. What it writes
-- in their place, if anything, it makes of the number on top, of the one below it, and of the number that the bytes are; and of this one
-- what it gives.
pub record AtomicAccess : Type 0 where
  pub argument : MemArg
  pub takes : List Number
  pub gives : Option Number
  pub size : ℕ
  pub written : ℕ → ℕ → ℕ → Option ℕ
  pub given : ℕ → ℕ

abbrev pub number_given : Option Number → ℕ → List Value
number_given None b = []
number_given (Some n) b = number_value n b ∷ []

-- a load and a store of so many bytes
abbrev pub atomic_loads : Number → ℕ → MemArg → Option AtomicAccess
atomic_loads n k m = Some (record {
  argument = m;
  takes = [];
  gives = Some n;
  size = k;
  written = λ v w b. None;
  given = λ b. b;
})

abbrev pub atomic_stores : Number → ℕ → MemArg → Option AtomicAccess
atomic_stores n k m = Some (record {
  argument = m;
  takes = n ∷ [];
  gives = None;
  size = k;
  written = λ v w b. Some v;
  given = λ b. b;
})

-- What is there becomes what is made of it and of the number on top, and is given as it was.
abbrev pub modifies : (ℕ → ℕ → ℕ) → Number → ℕ → MemArg → Option AtomicAccess
modifies f n k m = Some (record {
  argument = m;
  takes = n ∷ [];
  gives = Some n;
  size = k;
  written = λ v w b. Some (f b v);
  given = λ b. b;
})

-- The number on top is written if what is there is the one below it, as far as that has so many bits.
abbrev pub exchanges : Number → ℕ → MemArg → Option AtomicAccess
exchanges n k m = Some (record {
  argument = m;
  takes = n ∷ n ∷ [];
  gives = Some n;
  size = k;
  written = λ v w b. if b == w % 2 ^ (8 * k) then Some v else None;
  given = λ b. b;
})

-- At a memory that no other thread uses no thread waits, so none is woken.
abbrev pub notification : MemArg → AtomicAccess
notification m = record {
  argument = m;
  takes = i32 ∷ [];
  gives = Some i32;
  size = 4;
  written = λ v w b. None;
  given = λ b. 0;
}

-- ---- what is made of the number that is there and of another; of that, as many bytes are written as were read

abbrev pub sum : ℕ → ℕ → ℕ
sum b v = b + v

-- of numbers of so many bytes
abbrev pub difference : ℕ → ℕ → ℕ → ℕ
difference k b v = b + (2 ^ (8 * k) - v % 2 ^ (8 * k))

abbrev pub other : ℕ → ℕ → ℕ
other b v = v

-- ---- the table, without fences and threads that wait or are woken

abbrev pub atomic_access : AtomicOperator → Option AtomicAccess
atomic_access (atomic.I32AtomicLoad m) = atomic_loads i32 4 m
atomic_access (atomic.I64AtomicLoad m) = atomic_loads i64 8 m
atomic_access (atomic.I32AtomicLoad8U m) = atomic_loads i32 1 m
atomic_access (atomic.I32AtomicLoad16U m) = atomic_loads i32 2 m
atomic_access (atomic.I64AtomicLoad8U m) = atomic_loads i64 1 m
atomic_access (atomic.I64AtomicLoad16U m) = atomic_loads i64 2 m
atomic_access (atomic.I64AtomicLoad32U m) = atomic_loads i64 4 m
atomic_access (atomic.I32AtomicStore m) = atomic_stores i32 4 m
atomic_access (atomic.I64AtomicStore m) = atomic_stores i64 8 m
atomic_access (atomic.I32AtomicStore8 m) = atomic_stores i32 1 m
atomic_access (atomic.I32AtomicStore16 m) = atomic_stores i32 2 m
atomic_access (atomic.I64AtomicStore8 m) = atomic_stores i64 1 m
atomic_access (atomic.I64AtomicStore16 m) = atomic_stores i64 2 m
atomic_access (atomic.I64AtomicStore32 m) = atomic_stores i64 4 m
atomic_access (atomic.I32AtomicRmwAdd m) = modifies sum i32 4 m
atomic_access (atomic.I64AtomicRmwAdd m) = modifies sum i64 8 m
atomic_access (atomic.I32AtomicRmw8AddU m) = modifies sum i32 1 m
atomic_access (atomic.I32AtomicRmw16AddU m) = modifies sum i32 2 m
atomic_access (atomic.I64AtomicRmw8AddU m) = modifies sum i64 1 m
atomic_access (atomic.I64AtomicRmw16AddU m) = modifies sum i64 2 m
atomic_access (atomic.I64AtomicRmw32AddU m) = modifies sum i64 4 m
atomic_access (atomic.I32AtomicRmwSub m) = modifies (difference 4) i32 4 m
atomic_access (atomic.I64AtomicRmwSub m) = modifies (difference 8) i64 8 m
atomic_access (atomic.I32AtomicRmw8SubU m) = modifies (difference 1) i32 1 m
atomic_access (atomic.I32AtomicRmw16SubU m) = modifies (difference 2) i32 2 m
atomic_access (atomic.I64AtomicRmw8SubU m) = modifies (difference 1) i64 1 m
atomic_access (atomic.I64AtomicRmw16SubU m) = modifies (difference 2) i64 2 m
atomic_access (atomic.I64AtomicRmw32SubU m) = modifies (difference 4) i64 4 m
atomic_access (atomic.I32AtomicRmwAnd m) = modifies bit_and i32 4 m
atomic_access (atomic.I64AtomicRmwAnd m) = modifies bit_and i64 8 m
atomic_access (atomic.I32AtomicRmw8AndU m) = modifies bit_and i32 1 m
atomic_access (atomic.I32AtomicRmw16AndU m) = modifies bit_and i32 2 m
atomic_access (atomic.I64AtomicRmw8AndU m) = modifies bit_and i64 1 m
atomic_access (atomic.I64AtomicRmw16AndU m) = modifies bit_and i64 2 m
atomic_access (atomic.I64AtomicRmw32AndU m) = modifies bit_and i64 4 m
atomic_access (atomic.I32AtomicRmwOr m) = modifies bit_or i32 4 m
atomic_access (atomic.I64AtomicRmwOr m) = modifies bit_or i64 8 m
atomic_access (atomic.I32AtomicRmw8OrU m) = modifies bit_or i32 1 m
atomic_access (atomic.I32AtomicRmw16OrU m) = modifies bit_or i32 2 m
atomic_access (atomic.I64AtomicRmw8OrU m) = modifies bit_or i64 1 m
atomic_access (atomic.I64AtomicRmw16OrU m) = modifies bit_or i64 2 m
atomic_access (atomic.I64AtomicRmw32OrU m) = modifies bit_or i64 4 m
atomic_access (atomic.I32AtomicRmwXor m) = modifies bit_xor i32 4 m
atomic_access (atomic.I64AtomicRmwXor m) = modifies bit_xor i64 8 m
atomic_access (atomic.I32AtomicRmw8XorU m) = modifies bit_xor i32 1 m
atomic_access (atomic.I32AtomicRmw16XorU m) = modifies bit_xor i32 2 m
atomic_access (atomic.I64AtomicRmw8XorU m) = modifies bit_xor i64 1 m
atomic_access (atomic.I64AtomicRmw16XorU m) = modifies bit_xor i64 2 m
atomic_access (atomic.I64AtomicRmw32XorU m) = modifies bit_xor i64 4 m
atomic_access (atomic.I32AtomicRmwXchg m) = modifies other i32 4 m
atomic_access (atomic.I64AtomicRmwXchg m) = modifies other i64 8 m
atomic_access (atomic.I32AtomicRmw8XchgU m) = modifies other i32 1 m
atomic_access (atomic.I32AtomicRmw16XchgU m) = modifies other i32 2 m
atomic_access (atomic.I64AtomicRmw8XchgU m) = modifies other i64 1 m
atomic_access (atomic.I64AtomicRmw16XchgU m) = modifies other i64 2 m
atomic_access (atomic.I64AtomicRmw32XchgU m) = modifies other i64 4 m
atomic_access (atomic.I32AtomicRmwCmpxchg m) = exchanges i32 4 m
atomic_access (atomic.I64AtomicRmwCmpxchg m) = exchanges i64 8 m
atomic_access (atomic.I32AtomicRmw8CmpxchgU m) = exchanges i32 1 m
atomic_access (atomic.I32AtomicRmw16CmpxchgU m) = exchanges i32 2 m
atomic_access (atomic.I64AtomicRmw8CmpxchgU m) = exchanges i64 1 m
atomic_access (atomic.I64AtomicRmw16CmpxchgU m) = exchanges i64 2 m
atomic_access (atomic.I64AtomicRmw32CmpxchgU m) = exchanges i64 4 m
atomic_access o = None
