-- Which bytes an access to a memory reads or writes, and what numbers are made of them (WebAssembly 3.0, execution, numerics, storage, and
-- memory instructions): the lowest byte first.
use Rattle.std.specs.Prelude.{ℕ, zero, suc, ◌+◌, ◌-◌, ◌*◌, ◌/◌, ◌%◌, ◌^◌, Bool, true, false, nat_lt, List, [], ◌∷◌, ◌++◌, take, drop, Option, Some, None, if◌then◌else◌}
use Rattle.wasm_types.specs.trees.Types.{Number, i32, i64, f32, f64, v128, StorageOf, i8, i16, value, number, ref}
use Rattle.wasm_types.specs.trees.Trees.{TypeTree}
use Rattle.wasm_operators_immediates.specs.declared.memory.MemArg.{MemArg}
use Rattle.wasm_operators_enums.specs.declared.memory.MemoryOperator.{MemoryOperator}
use Rattle.wasm_operators_enums.specs.declared.memory.MemoryOperator.TheVariants as memory
use Rattle.wasm_operators_enums.specs.declared.vector.SimdOperator.{SimdOperator}
use Rattle.wasm_operators_enums.specs.declared.vector.SimdOperator.TheVariants as simd
use Rattle.wasm_operator_validator_soundness.specs.runs.Values.{Value, number_value}
use Rattle.wasm_operator_validator_store.specs.Stores.{width, placed}

-- ---- numbers and their bytes

-- the number that these bytes are, and so many bytes of a number
abbrev pub number_of : List ℕ → ℕ
number_of [] = 0
number_of (b ∷ bs) = b + 256 * number_of bs

abbrev pub bytes_of : ℕ → ℕ → List ℕ
bytes_of zero b = []
bytes_of (suc k) b = b % 256 ∷ bytes_of k (b / 256)

-- so many bits, as a number of more bits with the same sign
abbrev pub signed_as : ℕ → ℕ → ℕ → ℕ
signed_as n m b = if nat_lt b (2 ^ (n - 1)) then b else b + (2 ^ m - 2 ^ n)

abbrev pub widened : Bool → ℕ → ℕ → ℕ → ℕ
widened false n m b = b
widened true n m b = signed_as n m b

-- past the end of so many
abbrev pub past : ℕ → ℕ → ℕ → Bool
past size i n = nat_lt size (i + n)

-- ---- lanes of a vector, by their bytes

-- so many lanes of so many bytes each, of which each becomes one of twice as many
abbrev pub widened_lanes : Bool → ℕ → ℕ → List ℕ → List ℕ
widened_lanes signed k zero bs = []
widened_lanes signed k (suc n) bs =
    bytes_of (k + k) (widened signed (8 * k) (16 * k) (number_of (take k bs))) ++ widened_lanes signed k n (drop k bs)

-- so many times
abbrev pub repeated : ℕ → List ℕ → List ℕ
repeated zero bs = []
repeated (suc n) bs = bs ++ repeated n bs

abbrev pub or_empty : Option (List ℕ) → List ℕ
or_empty None = []
or_empty (Some bs) = bs

-- a vector with other bytes in the lane of this number, of so many bytes
abbrev pub with_lane : ℕ → ℕ → ℕ → List ℕ → List ℕ
with_lane k lane v bs = or_empty (placed (bytes_of 16 v) (lane * k) bs)

-- ---- accesses

-- It takes numbers of these types above the address, reads so many bytes, and gives a number that is made of the one on top and of these
-- bytes. Or it writes so many bytes of a number that is made of the one on top.
pub data Access : Type 0 where
  reads : List Number → Number → ℕ → (ℕ → List ℕ → ℕ) → Access
  writes : Number → ℕ → (ℕ → ℕ) → Access

-- with the argument, which has the offset and the memory
pub record Reach : Type 0 where
  pub argument : MemArg
  pub access : Access

-- a number of so many bytes, from as many or from fewer
abbrev pub loads : MemArg → Number → ℕ → Option Reach
loads m n k = Some (record { argument = m; access = reads [] n k (λ v bs. number_of bs) })

abbrev pub loads_signed : MemArg → Number → ℕ → Option Reach
loads_signed m n k = Some (record {
  argument = m;
  access = reads [] n k (λ v bs. signed_as (8 * k) (width n) (number_of bs));
})

abbrev pub stores : MemArg → Number → ℕ → Option Reach
stores m n k = Some (record { argument = m; access = writes n k (λ b. b) })

abbrev pub memory_access : MemoryOperator → Option Reach
memory_access (memory.I32Load m) = loads m i32 4
memory_access (memory.I64Load m) = loads m i64 8
memory_access (memory.F32Load m) = loads m f32 4
memory_access (memory.F64Load m) = loads m f64 8
memory_access (memory.I32Load8S m) = loads_signed m i32 1
memory_access (memory.I32Load8U m) = loads m i32 1
memory_access (memory.I32Load16S m) = loads_signed m i32 2
memory_access (memory.I32Load16U m) = loads m i32 2
memory_access (memory.I64Load8S m) = loads_signed m i64 1
memory_access (memory.I64Load8U m) = loads m i64 1
memory_access (memory.I64Load16S m) = loads_signed m i64 2
memory_access (memory.I64Load16U m) = loads m i64 2
memory_access (memory.I64Load32S m) = loads_signed m i64 4
memory_access (memory.I64Load32U m) = loads m i64 4
memory_access (memory.I32Store m) = stores m i32 4
memory_access (memory.I64Store m) = stores m i64 8
memory_access (memory.F32Store m) = stores m f32 4
memory_access (memory.F64Store m) = stores m f64 8
memory_access (memory.I32Store8 m) = stores m i32 1
memory_access (memory.I32Store16 m) = stores m i32 2
memory_access (memory.I64Store8 m) = stores m i64 1
memory_access (memory.I64Store16 m) = stores m i64 2
memory_access (memory.I64Store32 m) = stores m i64 4
memory_access o = None

-- ---- accesses of vectors

-- a vector of so many bytes that are read, as they are or as lanes
abbrev pub loads_vector : MemArg → ℕ → (List ℕ → List ℕ) → Option Reach
loads_vector m k f = Some (record { argument = m; access = reads [] v128 k (λ v bs. number_of (f bs)) })

abbrev pub loads_lanes : Bool → MemArg → ℕ → Option Reach
loads_lanes signed m k = loads_vector m 8 (widened_lanes signed k (8 / k))

abbrev pub loads_splat : MemArg → ℕ → Option Reach
loads_splat m k = loads_vector m k (repeated (16 / k))

abbrev pub loads_lane : MemArg → ℕ → ℕ → Option Reach
loads_lane m k lane = Some (record {
  argument = m;
  access = reads (v128 ∷ []) v128 k (λ v bs. number_of (with_lane k lane v bs));
})

abbrev pub stores_lane : MemArg → ℕ → ℕ → Option Reach
stores_lane m k lane = Some (record { argument = m; access = writes v128 k (λ v. v / 256 ^ (lane * k)) })

abbrev pub simd_access : SimdOperator → Option Reach
simd_access (simd.V128Load m) = loads m v128 16
simd_access (simd.V128Load8x8S m) = loads_lanes true m 1
simd_access (simd.V128Load8x8U m) = loads_lanes false m 1
simd_access (simd.V128Load16x4S m) = loads_lanes true m 2
simd_access (simd.V128Load16x4U m) = loads_lanes false m 2
simd_access (simd.V128Load32x2S m) = loads_lanes true m 4
simd_access (simd.V128Load32x2U m) = loads_lanes false m 4
simd_access (simd.V128Load8Splat m) = loads_splat m 1
simd_access (simd.V128Load16Splat m) = loads_splat m 2
simd_access (simd.V128Load32Splat m) = loads_splat m 4
simd_access (simd.V128Load64Splat m) = loads_splat m 8
simd_access (simd.V128Load32Zero m) = loads m v128 4
simd_access (simd.V128Load64Zero m) = loads m v128 8
simd_access (simd.V128Store m) = stores m v128 16
simd_access (simd.V128Load8Lane m lane) = loads_lane m 1 lane
simd_access (simd.V128Load16Lane m lane) = loads_lane m 2 lane
simd_access (simd.V128Load32Lane m lane) = loads_lane m 4 lane
simd_access (simd.V128Load64Lane m lane) = loads_lane m 8 lane
simd_access (simd.V128Store8Lane m lane) = stores_lane m 1 lane
simd_access (simd.V128Store16Lane m lane) = stores_lane m 2 lane
simd_access (simd.V128Store32Lane m lane) = stores_lane m 4 lane
simd_access (simd.V128Store64Lane m lane) = stores_lane m 8 lane
simd_access o = None

-- ---- what an array is made of (execution, aggregate instructions, `array.new_data`)

-- the type of the number that is stored, and of how many bytes it is; a reference is of none
abbrev pub stored_type : StorageOf TypeTree → Option Number
stored_type i8 = Some i32
stored_type i16 = Some i32
stored_type (value (number n)) = Some n
stored_type (value (ref n h)) = None

abbrev pub stored_size : StorageOf TypeTree → ℕ
stored_size i8 = 1
stored_size i16 = 2
stored_size (value (number n)) = width n / 8
stored_size (value (ref n h)) = 0

-- so many numbers, of so many bytes each
abbrev pub numbers_from : Option Number → ℕ → ℕ → List ℕ → List Value
numbers_from None k n bs = []
numbers_from (Some t) k zero bs = []
numbers_from (Some t) k (suc n) bs = number_value t (number_of (take k bs)) ∷ numbers_from (Some t) k n (drop k bs)

-- how many of so many elements are numbers
abbrev pub number_count : Option Number → ℕ → ℕ
number_count None n = 0
number_count (Some t) n = n

abbrev pub elements_from : StorageOf TypeTree → ℕ → List ℕ → List Value
elements_from t n bs = numbers_from (stored_type t) (stored_size t) n bs
