-- That numbers stay within their widths: what is given is read from where they are, or has few bits.
use Rattle.std.proofs.Common.{◌≡◌, ℕ, ℤ, pos, negsuc, zero, suc, ◌+◌, ◌-◌, ◌*◌, ◌%◌, ◌^◌, ◌<◌, ◌≤◌, Bool, true, false, not, IsTrue, nat_lt, List, [], ◌∷◌, ◌++◌, length, take, drop, replicate, get_or, ap, length-append, Option, Some, None, if◌then◌else◌, slice_get, refl, sym, subst, ◌∙◌, true≢false, arith}
use Rattle.std.specs.Prelude.{◌⊎◌}
use mathlib.Core.Logic.{⊎_elim}
use Rattle.std.proofs.lemmas.Bool.{lt-ltb, ltb-false}
use Rattle.std.proofs.lemmas.Nat.{mod_below}
use Rattle.wasm_types.specs.trees.Types.{Number, i32, i64, f32, f64, v128, number, ref, StorageOf, i8, i16, value, FieldOf}
use Rattle.wasm_types.specs.trees.Trees.{TypeTree}
use Rattle.wasm_types.specs.trees.Below.{expanded}
use Rattle.wasm_operators_immediates.specs.declared.memory.MemArg.{MemArg}
use Rattle.wasm_operators_enums.specs.declared.numeric.NumericOperator.{NumericOperator}
use Rattle.wasm_operators_enums.specs.declared.vector.SimdOperator.{SimdOperator}
use Rattle.wasm_operators_enums.specs.declared.vector.SimdOperator.TheVariants as simd
use Rattle.wasm_operators_enums.specs.declared.atomic.AtomicOperator.{AtomicOperator}
use Rattle.wasm_operators_enums.specs.declared.atomic.AtomicOperator.TheVariants as atomic
use Rattle.wasm_operators_enums.specs.declared.control.ControlOperator.{ControlOperator}
use Rattle.wasm_operators_enums.specs.declared.control.ControlOperator.TheVariants as control
use Rattle.wasm_operators_enums.specs.declared.memory.MemoryOperator.{MemoryOperator}
use Rattle.wasm_operators_enums.specs.declared.memory.MemoryOperator.TheVariants as memory
use Rattle.wasm_operators_enums.specs.declared.constant.ConstOperator.{ConstOperator}
use Rattle.wasm_operators_enums.specs.declared.constant.ConstOperator.TheVariants as const
use Rattle.wasm_operators_enums.specs.declared.bulk.BulkOperator.{BulkOperator}
use Rattle.wasm_operators_enums.specs.declared.bulk.BulkOperator.TheVariants as bulk
use Rattle.wasm_operators_enums.specs.declared.gc.GcOperator.{GcOperator}
use Rattle.wasm_operators_enums.specs.declared.gc.GcOperator.TheVariants as gc
use Rattle.wasm_operators_enums.specs.Op as op
use Rattle.wasm_operators_enums.specs.Op.{Op, ParametricTree, ExceptionTree}
use Rattle.wasm_operators_encoding.specs.expressions.Code.{Code, close, plain, nested, turn}
use Rattle.wasm_operator_validator_rules.specs.Operands.{ValueType}
use Rattle.wasm_operator_validator_soundness.specs.runs.Values.{Body, Program, Value, number_value, ref_null, ref_function, ref_object, ref_i31, ref_host, ref_extern, ref_exn, default_of}
use Rattle.wasm_operator_validator_soundness.specs.runs.States.{Exception, Activation, State, Answer}
use Rattle.wasm_operator_validator_soundness.specs.runs.Machine.{body_of, named, caught_at, fields_in, operands_of}
use Rattle.wasm_operator_validator_store.specs.Stores.{GlobalInstance, TableInstance, ObjectInstance, ExceptionInstance, Store, width, IsWithin, integer_bits, extended, unpacked, truth, sized, failure, bits_of, nothing, or_nothing, defaults, field_at, range, placed, value_held, elements_held, with_value, with_elements, global_address, table_address, global_in, table_in, segment_in, with_global, with_table, without_segment, with_object, with_fields, with_exception, with_extern, MemoryInstance, bytes_held, pages_held, page_of, most_grown, grown, with_bytes, memory_address, memory_at, memory_in, data_in, with_memory, without_data}
use Rattle.wasm_operator_validator_store.specs.ValidStores.{Each, InWidth, StoreInWidth, HasLocal, HasActivation, HasState, IsByte}
use Rattle.wasm_operator_validator_store.specs.Giving.{is_wide, Either, Stays, Traps, Gives, Tells, Outside, OrTraps, There, OfObject, Makes, ThrowsAgain, Begins, Calls, CallsIndirect, ThrowsReference, Reads, WritesTo, Writes, MakesNamed, Unboxes, ConvertsToAny, ConvertsToExtern, GivesControl, GivesParametric, GivesException, GivesMemory, GivesBulk, GivesGc, GivesConstant, GivesOperator, GivesBlock, GivesCode, is_wide_memory, is_shared_memory, shared, Writing, Sized, size_of, GrowsTo, atomic_address, Replaces, Exchanges, Aligned, ByOthers, GivesAtomic, OfData, Accesses, Reaches, OrOutside, Calculates}
use Rattle.wasm_operator_validator_store.specs.Memories.{number_of, bytes_of, signed_as, widened, widened_lanes, repeated, or_empty, with_lane, Access, reads, writes, Reach, memory_access, simd_access, stored_size, numbers_from, elements_from}
use Rattle.wasm_operator_validator_store.specs.Atomics.{is_misaligned, AtomicAccess, number_given, notification, atomic_access}
use Rattle.wasm_operator_validator_store.specs.Widths.{SizesInWidth, WidthsAreKept}
use Rattle.wasm_operator_validator_store.proofs.Lists.{each_map, each_take, each_append, each_reverse, each_replicate, each_get, each_get_or, each_set, each_changed, each_range, each_placed, each_of_map, none_some, same_some, each_drop, placed_length, take_length}
use Rattle.wasm_operator_validator_store.proofs.Keeping.{IsPlain, default_kept}
use Rattle.wasm_operator_validator_store.proofs.Bytes.{many, many_1, many_2, many_4, many_8, many_16, many_more, many_bits, number_below, number_within, bytes_are, bytes_length}
use Rattle.wasm_operator_validator_store.proofs.Memories.{reading, writing}
use Rattle.wasm_operator_validator_store.proofs.Operating.{OnTop, CallsNew, ThrownNew, ControlNew, ExceptionNew, New, CodeNew, execute_keeps}
use Rattle.wasm_operator_validator_store.proofs.Progress.{zero_within}
use Rattle.wasm_operator_validator_store.specs.Integers.{Operation, integer_operation}
use Rattle.wasm_operator_validator_store.proofs.Integers.{IsBelow, row_is}

-- ---- numbers

within : (n m : ℕ) → n < m → IsTrue (nat_lt n m)
within n m l = lt-ltb n m l

low_bits : (b m : ℕ) → 0 < m → IsTrue (nat_lt (b % m) m)
low_bits b m l = within (b % m) m (mod_below b m l)

plain_width : IsPlain InWidth
plain_width = record { zeros = zero_within; nulls = λ c h. tt; functions = λ i t. tt }

-- a number from outside
in_width : (v : Value) → IsWithin v → InWidth v
in_width (number_value n b) h = h
in_width v h = absurd h

truth_within : (b : Bool) → IsWithin (number_value i32 (truth b))
truth_within true = refl
truth_within false = refl

failure_within : (b : Bool) → InWidth (failure b)
failure_within true = refl
failure_within false = refl

sized_width : (b : Bool) (n : ℕ) → IsWithin (sized b n) → InWidth (sized b n)
sized_width true n h = h
sized_width false n h = h

-- what is above such a power of two, and what is below it
negative : (k m : ℕ) → k < m → m - suc k < m
negative k m l = omega (arith, l)

integer_within : (n : Number) (x : ℤ) → 0 < 2 ^ width n → IsWithin (number_value n (integer_bits (width n) x))
integer_within n (pos k) l = low_bits k (2 ^ width n) l
integer_within n (negsuc k) l = within (2 ^ width n - suc (k % 2 ^ width n)) (2 ^ width n) (negative (k % 2 ^ width n) (2 ^ width n) (mod_below k (2 ^ width n) l))

-- with a sign, of so many bits, which are fewer than 32
signed_within : (t : Bool) (r low high : ℕ) → r < low → low ≤ high → IsTrue (nat_lt (if t then r else r + (high - low)) high)
signed_within true r low high l m = within r high (omega (arith, l, m))
signed_within false r low high l m = within (r + (high - low)) high (omega (arith, l, m))

extended_within : (signed : Bool) (n b : ℕ) → 0 < 2 ^ n → 2 ^ n ≤ 2 ^ 32 → IsWithin (number_value i32 (extended signed n b))
extended_within false n b l m = within (b % 2 ^ n) (2 ^ 32) (omega (arith, mod_below b (2 ^ n) l, m))
extended_within true n b l m = signed_within (nat_lt (b % 2 ^ n) (2 ^ (n - 1))) (b % 2 ^ n) (2 ^ n) (2 ^ 32) (mod_below b (2 ^ n) l) m

unpacked_within : (signed : Bool) (q : StorageOf TypeTree) (v : Value) → InWidth v → InWidth (unpacked signed q v)
unpacked_within signed i8 v h = extended_within signed 8 (bits_of v) (omega arith) (omega arith)
unpacked_within signed i16 v h = extended_within signed 16 (bits_of v) (omega arith) (omega arith)
unpacked_within signed (value t) v h = h

-- ---- what is read from a store

elements_within : (o : Option TableInstance) → ((t : TableInstance) → o ≡ Some t → Each InWidth t.elements) → Each InWidth (elements_held o)
elements_within None h = tt
elements_within (Some t) h = h t refl

value_within : (o : Option GlobalInstance) → ((g : GlobalInstance) → o ≡ Some g → InWidth g.value) → InWidth (value_held o)
value_within None h = tt
value_within (Some g) h = h g refl

-- the defaults of fields
local_within : (o : Option Value) → HasLocal InWidth o → InWidth (or_nothing o)
local_within None h = tt
local_within (Some v) h = h

defaults_within : (fs : List (FieldOf TypeTree)) → Each InWidth (defaults fs)
defaults_within fs = each_of_map InWidth (λ (t : ValueType). or_nothing (default_of t)) (operands_of fs) (λ t. local_within (default_of t) (default_kept InWidth plain_width t))

-- ---- what an access gives

-- within the width of its type, if what it reads are so many bytes
abbrev IsNarrow : Access → Type 0
IsNarrow (reads ts n k f) = (c : ℕ) (bs : List ℕ) → length bs ≡ k → Each IsByte bs → IsWithin (number_value n (f c bs))
IsNarrow (writes n k f) = Unit {0}

abbrev ReachIsNarrow : Option Reach → Type 0
ReachIsNarrow None = Unit {0}
ReachIsNarrow (Some r) = IsNarrow r.access

plain_narrow : (n : Number) (k : ℕ) → many k ≤ 2 ^ width n → (c : ℕ) (bs : List ℕ) → length bs ≡ k → Each IsByte bs → IsWithin (number_value n (number_of bs))
plain_narrow n k l c bs e b = number_within bs k (2 ^ width n) (omega (arith, e)) l b

signed_narrow : (n : Number) (k : ℕ) → many k ≤ 2 ^ (8 * k) → 2 ^ (8 * k) ≤ 2 ^ width n → (c : ℕ) (bs : List ℕ) → length bs ≡ k → Each IsByte bs → IsWithin (number_value n (signed_as (8 * k) (width n) (number_of bs)))
signed_narrow n k l m c bs e b = signed_within (nat_lt (number_of bs) (2 ^ (8 * k - 1))) (number_of bs) (2 ^ (8 * k)) (2 ^ width n) (omega (arith, number_below bs b, many_more (length bs) k (omega (arith, e)), l)) m

-- vectors of sixteen bytes
vector_narrow : (bs : List ℕ) → length bs ≤ 16 → Each IsByte bs → IsWithin (number_value v128 (number_of bs))
vector_narrow bs l b = number_within bs 16 (2 ^ 128) l (omega (arith, many_16)) b

lanes_bytes : (signed : Bool) (k n : ℕ) (bs : List ℕ) → Each IsByte (widened_lanes signed k n bs)
lanes_bytes signed k zero bs = tt
lanes_bytes signed k (suc n) bs = each_append IsByte (bytes_of (k + k) (widened signed (8 * k) (16 * k) (number_of (take k bs)))) (widened_lanes signed k n (drop k bs)) (bytes_are (k + k) _) (lanes_bytes signed k n (drop k bs))

one_more : (k n l m q : ℕ) → l ≡ k + k → m ≡ n * (k + k) → q ≡ l + m → q ≡ suc n * (k + k)
one_more k n l m q e f g = omega (arith, e, f, g)

lanes_length : (signed : Bool) (k n : ℕ) (bs : List ℕ) → length (widened_lanes signed k n bs) ≡ n * (k + k)
lanes_length signed k zero bs = omega arith
lanes_length signed k (suc n) bs =
    let first = bytes_of (k + k) (widened signed (8 * k) (16 * k) (number_of (take k bs))) in
    let rest = widened_lanes signed k n (drop k bs) in
    one_more k n (length first) (length rest) (length (first ++ rest)) (bytes_length (k + k) (widened signed (8 * k) (16 * k) (number_of (take k bs)))) (lanes_length signed k n (drop k bs)) (length-append first rest)

repeated_bytes : (n : ℕ) (bs : List ℕ) → Each IsByte bs → Each IsByte (repeated n bs)
repeated_bytes zero bs b = tt
repeated_bytes (suc n) bs b = each_append IsByte bs (repeated n bs) b (repeated_bytes n bs b)

again_more : (n k m q : ℕ) → m ≡ n * k → q ≡ k + m → q ≡ suc n * k
again_more n k m q e f = omega (arith, e, f)

repeated_length : (n : ℕ) (bs : List ℕ) → length (repeated n bs) ≡ n * length bs
repeated_length zero bs = omega arith
repeated_length (suc n) bs = again_more n (length bs) (length (repeated n bs)) (length (bs ++ repeated n bs)) (repeated_length n bs) (length-append bs (repeated n bs))

lanes_narrow : (signed : Bool) (k n : ℕ) → n * (k + k) ≤ 16 → (c : ℕ) (bs : List ℕ) → length bs ≡ 8 → Each IsByte bs → IsWithin (number_value v128 (number_of (widened_lanes signed k n bs)))
lanes_narrow signed k n l c bs e b = vector_narrow (widened_lanes signed k n bs) (omega (arith, lanes_length signed k n bs, l)) (lanes_bytes signed k n bs)

splat_narrow : (n k : ℕ) → n * k ≤ 16 → (c : ℕ) (bs : List ℕ) → length bs ≡ k → Each IsByte bs → IsWithin (number_value v128 (number_of (repeated n bs)))
splat_narrow n k l c bs e b = vector_narrow (repeated n bs) (subst (λ m. m ≤ 16) (sym (repeated_length n bs ∙ ap (λ j. n * j) e)) l) (repeated_bytes n bs b)

lane_narrow : (k lane c : ℕ) (bs : List ℕ) → length bs ≡ k → Each IsByte bs → IsWithin (number_value v128 (number_of (with_lane k lane c bs)))
lane_narrow k lane c bs e b = at (placed (bytes_of 16 c) (lane * k) bs) refl
  where
    at : (o : Option (List ℕ)) → placed (bytes_of 16 c) (lane * k) bs ≡ o → IsWithin (number_value v128 (number_of (or_empty o)))
    at None d = refl
    at (Some cs) d = vector_narrow cs (omega (arith, placed_length (bytes_of 16 c) (lane * k) bs cs d, bytes_length 16 c)) (each_placed IsByte (bytes_of 16 c) (lane * k) bs cs (bytes_are 16 c) b d)

memory_narrow : (o : MemoryOperator) → ReachIsNarrow (memory_access o)
memory_narrow (memory.I32Load m) = plain_narrow i32 4 (omega (arith, many_4))
memory_narrow (memory.I64Load m) = plain_narrow i64 8 (omega (arith, many_8))
memory_narrow (memory.F32Load m) = plain_narrow f32 4 (omega (arith, many_4))
memory_narrow (memory.F64Load m) = plain_narrow f64 8 (omega (arith, many_8))
memory_narrow (memory.I32Load8S m) = signed_narrow i32 1 (omega (arith, many_1)) (omega arith)
memory_narrow (memory.I32Load8U m) = plain_narrow i32 1 (omega (arith, many_1))
memory_narrow (memory.I32Load16S m) = signed_narrow i32 2 (omega (arith, many_2)) (omega arith)
memory_narrow (memory.I32Load16U m) = plain_narrow i32 2 (omega (arith, many_2))
memory_narrow (memory.I64Load8S m) = signed_narrow i64 1 (omega (arith, many_1)) (omega arith)
memory_narrow (memory.I64Load8U m) = plain_narrow i64 1 (omega (arith, many_1))
memory_narrow (memory.I64Load16S m) = signed_narrow i64 2 (omega (arith, many_2)) (omega arith)
memory_narrow (memory.I64Load16U m) = plain_narrow i64 2 (omega (arith, many_2))
memory_narrow (memory.I64Load32S m) = signed_narrow i64 4 (omega (arith, many_4)) (omega arith)
memory_narrow (memory.I64Load32U m) = plain_narrow i64 4 (omega (arith, many_4))
memory_narrow o = tt

simd_narrow : (o : SimdOperator) → ReachIsNarrow (simd_access o)
simd_narrow (simd.V128Load m) = plain_narrow v128 16 (omega (arith, many_16))
simd_narrow (simd.V128Load8x8S m) = lanes_narrow true 1 8 (omega arith)
simd_narrow (simd.V128Load8x8U m) = lanes_narrow false 1 8 (omega arith)
simd_narrow (simd.V128Load16x4S m) = lanes_narrow true 2 4 (omega arith)
simd_narrow (simd.V128Load16x4U m) = lanes_narrow false 2 4 (omega arith)
simd_narrow (simd.V128Load32x2S m) = lanes_narrow true 4 2 (omega arith)
simd_narrow (simd.V128Load32x2U m) = lanes_narrow false 4 2 (omega arith)
simd_narrow (simd.V128Load8Splat m) = splat_narrow 16 1 (omega arith)
simd_narrow (simd.V128Load16Splat m) = splat_narrow 8 2 (omega arith)
simd_narrow (simd.V128Load32Splat m) = splat_narrow 4 4 (omega arith)
simd_narrow (simd.V128Load64Splat m) = splat_narrow 2 8 (omega arith)
simd_narrow (simd.V128Load32Zero m) = plain_narrow v128 4 (omega (arith, many_4))
simd_narrow (simd.V128Load64Zero m) = plain_narrow v128 8 (omega (arith, many_8))
simd_narrow (simd.V128Load8Lane m lane) = lane_narrow 1 lane
simd_narrow (simd.V128Load16Lane m lane) = lane_narrow 2 lane
simd_narrow (simd.V128Load32Lane m lane) = lane_narrow 4 lane
simd_narrow (simd.V128Load64Lane m lane) = lane_narrow 8 lane
simd_narrow o = tt

-- So many bytes are a number of the type that an atomic access gives, if it gives one, and that is no more than they are.
abbrev holds : Option Number → ℕ → Bool
holds None k = true
holds (Some n) k = not (nat_lt (2 ^ width n) (2 ^ (8 * k)))

abbrev ExchangeIsNarrow : AtomicAccess → Type 0
ExchangeIsNarrow r = (holds r.gives r.size ≡ true) × ((b : ℕ) → r.given b ≤ b)

atomic_narrow : (o : AtomicOperator) (r : AtomicAccess) → atomic_access o ≡ Some r → ExchangeIsNarrow r
atomic_narrow atomic.AtomicFence r e = absurd (none_some r e)
atomic_narrow (atomic.MemoryAtomicNotify m) r e = absurd (none_some r e)
atomic_narrow (atomic.MemoryAtomicWait32 m) r e = absurd (none_some r e)
atomic_narrow (atomic.MemoryAtomicWait64 m) r e = absurd (none_some r e)
atomic_narrow o r e = subst ExchangeIsNarrow (same_some _ r e) (refl, λ b. omega arith)

not_so : (t : Bool) → not t ≡ true → t ≡ false
not_so true e = sym e
not_so false e = refl

given_narrow : (g : Option Number) (bs : List ℕ) (k c : ℕ) → holds g k ≡ true → length bs ≡ k → Each IsByte bs → c ≤ number_of bs
    → Each InWidth (number_given g c)
given_narrow None bs k c e l b m = tt
given_narrow (Some n) bs k c e l b m =
    let fits : 2 ^ (8 * k) ≤ 2 ^ width n = ltb-false (2 ^ width n) (2 ^ (8 * k)) (not_so (nat_lt (2 ^ width n) (2 ^ (8 * k))) e) in
    (within c (2 ^ width n) (omega (arith, fits, many_bits k, number_below bs b, many_more (length bs) k (omega (arith, l)), m)), tt)

-- elements of an array
numbers_narrow : (t : Number) (k n : ℕ) (bs : List ℕ) → many k ≤ 2 ^ width t → Each IsByte bs → Each InWidth (numbers_from (Some t) k n bs)
numbers_narrow t k zero bs l b = tt
numbers_narrow t k (suc n) bs l b = (number_within (take k bs) k (2 ^ width t) (take_length k bs) l (each_take IsByte k bs b), numbers_narrow t k n (drop k bs) l (each_drop IsByte k bs b))

elements_narrow : (t : StorageOf TypeTree) (n : ℕ) (bs : List ℕ) → Each IsByte bs → Each InWidth (elements_from t n bs)
elements_narrow i8 n bs b = numbers_narrow i32 1 n bs (omega (arith, many_1)) b
elements_narrow i16 n bs b = numbers_narrow i32 2 n bs (omega (arith, many_2)) b
elements_narrow (value (number i32)) n bs b = numbers_narrow i32 4 n bs (omega (arith, many_4)) b
elements_narrow (value (number i64)) n bs b = numbers_narrow i64 8 n bs (omega (arith, many_8)) b
elements_narrow (value (number f32)) n bs b = numbers_narrow f32 4 n bs (omega (arith, many_4)) b
elements_narrow (value (number f64)) n bs b = numbers_narrow f64 8 n bs (omega (arith, many_8)) b
elements_narrow (value (number v128)) n bs b = numbers_narrow v128 16 n bs (omega (arith, many_16)) b
elements_narrow (value (ref c q)) n bs b = tt

bytes_within : (o : Option MemoryInstance) → ((m : MemoryInstance) → o ≡ Some m → Each IsByte m.bytes) → Each IsByte (bytes_held o)
bytes_within None h = tt
bytes_within (Some m) h = h m refl

grown_bytes : (o : Option MemoryInstance) (k : ℕ) (bs : List ℕ) → Each IsByte (bytes_held o) → grown o k ≡ Some bs → Each IsByte bs
grown_bytes None k bs b e = absurd (none_some bs e)
grown_bytes (Some m) k bs b e = at (nat_lt (most_grown m.type) (pages_held (Some m) + k)) e
  where
    at : (t : Bool) → (if t then None else Some (m.bytes ++ replicate (k * page_of m.type) 0)) ≡ Some bs → Each IsByte bs
    at true d = absurd (none_some bs d)
    at false d = subst (Each IsByte) (same_some (m.bytes ++ replicate (k * page_of m.type) 0) bs d) (each_append IsByte m.bytes (replicate (k * page_of m.type) 0) b (each_replicate IsByte (k * page_of m.type) 0 refl))

module _ (p : Program) (act : Activation) (acts : List Activation) (s : Store) (a : Answer) (u : Store) (h : HasActivation InWidth act) (rest : HasState InWidth acts) (w : StoreInWidth s) (sizes : SizesInWidth p s) where
  abbrev x : State
  x = act ∷ acts

  abbrev vs : List Value
  vs = act.innermost.values

  -- what is given, and the store
  abbrev Kept : Type 0
  Kept = Each InWidth a.values × StoreInWidth u

  top_within : (n : ℕ) → InWidth (get_or vs n nothing)
  top_within n = each_get_or InWidth vs n nothing h.innermost.values tt

  tops_within : (n : ℕ) → Each InWidth (take n vs)
  tops_within n = each_take InWidth n vs h.innermost.values

  table_within : (n : ℕ) → Each InWidth (table_in s n)
  table_within n = elements_within (slice_get s.tables (table_address s n)) (λ t e. each_get (λ (q : TableInstance). Each InWidth q.elements) s.tables (table_address s n) t w.tables e)

  global_within : (n : ℕ) → InWidth (global_in s n)
  global_within n = value_within (slice_get s.globals (global_address s n)) (λ g e. each_get (λ (q : GlobalInstance). InWidth q.value) s.globals (global_address s n) g w.globals e)

  segment_within : (n : ℕ) → Each InWidth (segment_in s n)
  segment_within n = each_get_or (λ (ws : List Value). Each InWidth ws) s.segments n [] w.segments tt

  memory_within : (n : ℕ) → Each IsByte (memory_in s n)
  memory_within n = bytes_within (memory_at s n) (λ m e. each_get (λ (q : MemoryInstance). Each IsByte q.bytes) s.memories (memory_address s n) m w.memories e)

  data_within : (d : ℕ) → Each IsByte (data_in s d)
  data_within d = each_get_or (λ (bs : List ℕ). Each IsByte bs) s.data_segments d [] w.data_segments tt

  object_within : (k : ℕ) (o : ObjectInstance) → slice_get s.objects k ≡ Some o → Each InWidth o.fields
  object_within k o e = each_get (λ (q : ObjectInstance). Each InWidth q.fields) s.objects k o w.objects e

  -- ---- stores that are written

  global_set : (n : ℕ) (v : Value) → InWidth v → StoreInWidth (with_global s n v)
  global_set n v i = record {
    globals = each_changed (λ (g : GlobalInstance). InWidth g.value) (with_value v) s.globals (global_address s n) w.globals (λ g e. i);
    tables = w.tables;
    memories = w.memories;
    segments = w.segments;
    data_segments = w.data_segments;
    objects = w.objects;
    exceptions = w.exceptions;
    externs = w.externs;
  }

  table_set : (n : ℕ) (ws : List Value) → Each InWidth ws → StoreInWidth (with_table s n ws)
  table_set n ws i = record {
    globals = w.globals;
    tables = each_changed (λ (t : TableInstance). Each InWidth t.elements) (with_elements ws) s.tables (table_address s n) w.tables (λ t e. i);
    memories = w.memories;
    segments = w.segments;
    data_segments = w.data_segments;
    objects = w.objects;
    exceptions = w.exceptions;
    externs = w.externs;
  }

  memory_set : (n : ℕ) (bs : List ℕ) → Each IsByte bs → StoreInWidth (with_memory s n bs)
  memory_set n bs i = record {
    globals = w.globals;
    tables = w.tables;
    memories = each_changed (λ (m : MemoryInstance). Each IsByte m.bytes) (with_bytes bs) s.memories (memory_address s n) w.memories (λ m e. i);
    segments = w.segments;
    data_segments = w.data_segments;
    objects = w.objects;
    exceptions = w.exceptions;
    externs = w.externs;
  }

  data_dropped : (d : ℕ) → StoreInWidth (without_data s d)
  data_dropped d = record {
    globals = w.globals;
    tables = w.tables;
    memories = w.memories;
    segments = w.segments;
    data_segments = each_set (λ (bs : List ℕ). Each IsByte bs) s.data_segments d [] w.data_segments tt;
    objects = w.objects;
    exceptions = w.exceptions;
    externs = w.externs;
  }

  segment_dropped : (n : ℕ) → StoreInWidth (without_segment s n)
  segment_dropped n = record {
    globals = w.globals;
    tables = w.tables;
    memories = w.memories;
    segments = each_set (λ (ws : List Value). Each InWidth ws) s.segments n [] w.segments tt;
    data_segments = w.data_segments;
    objects = w.objects;
    exceptions = w.exceptions;
    externs = w.externs;
  }

  object_made : (o : ObjectInstance) → Each InWidth o.fields → StoreInWidth (with_object s o)
  object_made o i = record {
    globals = w.globals;
    tables = w.tables;
    memories = w.memories;
    segments = w.segments;
    data_segments = w.data_segments;
    objects = each_append (λ (q : ObjectInstance). Each InWidth q.fields) s.objects (o ∷ []) w.objects (i, tt);
    exceptions = w.exceptions;
    externs = w.externs;
  }

  fields_set : (k : ℕ) (o : ObjectInstance) (ws : List Value) → Each InWidth ws → StoreInWidth (with_fields s k o ws)
  fields_set k o ws i = record {
    globals = w.globals;
    tables = w.tables;
    memories = w.memories;
    segments = w.segments;
    data_segments = w.data_segments;
    objects = each_set (λ (q : ObjectInstance). Each InWidth q.fields) s.objects k (record o { fields = ws }) w.objects i;
    exceptions = w.exceptions;
    externs = w.externs;
  }

  exception_made : (e : ExceptionInstance) → Each InWidth e.values → StoreInWidth (with_exception s e)
  exception_made e i = record {
    globals = w.globals;
    tables = w.tables;
    memories = w.memories;
    segments = w.segments;
    data_segments = w.data_segments;
    objects = w.objects;
    exceptions = each_append (λ (q : ExceptionInstance). Each InWidth q.values) s.exceptions (e ∷ []) w.exceptions (i, tt);
    externs = w.externs;
  }

  extern_made : (v : Value) → InWidth v → StoreInWidth (with_extern s v)
  extern_made v i = record {
    globals = w.globals;
    tables = w.tables;
    memories = w.memories;
    segments = w.segments;
    data_segments = w.data_segments;
    objects = w.objects;
    exceptions = w.exceptions;
    externs = each_append InWidth s.externs (v ∷ []) w.externs (i, tt);
  }

  -- ---- ways to go on

  as_given : (ws : List Value) (z : Store) → Each InWidth ws → StoreInWidth z → a.values ≡ ws → u ≡ z → Kept
  as_given ws z i j d e = (subst (λ (q : List Value). Each InWidth q) (sym d) i, subst (λ (q : Store). StoreInWidth q) (sym e) j)

  stays_kept : Stays p x s a u → Kept
  stays_kept g = as_given [] s tt w g.0 g.1

  traps_kept : Traps p x s a u → Kept
  traps_kept g = stays_kept g.1

  gives_kept : (ws : List Value) (z : Store) → Each InWidth ws → StoreInWidth z → Gives p x s a u ws z → Kept
  gives_kept ws z i j g = as_given ws z i j g.0 g.2

  tells_kept : (n : ℕ) → Tells p x s a u n → Kept
  tells_kept n g = gives_kept [] s tt w g.1

  or_traps : {A : Type 0} (o : Option A) (F : A → Type 0) → ((y : A) → o ≡ Some y → F y → Kept) → OrTraps p x s a u o F → Kept
  or_traps None F f g = traps_kept g
  or_traps (Some y) F f g = f y refl g

  there : {A Q : Type 0} (o : Option A) (F : A → Type 0) → ((y : A) → o ≡ Some y → F y → Q) → There p x s a u o F → Q
  there None F f g = absurd g
  there (Some y) F f g = f y refl g

  of_object : (v : Value) (F : ℕ → ObjectInstance → Type 0) → ((k : ℕ) (o : ObjectInstance) → slice_get s.objects k ≡ Some o → F k o → Kept) → OfObject p x s a u v F → Kept
  of_object (ref_object k t) F f g = there {A = ObjectInstance} {Q = Kept} (slice_get s.objects k) (F k) (f k) g
  of_object v F f g = traps_kept g

  outside_kept : Outside p x s a u → Kept
  outside_kept g = (each_map IsWithin InWidth a.values in_width g.1, subst (λ (q : Store). StoreInWidth q) (sym g.2) w)

  -- ---- tables and objects

  filled : (n i : ℕ) (us given : List Value) → Each InWidth us → Each InWidth given → OrTraps p x s a u (placed (table_in s n) i us) (λ ws. Gives p x s a u given (with_table s n ws)) → Kept
  filled n i us given k l g = or_traps {A = List Value} (placed (table_in s n) i us) _ (λ ws e. gives_kept given (with_table s n ws) l (table_set n ws (each_placed InWidth (table_in s n) i us ws (table_within n) k e))) g

  makes_kept : (t : TypeTree) (ws given : List Value) → Each InWidth ws → Each InWidth given → Makes p x s a u t ws given → Kept
  makes_kept t ws given i j g = gives_kept given (with_object s (record { type = t; fields = ws })) j (object_made (record { type = t; fields = ws }) i) g.1

  named_kept : (n : ℕ) (fields : TypeTree → List Value) (given : List Value) → ((t : TypeTree) → Each InWidth (fields t)) → Each InWidth given → MakesNamed p x s a u act n fields given → Kept
  named_kept n fields given i j g = there {A = TypeTree} {Q = Kept} (slice_get p.«module».types n) _ (λ t e. makes_kept t (fields t) given (i t) j) g

  reads_kept : (signed : Bool) (v : Value) (i : ℕ) → Reads p x s a u act signed v i → Kept
  reads_kept signed v i g = of_object v _ (λ k o d. there {A = FieldOf TypeTree} {Q = Kept} (field_at (expanded o.type) i) _ (λ f c. or_traps {A = Value} (slice_get o.fields i) _ (λ q e.
      gives_kept (unpacked signed f.storage q ∷ []) s (unpacked_within signed f.storage q (each_get InWidth o.fields i q (object_within k o d) e), tt) w))) g

  written_kept : (k : ℕ) (o : ObjectInstance) (i : ℕ) (us given : List Value) → slice_get s.objects k ≡ Some o → Each InWidth us → Each InWidth given → WritesTo p x s a u act k o i us given → Kept
  written_kept k o i us given d j l g = or_traps {A = List Value} (placed o.fields i us) _ (λ ws e. gives_kept given (with_fields s k o ws) l (fields_set k o ws (each_placed InWidth o.fields i us ws (object_within k o d) j e))) g

  writes_kept : (v : Value) (i : ℕ) (us given : List Value) → Each InWidth us → Each InWidth given → Writes p x s a u act v i us given → Kept
  writes_kept v i us given j l g = of_object v _ (λ k o d. written_kept k o i us given d j l) g

  -- ---- memories and data segments

  written_bytes : (y i : ℕ) (bs : List ℕ) → Each IsByte bs → Writing p x s a u y i bs → Kept
  written_bytes y i bs b g = writing p x s a u {Q = Kept} y i bs traps_kept (gives_kept [] s tt w) (λ cs e f. gives_kept [] (with_memory s y cs) tt (memory_set y cs (f (memory_within y) b))) g

  access_kept : (m : MemArg) (k : Access) → IsNarrow k → Accesses p x s a u act m k → Kept
  access_kept m (reads ts n k f) i g = reading p x s a u {Q = Kept} m.memory (bits_of (get_or vs (length ts) nothing) + m.offset) k _ traps_kept (λ bs l b. gives_kept (number_value n (f (bits_of (get_or vs 0 nothing)) bs) ∷ []) s (i (bits_of (get_or vs 0 nothing)) bs l (b (memory_within m.memory)), tt) w) g
  access_kept m (writes n k f) i g = written_bytes m.memory (bits_of (get_or vs 1 nothing) + m.offset) (bytes_of k (f (bits_of (get_or vs 0 nothing)))) (bytes_are k (f (bits_of (get_or vs 0 nothing)))) g

  reach_kept : (o : Option Reach) → ReachIsNarrow o → There p x s a u o (Reaches p x s a u act) → Kept
  reach_kept None i g = absurd g
  reach_kept (Some r) i g = access_kept r.argument r.access i g

  vector_kept : (o : Option Reach) → ReachIsNarrow o → OrOutside p x s a u act o (Reaches p x s a u act) → Kept
  vector_kept None i g = outside_kept g
  vector_kept (Some r) i g = access_kept r.argument r.access i g

  numeric_kept : (o : NumericOperator) (k : Option Operation) → integer_operation o ≡ k → OrOutside p x s a u act k (Calculates p x s a u act) → Kept
  numeric_kept o None e g = outside_kept g
  numeric_kept o (Some r) e g = or_traps {A = ℕ} (r.value (bits_of (get_or vs 1 nothing)) (bits_of (get_or vs 0 nothing))) _ (λ b d f.
      gives_kept (number_value r.gives b ∷ []) s (
        within b (2 ^ width r.gives) (subst (IsBelow (2 ^ width r.gives)) d
            ((row_is o r e).narrow (bits_of (get_or vs 1 nothing)) (bits_of (get_or vs 0 nothing)))),
        tt,
      ) w f) g

  -- of a memory that other threads use, or of another
  others_kept : (m : MemArg) (F : Type 0) → (F → Kept) → ByOthers p x s a u act m F → Kept
  others_kept m F f g = at (is_shared_memory (slice_get p.«module».memories m.memory)) g
    where
      at : (b : Bool) → Either b (Outside p x s a u) F → Kept
      at true g = outside_kept g
      at false g = f g

  replaced_kept : (r : AtomicAccess) (c : Option ℕ) (ws : List Value) → Each InWidth ws → Replaces p x s a u act r c ws → Kept
  replaced_kept r None ws i g = gives_kept ws s i w g
  replaced_kept r (Some c) ws i g = at (is_shared_memory (slice_get p.«module».memories r.argument.memory)) g
    where
      put : Option (List ℕ)
      put = placed (memory_in s r.argument.memory) (atomic_address p x s a u act r) (bytes_of r.size c)

      F : List ℕ → Type 0
      F cs = Gives p x s a u ws (with_memory s r.argument.memory cs)

      at : (b : Bool) → Either b (Gives p x s a u ws s) (OrTraps p x s a u put F) → Kept
      at true g = gives_kept ws s i w g
      at false g = or_traps {A = List ℕ} put F (λ cs e. gives_kept ws (with_memory s r.argument.memory cs) i (memory_set r.argument.memory cs
          (each_placed IsByte (memory_in s r.argument.memory) (atomic_address p x s a u act r) (bytes_of r.size c) cs (memory_within r.argument.memory)
          (bytes_are r.size c) e))) g

  aligned_kept : (r : AtomicAccess) → ExchangeIsNarrow r → Aligned p x s a u act r → Kept
  aligned_kept r i g = at (is_misaligned (atomic_address p x s a u act r) r.size) g
    where
      at : (b : Bool) → Either b (Traps p x s a u) (Exchanges p x s a u act r) → Kept
      at true g = traps_kept g
      at false g = reading p x s a u {Q = Kept} r.argument.memory (atomic_address p x s a u act r) r.size _ traps_kept (λ bs l b.
          replaced_kept r (r.written (bits_of (get_or vs 0 nothing)) (bits_of (get_or vs 1 nothing)) (number_of bs)) (number_given r.gives
          (r.given (number_of bs)))
          (given_narrow r.gives bs r.size (r.given (number_of bs)) i.0 l (b (memory_within r.argument.memory)) (i.1 (number_of bs)))) g

  atomic_kept : (o : AtomicOperator) → GivesAtomic p x s a u act o → Kept
  atomic_kept atomic.AtomicFence g = stays_kept g
  atomic_kept (atomic.MemoryAtomicNotify m) g = others_kept m (Aligned p x s a u act (notification m)) (aligned_kept (notification m)
      (refl, λ b. omega arith)) g
  atomic_kept (atomic.MemoryAtomicWait32 m) g = others_kept m (Traps p x s a u) traps_kept g
  atomic_kept (atomic.MemoryAtomicWait64 m) g = others_kept m (Traps p x s a u) traps_kept g
  atomic_kept o g = there {A = AtomicAccess} {Q = Kept} (atomic_access o) _ (λ r e. aligned_kept r (atomic_narrow o r e)) g

  pages_kept : (n : ℕ) → Each InWidth (size_of p x s a u n ∷ [])
  pages_kept n = (sized_width (is_wide_memory (slice_get p.«module».memories n)) (pages_held (memory_at s n)) (sizes.memories n), tt)

  sized_kept : (n : ℕ) (F : Type 0) → (F → Kept) → Either (shared p x s a u n) (Sized p x s a u n) F → Kept
  sized_kept n F f g = at (is_shared_memory (slice_get p.«module».memories n)) g
    where
      at : (b : Bool) → Either b (Sized p x s a u n) F → Kept
      at true g = gives_kept _ s (sized_width (is_wide_memory (slice_get p.«module».memories n)) g.0 g.1, tt) w g.2
      at false g = f g

  growth_kept : (n k : ℕ) (o : Option (List ℕ)) → grown (memory_at s n) k ≡ o → GrowsTo p x s a u n o → Kept
  growth_kept n k None e g = gives_kept _ s (failure_within (is_wide_memory (slice_get p.«module».memories n)), tt) w g
  growth_kept n k (Some bs) e g = ⊎_elim (λ c. gives_kept _ (with_memory s n bs) (pages_kept n) (memory_set n bs (grown_bytes (memory_at s n) k bs (memory_within n) e)) c) (λ c. gives_kept _ s (failure_within (is_wide_memory (slice_get p.«module».memories n)), tt) w c) g

  -- elements that are read from bytes
  data_kept : (d : ℕ) (t : TypeTree) (i n : ℕ) (F : List Value → Type 0) → ((ws : List Value) → Each InWidth ws → F ws → Kept) → OfData p x s a u d t i n F → Kept
  data_kept d t i n F f g = or_traps {A = FieldOf TypeTree} (field_at (expanded t) 0) _ (λ q e. or_traps {A = List ℕ} (range (data_in s d) i (n * stored_size q.storage)) _ (λ bs c. f (elements_from q.storage n bs) (elements_narrow q.storage n bs (each_range IsByte (data_in s d) i (n * stored_size q.storage) bs (data_within d) c)))) g

  again_kept : (k : ℕ) → ThrowsAgain p x s a u k → Kept
  again_kept k g = there {A = ExceptionInstance} {Q = Kept} (slice_get s.exceptions k) _ (λ e d c. as_given e.values s (each_get (λ (q : ExceptionInstance). Each InWidth q.values) s.exceptions k e w.exceptions d) w c.1 c.2) g

  -- ---- calls

  begins_kept : (tail : Bool) (o : Option Body) → Begins p x s a u tail o → Kept
  begins_kept tail None g = let k = g.4 w in (k.1, k.0)
  begins_kept tail (Some f) g = stays_kept g.1

  calls_kept : (tail : Bool) (v : Value) → Calls p x s a u tail v → Kept
  calls_kept tail (ref_function i t) g = begins_kept tail (body_of (named p a i)) g
  calls_kept tail v g = stays_kept g

  either_kept : (tail c : Bool) (v : Value) → Either c (Calls p x s a u tail v) (Stays p x s a u) → Kept
  either_kept tail true v g = calls_kept tail v g
  either_kept tail false v g = stays_kept g

  through_kept : (tail : Bool) (y n : ℕ) → CallsIndirect p x s a u act tail y n → Kept
  through_kept tail y n g = or_traps {A = Value} (slice_get (table_in s n) (bits_of (get_or vs 0 nothing))) _ (λ v e. there {A = TypeTree} {Q = Kept} (slice_get p.«module».types y) _ (λ t d c. either_kept tail a.condition v c.2)) g

  -- ---- operators

  control_kept : (o : ControlOperator) → GivesControl p x s a u act o → Kept
  control_kept (control.BrIf n) g = stays_kept g.1
  control_kept (control.BrTable t) g = stays_kept g.1
  control_kept (control.Call n) g = begins_kept false (body_of (slice_get p.functions n)) g
  control_kept (control.ReturnCall n) g = begins_kept true (body_of (slice_get p.functions n)) g
  control_kept (control.CallIndirect y n) g = through_kept false y n g
  control_kept (control.ReturnCallIndirect y n) g = through_kept true y n g
  control_kept (control.CallRef n) g = calls_kept false (get_or vs 0 nothing) g
  control_kept (control.ReturnCallRef n) g = calls_kept true (get_or vs 0 nothing) g
  control_kept o g = stays_kept g

  parametric_kept : (o : ParametricTree) → GivesParametric p x s a u act o → Kept
  parametric_kept op.Drop g = stays_kept g
  parametric_kept o g = stays_kept g.1

  thrown_kept : (v : Value) → ThrowsReference p x s a u act v → Kept
  thrown_kept (ref_exn k t) g = again_kept k g
  thrown_kept v g = stays_kept g

  exception_kept : (o : ExceptionTree) → GivesException p x s a u act o → Kept
  exception_kept (op.Throw n) g = as_given [] _ tt (exception_made _ (tops_within _)) g.1 g.2
  exception_kept op.ThrowRef g = thrown_kept (get_or vs 0 nothing) g
  exception_kept (op.Rethrow n) g = there {A = Exception} {Q = Kept} (caught_at p a act acts n (act.innermost ∷ act.around)) _ (λ e d. again_kept e.address) g
  exception_kept o g = stays_kept g

  memory_kept : (o : MemoryOperator) → GivesMemory p x s a u act o → Kept
  memory_kept (memory.LocalGet n) g = stays_kept g
  memory_kept (memory.LocalSet n) g = stays_kept g
  memory_kept (memory.LocalTee n) g = stays_kept g
  memory_kept (memory.GlobalGet n) g = gives_kept (global_in s n ∷ []) s (global_within n, tt) w g
  memory_kept (memory.GlobalSet n) g = gives_kept [] (with_global s n (get_or vs 0 nothing)) tt (global_set n (get_or vs 0 nothing) (top_within 0)) g
  memory_kept (memory.MemorySize n) g = sized_kept n _ (gives_kept _ s (pages_kept n) w) g
  memory_kept (memory.MemoryGrow n) g = sized_kept n _ (growth_kept n (bits_of (get_or vs 0 nothing)) (grown (memory_at s n) (bits_of (get_or vs 0 nothing))) refl) g
  memory_kept o g = reach_kept (memory_access o) (memory_narrow o) g

  size_kept : (n : ℕ) → Each InWidth (sized (is_wide (slice_get p.«module».tables n)) (length (table_in s n)) ∷ [])
  size_kept n = (sized_width (is_wide (slice_get p.«module».tables n)) (length (table_in s n)) (sizes.tables n), tt)

  bulk_kept : (o : BulkOperator) → GivesBulk p x s a u act o → Kept
  bulk_kept (bulk.RefNull q) g = stays_kept g
  bulk_kept bulk.RefIsNull g = tells_kept _ g
  bulk_kept (bulk.RefFunc n) g = stays_kept g
  bulk_kept (bulk.TableGet n) g = or_traps {A = Value} (slice_get (table_in s n) (bits_of (get_or vs 0 nothing))) _ (λ v e. gives_kept (v ∷ []) s (each_get InWidth (table_in s n) (bits_of (get_or vs 0 nothing)) v (table_within n) e, tt) w) g
  bulk_kept (bulk.TableSet n) g = filled n _ (take 1 vs) [] (tops_within 1) tt g
  bulk_kept (bulk.TableSize n) g = gives_kept _ s (size_kept n) w g
  bulk_kept (bulk.TableGrow n) g = ⊎_elim
      (λ c. gives_kept _ (with_table s n (table_in s n ++ replicate (bits_of (get_or vs 0 nothing)) (get_or vs 1 nothing))) (size_kept n) (table_set n _ (each_append InWidth (table_in s n) _ (table_within n) (each_replicate InWidth (bits_of (get_or vs 0 nothing)) (get_or vs 1 nothing) (top_within 1)))) c.1)
      (λ c. gives_kept _ s (failure_within (is_wide (slice_get p.«module».tables n)), tt) w c) g
  bulk_kept (bulk.TableFill n) g = filled n _ (replicate (bits_of (get_or vs 0 nothing)) (get_or vs 1 nothing)) [] (each_replicate InWidth (bits_of (get_or vs 0 nothing)) (get_or vs 1 nothing) (top_within 1)) tt g
  bulk_kept (bulk.TableInit e n) g = or_traps {A = List Value} (range (segment_in s e) (bits_of (get_or vs 1 nothing)) (bits_of (get_or vs 0 nothing))) _ (λ us d.
      let k = each_range InWidth (segment_in s e) (bits_of (get_or vs 1 nothing)) (bits_of (get_or vs 0 nothing)) us (segment_within e) d in filled n _ us us k k) g
  bulk_kept (bulk.TableCopy n m) g = or_traps {A = List Value} (range (table_in s m) (bits_of (get_or vs 1 nothing)) (bits_of (get_or vs 0 nothing))) _ (λ us d.
      let k = each_range InWidth (table_in s m) (bits_of (get_or vs 1 nothing)) (bits_of (get_or vs 0 nothing)) us (table_within m) d in filled n _ us us k k) g
  bulk_kept (bulk.ElemDrop e) g = gives_kept [] (without_segment s e) tt (segment_dropped e) g
  bulk_kept (bulk.DataDrop d) g = gives_kept [] (without_data s d) tt (data_dropped d) g
  bulk_kept (bulk.MemoryInit d n) g = or_traps {A = List ℕ} (range (data_in s d) (bits_of (get_or vs 1 nothing)) (bits_of (get_or vs 0 nothing))) _ (λ bs e. written_bytes n (bits_of (get_or vs 2 nothing)) bs (each_range IsByte (data_in s d) _ _ bs (data_within d) e)) g
  bulk_kept (bulk.MemoryCopy n m) g = reading p x s a u {Q = Kept} m (bits_of (get_or vs 1 nothing)) (bits_of (get_or vs 0 nothing)) _ traps_kept (λ bs l b. written_bytes n (bits_of (get_or vs 2 nothing)) bs (b (memory_within m))) g
  bulk_kept (bulk.MemoryFill n) g = written_bytes n (bits_of (get_or vs 2 nothing)) _ (each_replicate IsByte (bits_of (get_or vs 0 nothing)) (bits_of (get_or vs 1 nothing) % 256) (low_bits _ 256 (omega arith))) g
  bulk_kept (bulk.MemoryDiscard n) g = ⊎_elim traps_kept (written_bytes n (bits_of (get_or vs 1 nothing)) _ (each_replicate IsByte (bits_of (get_or vs 0 nothing)) 0 refl)) g

  -- ---- objects and casts

  to_any_kept : (v : Value) → ConvertsToAny p x s a u act v → Kept
  to_any_kept (ref_null c k) g = stays_kept g
  to_any_kept (ref_extern k) g = there {A = Value} {Q = Kept} (slice_get s.externs k) _ (λ v e. gives_kept (v ∷ []) s (each_get InWidth s.externs k v w.externs e, tt) w) g
  to_any_kept v g = absurd g

  external_kept : (v : Value) → InWidth v → (k : ℕ) → a.values ≡ ref_extern k ∷ [] → (u ≡ s) ⊎ (u ≡ with_extern s v) → Kept
  external_kept v i k d e = ⊎_elim (λ c. as_given (ref_extern k ∷ []) s (tt, tt) w d c) (λ c. as_given (ref_extern k ∷ []) (with_extern s v) (tt, tt) (extern_made v i) d c) e

  to_extern_kept : (v : Value) → InWidth v → ConvertsToExtern p x s a u act v → Kept
  to_extern_kept (ref_null c k) i g = stays_kept g
  to_extern_kept (ref_object k t) i g = external_kept (ref_object k t) i g.0 g.1 g.3
  to_extern_kept (ref_i31 c) i g = external_kept (ref_i31 c) i g.0 g.1 g.3
  to_extern_kept (ref_host k) i g = external_kept (ref_host k) i g.0 g.1 g.3
  to_extern_kept v i g = absurd g

  unboxed_kept : (signed : Bool) (v : Value) → Unboxes p x s a u act signed v → Kept
  unboxed_kept signed (ref_i31 c) g = tells_kept _ g
  unboxed_kept signed v g = traps_kept g

  range_kept : (xs : List Value) (i n : ℕ) → Each InWidth xs → (F : List Value → Type 0) → ((us : List Value) → Each InWidth us → F us → Kept) → OrTraps p x s a u (range xs i n) F → Kept
  range_kept xs i n k F f g = or_traps {A = List Value} (range xs i n) F (λ us d. f us (each_range InWidth xs i n us k d)) g

  gc_kept : (o : GcOperator) → GivesGc p x s a u act o → Kept
  gc_kept gc.RefEq g = tells_kept _ g
  gc_kept (gc.StructNew n) g = named_kept n _ [] (λ t. each_reverse InWidth (take (length (fields_in (expanded t))) vs) (tops_within (length (fields_in (expanded t))))) tt g
  gc_kept (gc.StructNewDefault n) g = named_kept n _ [] (λ t. defaults_within (fields_in (expanded t))) tt g
  gc_kept (gc.StructGet n i) g = reads_kept false _ i g
  gc_kept (gc.StructGetS n i) g = reads_kept true _ i g
  gc_kept (gc.StructGetU n i) g = reads_kept false _ i g
  gc_kept (gc.StructSet n i) g = writes_kept _ i (take 1 vs) [] (tops_within 1) tt g
  gc_kept (gc.ArrayNew n) g = named_kept n _ [] (λ t. each_replicate InWidth _ _ (top_within 1)) tt g
  gc_kept (gc.ArrayNewDefault n) g = named_kept n _ [] (λ t. each_replicate InWidth _ _ (each_get_or InWidth (defaults (fields_in (expanded t))) 0 nothing (defaults_within (fields_in (expanded t))) tt)) tt g
  gc_kept (gc.ArrayNewFixed n k) g = named_kept n _ [] (λ t. each_reverse InWidth _ (tops_within k)) tt g
  gc_kept (gc.ArrayNewData n d) g = there {A = TypeTree} {Q = Kept} (slice_get p.«module».types n) _ (λ t e. data_kept d t (bits_of (get_or vs 1 nothing)) (bits_of (get_or vs 0 nothing)) _ (λ ws i. makes_kept t ws [] i tt)) g
  gc_kept (gc.ArrayNewElem n e) g = range_kept (segment_in s e) (bits_of (get_or vs 1 nothing)) (bits_of (get_or vs 0 nothing)) (segment_within e) (λ us. MakesNamed p x s a u act n (λ t. us) us) (λ us i. named_kept n (λ t. us) us (λ t. i) i) g
  gc_kept (gc.ArrayGet n) g = reads_kept false _ _ g
  gc_kept (gc.ArrayGetS n) g = reads_kept true _ _ g
  gc_kept (gc.ArrayGetU n) g = reads_kept false _ _ g
  gc_kept (gc.ArraySet n) g = writes_kept _ _ (take 1 vs) [] (tops_within 1) tt g
  gc_kept gc.ArrayLen g = of_object (get_or vs 0 nothing) _ (λ k o d. tells_kept (length o.fields)) g
  gc_kept (gc.ArrayFill n) g = writes_kept _ _ _ [] (each_replicate InWidth _ _ (top_within 1)) tt g
  gc_kept (gc.ArrayCopy n m) g = of_object (get_or vs 2 nothing) _ (λ k o d. range_kept o.fields (bits_of (get_or vs 1 nothing)) (bits_of (get_or vs 0 nothing)) (object_within k o d) (λ us. Writes p x s a u act (get_or vs 4 nothing) (bits_of (get_or vs 3 nothing)) us us) (λ us i. writes_kept (get_or vs 4 nothing) (bits_of (get_or vs 3 nothing)) us us i i)) g
  gc_kept (gc.ArrayInitData n d) g = of_object (get_or vs 3 nothing) _ (λ k o e. data_kept d o.type (bits_of (get_or vs 1 nothing)) (bits_of (get_or vs 0 nothing)) _ (λ ws i. written_kept k o (bits_of (get_or vs 2 nothing)) ws [] e i tt)) g
  gc_kept (gc.ArrayInitElem n e) g = range_kept (segment_in s e) (bits_of (get_or vs 1 nothing)) (bits_of (get_or vs 0 nothing)) (segment_within e) (λ us. Writes p x s a u act (get_or vs 3 nothing) (bits_of (get_or vs 2 nothing)) us us) (λ us i. writes_kept (get_or vs 3 nothing) (bits_of (get_or vs 2 nothing)) us us i i) g
  gc_kept (gc.RefTestNonNull q) g = tells_kept _ g.1
  gc_kept (gc.RefTestNullable q) g = tells_kept _ g.1
  gc_kept (gc.RefCastNonNull q) g = stays_kept g.1
  gc_kept (gc.RefCastNullable q) g = stays_kept g.1
  gc_kept (gc.BrOnCast n from to) g = stays_kept g.1
  gc_kept (gc.BrOnCastFail n from to) g = stays_kept g.1
  gc_kept gc.AnyConvertExtern g = to_any_kept (get_or vs 0 nothing) g
  gc_kept gc.ExternConvertAny g = to_extern_kept (get_or vs 0 nothing) (top_within 0) g
  gc_kept gc.RefI31 g = gives_kept _ s (low_bits _ (2 ^ 31) (omega arith), tt) w g
  gc_kept gc.I31GetS g = unboxed_kept true (get_or vs 0 nothing) g
  gc_kept gc.I31GetU g = unboxed_kept false (get_or vs 0 nothing) g

  constant_kept : (o : ConstOperator) → GivesConstant p x s a u act o → Kept
  constant_kept (const.I32Const n) g = gives_kept _ s (integer_within i32 n (omega arith), tt) w g
  constant_kept (const.I64Const n) g = gives_kept _ s (integer_within i64 n (omega arith), tt) w g
  constant_kept (const.F32Const n) g = gives_kept _ s (low_bits _ (2 ^ 32) (omega arith), tt) w g
  constant_kept (const.F64Const n) g = gives_kept _ s (low_bits _ (2 ^ 64) (omega arith), tt) w g

  operator_kept : (o : Op) → GivesOperator p x s a u act o → Kept
  operator_kept (op.Control o) g = control_kept o g
  operator_kept (op.Parametric o) g = parametric_kept o g
  operator_kept (op.Exception o) g = exception_kept o g
  operator_kept (op.Memory o) g = memory_kept o g
  operator_kept (op.Bulk o) g = bulk_kept o g
  operator_kept (op.Gc o) g = gc_kept o g
  operator_kept (op.Const o) g = constant_kept o g
  operator_kept (op.Numeric o) g = numeric_kept o (integer_operation o) refl g
  operator_kept (op.Simd o) g = vector_kept (simd_access o) (simd_narrow o) g
  operator_kept (op.Atomic o) g = atomic_kept o g
  operator_kept o g = outside_kept g

  block_kept : (o : Op) → GivesBlock p x s a u act o → Kept
  block_kept (op.Control (control.If bt)) g = stays_kept g.1
  block_kept o g = stays_kept g

  code_kept : (c : Code) → GivesCode p x s a u act c → Kept
  code_kept (plain o more) g = operator_kept o g
  code_kept (nested o body more) g = block_kept o g
  code_kept (close o) g = stays_kept g
  code_kept (turn o more) g = stays_kept g

  -- ---- what is made

  calls_new : (v : Value) → CallsNew InWidth p a act acts v
  calls_new (ref_function i t) = λ e t d. tt
  calls_new v = tt

  called_new : (ws : List Value) → OnTop (CallsNew InWidth p a act acts) ws
  called_new [] = tt
  called_new (v ∷ ws) = calls_new v

  thrown_new : (v : Value) → ThrownNew InWidth p a act acts v
  thrown_new (ref_exn k t) = tt
  thrown_new v = tt

  on_top_new : (ws : List Value) → OnTop (ThrownNew InWidth p a act acts) ws
  on_top_new [] = tt
  on_top_new (v ∷ ws) = thrown_new v

  control_new : (o : ControlOperator) → ControlNew InWidth p a act acts o
  control_new (control.Call n) = λ e t d. tt
  control_new (control.ReturnCall n) = λ e t d. tt
  control_new (control.CallIndirect y n) = λ e d. calls_new a.held
  control_new (control.ReturnCallIndirect y n) = λ e d. calls_new a.held
  control_new (control.CallRef n) = called_new vs
  control_new (control.ReturnCallRef n) = called_new vs
  control_new o = tt

  exception_new : (o : ExceptionTree) → ExceptionNew InWidth p a act acts o
  exception_new (op.Throw n) = λ t e. tt
  exception_new op.ThrowRef = on_top_new vs
  exception_new (op.Rethrow n) = λ e d. tt
  exception_new o = tt

  told : (n : ℕ) → IsWithin (number_value i32 n) → a.made ≡ n → InWidth (number_value i32 a.made)
  told n i e = subst (λ k. InWidth (number_value i32 k)) (sym e) i

  length_new : (v : Value) → OfObject p x s a u v (λ k o. Tells p x s a u (length o.fields)) → a.traps ≡ false → InWidth (number_value i32 a.made)
  length_new (ref_object k t) g e = there {A = ObjectInstance} {Q = InWidth (number_value i32 a.made)} (slice_get s.objects k) _ (λ o d c. told (length o.fields) (each_get (λ (q : ObjectInstance). IsWithin (number_value i32 (length q.fields))) s.objects k o sizes.arrays d) c.0) g
  length_new v g e = absurd (true≢false (sym g.0 ∙ e))

  unboxed_new : (signed : Bool) (v : Value) → Unboxes p x s a u act signed v → a.traps ≡ false → InWidth (number_value i32 a.made)
  unboxed_new signed (ref_i31 c) g e = told _ (extended_within signed 31 c (omega arith) (omega arith)) g.0
  unboxed_new signed v g e = absurd (true≢false (sym g.0 ∙ e))

  gc_new : (o : GcOperator) → GivesGc p x s a u act o → New InWidth p a act acts (op.Gc o)
  gc_new gc.RefEq g = told _ (truth_within _) g.0
  gc_new (gc.StructNew n) g = λ t e. tt
  gc_new (gc.StructNewDefault n) g = λ t e. tt
  gc_new (gc.ArrayNew n) g = λ t e. tt
  gc_new (gc.ArrayNewDefault n) g = λ t e. tt
  gc_new (gc.ArrayNewFixed n k) g = λ t e. tt
  gc_new (gc.ArrayNewData n d) g = λ t e c. tt
  gc_new (gc.ArrayNewElem n d) g = λ t e c. tt
  gc_new gc.ArrayLen g = length_new (get_or vs 0 nothing) g
  gc_new (gc.RefTestNonNull q) g = told _ (truth_within _) g.1.0
  gc_new (gc.RefTestNullable q) g = told _ (truth_within _) g.1.0
  gc_new gc.I31GetS g = unboxed_new true (get_or vs 0 nothing) g
  gc_new gc.I31GetU g = unboxed_new false (get_or vs 0 nothing) g
  gc_new o g = tt

  bulk_new : (o : BulkOperator) → GivesBulk p x s a u act o → New InWidth p a act acts (op.Bulk o)
  bulk_new bulk.RefIsNull g = told _ (truth_within _) g.0
  bulk_new o g = tt

  operator_new : (o : Op) → GivesOperator p x s a u act o → New InWidth p a act acts o
  operator_new (op.Control o) g = control_new o
  operator_new (op.Exception o) g = exception_new o
  operator_new (op.Bulk o) g = bulk_new o g
  operator_new (op.Gc o) g = gc_new o g
  operator_new o g = tt

  code_new : (c : Code) → GivesCode p x s a u act c → CodeNew InWidth p a act acts c
  code_new (plain o more) g = operator_new o g
  code_new (nested o body more) g = tt
  code_new (close o) g = tt
  code_new (turn o more) g = tt

pub widths_kept : WidthsAreKept
widths_kept p [] s a u g i w sizes = absurd g
widths_kept p (act ∷ acts) s a u g i w sizes =
    let k = code_kept p act acts s a u i.0 i.1 w sizes act.innermost.code g in
    ((execute_keeps InWidth p a act acts plain_width k.0 i.0 i.1 act.innermost.code (code_new p act acts s a u i.0 i.1 w sizes act.innermost.code g)).keeps, k.1)
