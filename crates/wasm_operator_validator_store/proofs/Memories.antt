-- Operators on memories and data segments over a store.
use Rattle.std.proofs.Common.{◌≡◌, ◌≤◌, ℕ, ◌+◌, ◌*◌, ◌/◌, ◌%◌, ◌^◌, Bool, true, false, not, ◌&&◌, nat_lt, IsTrue, List, [], ◌∷◌, ◌++◌, Option, Some, None, if◌then◌else◌, refl, sym, ap, subst, ◌∙◌, length, drop, replicate, zero, suc, get_or, slice_get, true≢false, length-append, arith}
use Rattle.std.specs.Prelude.{◌⊎◌}
use Rattle.std.proofs.lemmas.Bool.{ltb-false}
use Rattle.std.proofs.lemmas.List.{length-replicate}
use Rattle.std.proofs.lemmas.Nat.{shl-shr}
use mathlib.Core.Logic.{⊎_elim}
use Rattle.wasm_types.specs.trees.Types.{Number, i32, i64, v128, number, ref, StorageOf, i8, i16, value}
use Rattle.wasm_types.specs.trees.Trees.{TypeTree}
use Rattle.wasm_types.specs.externs.declared.memory.MemoryType.{MemoryType}
use Rattle.wasm_operators_immediates.specs.declared.memory.MemArg.{MemArg}
use Rattle.wasm_operators_enums.specs.declared.memory.MemoryOperator.{MemoryOperator}
use Rattle.wasm_operators_enums.specs.declared.memory.MemoryOperator.TheVariants as memory
use Rattle.wasm_operators_enums.specs.declared.bulk.BulkOperator.{BulkOperator}
use Rattle.wasm_operators_enums.specs.declared.bulk.BulkOperator.TheVariants as bulk
use Rattle.wasm_operators_enums.specs.declared.vector.SimdOperator.{SimdOperator}
use Rattle.wasm_operators_enums.specs.declared.vector.SimdOperator.TheVariants as simd
use Rattle.wasm_operators_enums.specs.declared.atomic.AtomicOperator.{AtomicOperator}
use Rattle.wasm_operators_enums.specs.declared.atomic.AtomicOperator.TheVariants as atomic
use Rattle.wasm_operators_enums.specs.Table.{info_of}
use Rattle.wasm_operators_enums.specs.Immediates.{immediates_of}
use Rattle.wasm_operators_enums.specs.Op as op
use Rattle.wasm_operators_enums.specs.Op.{Op}
use Rattle.wasm_operators_encoding.specs.expressions.Code.{Code, plain}
use Rattle.wasm_operator_validator_rules.specs.Operands.{ValueType, stack}
use Rattle.wasm_operator_validator_rules.specs.InstructionTypes.{i32_type}
use Rattle.wasm_operator_validator_rules.specs.Numbers.{numbers}
use Rattle.wasm_operator_validator_soundness.specs.runs.Values.{Program, Value, number_value, AllFit, EachFits}
use Rattle.wasm_operator_validator_soundness.specs.runs.States.{Activation, State, Answer, Move, found}
use Rattle.wasm_operator_validator_soundness.specs.runs.Names.{Places, accessed, argument_of}
use Rattle.wasm_operator_validator_soundness.specs.runs.Machine.{operand_of, address, exchange, access, execute}
use Rattle.wasm_operator_validator_soundness.specs.runs.Soundness.{IsValidProgram}
use Rattle.wasm_operator_validator_store.specs.Stores.{MemoryInstance, Store, width, range, placed, nothing, bits_of, sized, failure, page_size, page_of, most_grown, bytes_held, pages_held, grown, with_bytes, memory_address, memory_at, memory_in, data_in, with_memory, without_data}
use Rattle.wasm_operator_validator_store.specs.Atomics.{is_misaligned, AtomicAccess, number_given, atomic_access}
use Rattle.wasm_operator_validator_store.specs.Memories.{number_of, bytes_of, past, Access, reads, writes, Reach, memory_access, simd_access, stored_size, numbers_from, elements_from}
use Rattle.wasm_operator_validator_store.specs.ValidStores.{Each, IsByte, Knows, MemoryFits, StoreFits, Evolves}
use Rattle.wasm_operator_validator_store.specs.Giving.{is_wide_memory, is_shared_memory, Either, Outside, Traps, Gives, OrTraps, There, shared, Reading, Writing, wide_memory, Sized, size_of, GrowsTo, Reaches, atomic_address, Replaces, Exchanges, Aligned, GivesOperator}
use Rattle.wasm_operator_validator_store.specs.Soundness.{AreValid}
use Rattle.wasm_operator_validator_store.proofs.Lists.{none_some, same_some, each_get, each_range, each_placed, placed_length}
use Rattle.wasm_operator_validator_store.proofs.Bytes.{range_length}
use Rattle.wasm_operator_validator_store.proofs.Operating.{CodeNew}
use Rattle.wasm_operator_validator_store.proofs.Storing.{stays, memory_evolves, memory_fits, bytes_fit, data_evolves, data_fits}
use Rattle.wasm_operator_validator_store.proofs.Answering.{IsDone, found_answer, told}
use Rattle.wasm_operator_validator_store.proofs.Accessing.{sized_fits, failure_fits, sized_known, failure_known, unchanged, values_known, exchanged, exchange_traps, fit_as}

-- ---- which numbers an access takes and gives, as its name says

abbrev pub places_of : Access → Places
places_of (reads ts n k f) = record { takes = ts; gives = n ∷ [] }
places_of (writes n k f) = record { takes = n ∷ []; gives = [] }

abbrev pub IsNamed : Op → Reach → Type 0
IsNamed o r = accessed (info_of o).name ≡ Some (places_of r.access)

named_as : (o : Op) (r q : Reach) → Some r ≡ Some q → IsNamed o r → IsNamed o q
named_as o r q e h = subst (IsNamed o) (same_some r q e) h

pub memory_places : (o : MemoryOperator) (r : Reach) → memory_access o ≡ Some r → IsNamed (op.Memory o) r
memory_places (memory.LocalGet x) r e = absurd (none_some r e)
memory_places (memory.LocalSet x) r e = absurd (none_some r e)
memory_places (memory.LocalTee x) r e = absurd (none_some r e)
memory_places (memory.GlobalGet x) r e = absurd (none_some r e)
memory_places (memory.GlobalSet x) r e = absurd (none_some r e)
memory_places (memory.MemorySize x) r e = absurd (none_some r e)
memory_places (memory.MemoryGrow x) r e = absurd (none_some r e)
memory_places o r e = named_as (op.Memory o) _ r e refl

pub simd_places : (o : SimdOperator) (r : Reach) → simd_access o ≡ Some r → IsNamed (op.Simd o) r
simd_places (simd.V128Const c) r e = absurd (none_some r e)
simd_places (simd.I8x16Shuffle ls) r e = absurd (none_some r e)
simd_places (simd.I8x16ExtractLaneS l) r e = absurd (none_some r e)
simd_places (simd.I8x16ExtractLaneU l) r e = absurd (none_some r e)
simd_places (simd.I8x16ReplaceLane l) r e = absurd (none_some r e)
simd_places (simd.I16x8ExtractLaneS l) r e = absurd (none_some r e)
simd_places (simd.I16x8ExtractLaneU l) r e = absurd (none_some r e)
simd_places (simd.I16x8ReplaceLane l) r e = absurd (none_some r e)
simd_places (simd.I32x4ExtractLane l) r e = absurd (none_some r e)
simd_places (simd.I32x4ReplaceLane l) r e = absurd (none_some r e)
simd_places (simd.I64x2ExtractLane l) r e = absurd (none_some r e)
simd_places (simd.I64x2ReplaceLane l) r e = absurd (none_some r e)
simd_places (simd.F32x4ExtractLane l) r e = absurd (none_some r e)
simd_places (simd.F32x4ReplaceLane l) r e = absurd (none_some r e)
simd_places (simd.F64x2ExtractLane l) r e = absurd (none_some r e)
simd_places (simd.F64x2ReplaceLane l) r e = absurd (none_some r e)
simd_places o r e = named_as (op.Simd o) _ r e refl

-- the argument is that which the operator carries
abbrev pub IsCarried : Op → Reach → Type 0
IsCarried o r = argument_of (immediates_of o) ≡ Some r.argument

pub simd_carried : (o : SimdOperator) (r : Reach) → simd_access o ≡ Some r → IsCarried (op.Simd o) r
simd_carried (simd.V128Const c) r e = absurd (none_some r e)
simd_carried (simd.I8x16Shuffle ls) r e = absurd (none_some r e)
simd_carried (simd.I8x16ExtractLaneS l) r e = absurd (none_some r e)
simd_carried (simd.I8x16ExtractLaneU l) r e = absurd (none_some r e)
simd_carried (simd.I8x16ReplaceLane l) r e = absurd (none_some r e)
simd_carried (simd.I16x8ExtractLaneS l) r e = absurd (none_some r e)
simd_carried (simd.I16x8ExtractLaneU l) r e = absurd (none_some r e)
simd_carried (simd.I16x8ReplaceLane l) r e = absurd (none_some r e)
simd_carried (simd.I32x4ExtractLane l) r e = absurd (none_some r e)
simd_carried (simd.I32x4ReplaceLane l) r e = absurd (none_some r e)
simd_carried (simd.I64x2ExtractLane l) r e = absurd (none_some r e)
simd_carried (simd.I64x2ReplaceLane l) r e = absurd (none_some r e)
simd_carried (simd.F32x4ExtractLane l) r e = absurd (none_some r e)
simd_carried (simd.F32x4ReplaceLane l) r e = absurd (none_some r e)
simd_carried (simd.F64x2ExtractLane l) r e = absurd (none_some r e)
simd_carried (simd.F64x2ReplaceLane l) r e = absurd (none_some r e)
simd_carried o r e = subst (IsCarried (op.Simd o)) (same_some _ r e) refl

-- ---- and an atomic access

abbrev listed : Option Number → List Number
listed None = []
listed (Some n) = n ∷ []

abbrev exchange_places : AtomicAccess → Places
exchange_places r = record { takes = r.takes; gives = listed r.gives }

abbrev pub IsExchange : Op → AtomicAccess → Type 0
IsExchange o r = accessed (info_of o).name ≡ Some (exchange_places r)

pub atomic_places : (o : AtomicOperator) (r : AtomicAccess) → atomic_access o ≡ Some r → IsExchange (op.Atomic o) r
atomic_places atomic.AtomicFence r e = absurd (none_some r e)
atomic_places (atomic.MemoryAtomicNotify m) r e = absurd (none_some r e)
atomic_places (atomic.MemoryAtomicWait32 m) r e = absurd (none_some r e)
atomic_places (atomic.MemoryAtomicWait64 m) r e = absurd (none_some r e)
atomic_places o r e = subst (IsExchange (op.Atomic o)) (same_some _ r e) refl

number_fits : (p : Program) (g : Option Number) (b : ℕ) → AllFit p (number_given g b) (stack (numbers (listed g)))
number_fits p None b = tt
number_fits p (Some n) b = ((tt, refl), tt)

number_known : (s : Store) (g : Option Number) (b : ℕ) → Each (Knows s) (number_given g b)
number_known s None b = tt
number_known s (Some n) b = (tt, tt)

-- ---- what is read from bytes fits, and is in each store

pub numbers_fit : (p : Program) (t : StorageOf TypeTree) (n : ℕ) (bs : List ℕ) → EachFits p (elements_from t n bs) (operand_of t)
numbers_fit p i8 n bs = at n bs
  where
    at : (n : ℕ) (bs : List ℕ) → EachFits p (elements_from i8 n bs) (operand_of i8)
    at zero bs = tt
    at (suc n) bs = ((tt, refl), at n (drop 1 bs))
numbers_fit p i16 n bs = at n bs
  where
    at : (n : ℕ) (bs : List ℕ) → EachFits p (elements_from i16 n bs) (operand_of i16)
    at zero bs = tt
    at (suc n) bs = ((tt, refl), at n (drop 2 bs))
numbers_fit p (value (number t)) n bs = at n bs
  where
    at : (n : ℕ) (bs : List ℕ) → EachFits p (elements_from (value (number t)) n bs) (number t)
    at zero bs = tt
    at (suc n) bs = ((tt, refl), at n (drop (width t / 8) bs))
numbers_fit p (value (ref c h)) n bs = tt

pub read_known : (s : Store) (t : Option Number) (k n : ℕ) (bs : List ℕ) → Each (Knows s) (numbers_from t k n bs)
read_known s None k n bs = tt
read_known s (Some t) k zero bs = tt
read_known s (Some t) k (suc n) bs = (tt, read_known s (Some t) k n (drop k bs))

-- ---- a memory that grows

whole_pages : (o : Option ℕ) (n : ℕ) → n * page_size o / page_size o ≡ n
whole_pages None n = shl-shr n 16
whole_pages (Some k) n = shl-shr n k

more_pages : (n k d : ℕ) → n * d + k * d ≡ (n + k) * d
more_pages n k d = omega arith

pub grown_fits : (o : Option MemoryInstance) (k : ℕ) (bs : List ℕ) → ((m : MemoryInstance) → o ≡ Some m → MemoryFits m) → grown o k ≡ Some bs
    → (length (bytes_held o) ≤ length bs) × ((m : MemoryInstance) → o ≡ Some m → MemoryFits (with_bytes bs m))
grown_fits None k bs h e = absurd (none_some bs e)
grown_fits (Some m) k bs h e = at (nat_lt (most_grown m.type) (pages_held (Some m) + k)) refl e
  where
    sizes : length (m.bytes ++ replicate (k * page_of m.type) 0) ≡ length m.bytes + k * page_of m.type
    sizes = omega (arith, length-append m.bytes (replicate (k * page_of m.type) 0), length-replicate {A = ℕ} (k * page_of m.type) 0)

    fits_so : nat_lt (most_grown m.type) (pages_held (Some m) + k) ≡ false → MemoryFits (with_bytes (m.bytes ++ replicate (k * page_of m.type) 0) m)
    fits_so c =
        let f = h m refl in
        let pages : pages_held (Some m) ≡ f.0 = ap (λ l. l / page_of m.type) f.1 ∙ whole_pages m.type.page_size_log2 f.0 in
        (f.0 + k, sizes ∙ ap (λ l. l + k * page_of m.type) f.1 ∙ more_pages f.0 k (page_of m.type), omega (arith, ltb-false (most_grown m.type) (pages_held (Some m) + k) c, pages))

    at : (b : Bool) → nat_lt (most_grown m.type) (pages_held (Some m) + k) ≡ b → (if b then None else Some (m.bytes ++ replicate (k * page_of m.type) 0)) ≡ Some bs
        → (length m.bytes ≤ length bs) × ((q : MemoryInstance) → Some m ≡ Some q → MemoryFits (with_bytes bs q))
    at true c d = absurd (none_some bs d)
    at false c d =
        let same : m.bytes ++ replicate (k * page_of m.type) 0 ≡ bs = same_some (m.bytes ++ replicate (k * page_of m.type) 0) bs d in (
          subst (λ (ds : List ℕ). length m.bytes ≤ length ds) same (omega (arith, sizes)),
          λ q b. subst (λ (ds : List ℕ). MemoryFits (with_bytes ds q)) same (subst (λ (i : MemoryInstance). MemoryFits (with_bytes (m.bytes ++ replicate (k * page_of m.type) 0) i)) (same_some m q b) (fits_so c)),
        )

-- ---- ways to go on

module _ (p : Program) (x : State) (s : Store) (a : Answer) (u : Store) where
  pub there_is : {A : Type 0} (o : Option A) (F : A → Type 0) → There p x s a u o F → (y : A) × (o ≡ Some y) × F y
  there_is None F h = absurd h
  there_is (Some y) F h = (y, refl, h)

  or_traps : {A Q : Type 0} (o : Option A) (F : A → Type 0) → (Traps p x s a u → Q) → ((y : A) → o ≡ Some y → F y → Q) → OrTraps p x s a u o F → Q
  or_traps None F f g h = f h
  or_traps (Some y) F f g h = g y refl h

  -- what is read, and bytes if there were bytes
  pub reading : {Q : Type 0} (y i n : ℕ) (F : List ℕ → Type 0) → (Traps p x s a u → Q) → ((bs : List ℕ) → length bs ≡ n → (Each IsByte (memory_in s y) → Each IsByte bs) → F bs → Q) → Reading p x s a u y i n F → Q
  reading {Q} y i n F f g h = at (shared p x s a u y) h
    where
      at : (b : Bool) → Either b ((IsTrue (past (length (memory_in s y)) i n) × Traps p x s a u) ⊎ ((bs : List ℕ) × (length bs ≡ n) × Each IsByte bs × F bs)) (OrTraps p x s a u (range (memory_in s y) i n) F) → Q
      at true h = ⊎_elim (λ k. f k.1) (λ k. g k.0 k.1 (λ c. k.2) k.3) h
      at false h = or_traps {A = List ℕ} {Q = Q} (range (memory_in s y) i n) F f (λ bs e k. g bs (range_length (memory_in s y) i n bs e) (λ c. each_range IsByte (memory_in s y) i n bs c e) k) h

  pub writing : {Q : Type 0} (y i : ℕ) (bs : List ℕ) → (Traps p x s a u → Q) → (Gives p x s a u [] s → Q)
      → ((cs : List ℕ) → length cs ≡ length (memory_in s y) → (Each IsByte (memory_in s y) → Each IsByte bs → Each IsByte cs) → Gives p x s a u [] (with_memory s y cs) → Q)
      → Writing p x s a u y i bs → Q
  writing {Q} y i bs f d g h = at (shared p x s a u y) h
    where
      at : (b : Bool) → Either b ((IsTrue (past (length (memory_in s y)) i (length bs)) × Traps p x s a u) ⊎ Gives p x s a u [] s) (OrTraps p x s a u (placed (memory_in s y) i bs) (λ cs. Gives p x s a u [] (with_memory s y cs))) → Q
      at true h = ⊎_elim (λ k. f k.1) d h
      at false h = or_traps {A = List ℕ} {Q = Q} (placed (memory_in s y) i bs) _ f (λ cs e k. g cs (placed_length (memory_in s y) i bs cs e) (λ c q. each_placed IsByte (memory_in s y) i bs cs c q e) k) h

-- ---- what is shown of each operator

module _ (p : Program) (valid : IsValidProgram p) (results : List ValueType) (act : Activation) (acts : List Activation) (s : Store) (v : AreValid p results (act ∷ acts) s) (more : Code) (a : Answer) (u : Store) where
  abbrev x : State
  x = act ∷ acts

  abbrev index : ℕ → ℕ
  index n = bits_of (get_or act.innermost.values n nothing)

  abbrev Done : Op → Type 0
  Done o = IsDone p act acts (plain o more) s a u

  abbrev Given : Op → Type 0
  Given o = GivesOperator p (act ∷ acts) s a u act o

  abbrev Answers : Op → Type 0
  Answers o = (execute p a act acts (plain o more)).is_answer

  -- an operator that makes nothing, that may trap, and that gives values of these types
  module _ (o : Op) (us : List ValueType) (new : (K : Value → Type 0) → CodeNew K p a act acts (plain o more)) (falls : IsTrue a.traps → Answers o) (answers : a.traps ≡ false → AllFit p a.values (stack us) → Answers o) where
    by_trap : Traps p (act ∷ acts) s a u → Done o
    by_trap k = unchanged p valid results act acts s v (plain o more) a u k.1.1 (falls k.0) (values_known p valid results act acts s v s a [] k.1.0 tt) (new (Knows s))

    by_store : (vs : List Value) (w : Store) → AllFit p vs (stack us) → Each (Knows w) vs → StoreFits p w → Evolves s w → Gives p (act ∷ acts) s a u vs w → Done o
    by_store vs w f k g e h = subst (λ z. IsDone p act acts (plain o more) s a z) (sym h.2) (record {
      answer = answers h.1 (fit_as p valid results act acts s v more a u vs us h.0 f);
      store = g;
      evolves = e;
      values = values_known p valid results act acts s v w a vs h.0 k;
      new = new (Knows w);
    })

    by_values : (vs : List Value) → AllFit p vs (stack us) → Each (Knows s) vs → Gives p (act ∷ acts) s a u vs s → Done o
    by_values vs f k h = by_store vs s f k v.store (stays s) h

    by_bytes : (y : ℕ) (vs : List Value) (bs : List ℕ) → AllFit p vs (stack us) → Each (Knows (with_memory s y bs)) vs → length bs ≡ length (memory_in s y) → Gives p (act ∷ acts) s a u vs (with_memory s y bs) → Done o
    by_bytes y vs bs f k e h = let w = bytes_fit p s y bs e v.store in by_store vs (with_memory s y bs) f k w.0 w.1 h

    by_writing : (y i : ℕ) (bs : List ℕ) → AllFit p [] (stack us) → Writing p (act ∷ acts) s a u y i bs → Done o
    by_writing y i bs f h = writing p (act ∷ acts) s a u {Q = Done o} y i bs by_trap (by_values [] f tt) (λ cs e b g. by_bytes y [] cs f tt e g) h

  -- ---- loads and stores

  access_falls : (o : Op) → execute p a act acts (plain o more) ≡ access p a act acts o more → IsTrue a.traps → Answers o
  access_falls o same t = subst (λ (m : Move). m.is_answer) (sym same) (found_answer {A = MemArg} (argument_of (immediates_of o)) _ (λ (i : MemArg) e.
      found_answer {A = MemoryType} (slice_get p.«module».memories i.memory) _ (λ (q : MemoryType) d.
      found_answer {A = Places} (accessed (info_of o).name) _ (λ (n : Places) c. exchange_traps p valid results act acts s v more a u (address q.memory64 ∷ numbers n.takes) (numbers n.gives) t))))

  access_answers : (o : Op) (n : Places) → execute p a act acts (plain o more) ≡ access p a act acts o more → accessed (info_of o).name ≡ Some n → a.traps ≡ false → AllFit p a.values (stack (numbers n.gives)) → Answers o
  access_answers o n same b t f = subst (λ (m : Move). m.is_answer) (sym same) (found_answer {A = MemArg} (argument_of (immediates_of o)) _ (λ (i : MemArg) e.
      found_answer {A = MemoryType} (slice_get p.«module».memories i.memory) _ (λ (q : MemoryType) d.
      found_answer {A = Places} (accessed (info_of o).name) _ (λ (k : Places) c. exchanged p valid results act acts s v more a u (address q.memory64 ∷ numbers k.takes) (numbers k.gives) t
      (subst (λ (j : Places). AllFit p a.values (stack (numbers j.gives))) (same_some n k (sym b ∙ c)) f)))))

  pub reach_done : (o : Op) (r : Reach) → IsNamed o r → execute p a act acts (plain o more) ≡ access p a act acts o more → ((K : Value → Type 0) → CodeNew K p a act acts (plain o more))
      → Reaches p (act ∷ acts) s a u act r → Done o
  reach_done o r b same new h = at r.access b h
    where
      at : (k : Access) → accessed (info_of o).name ≡ Some (places_of k) → Reaches p (act ∷ acts) s a u act (record { argument = r.argument; access = k }) → Done o
      at (reads ts n k f) b h = reading p (act ∷ acts) s a u {Q = Done o} r.argument.memory (index (length ts) + r.argument.offset) k (λ bs. Gives p (act ∷ acts) s a u (number_value n (f (index 0) bs) ∷ []) s)
          (by_trap o (numbers (n ∷ [])) new (access_falls o same) (access_answers o (places_of (reads ts n k f)) same b))
          (λ bs l i g. by_values o (numbers (n ∷ [])) new (access_falls o same) (access_answers o (places_of (reads ts n k f)) same b) (number_value n (f (index 0) bs) ∷ []) ((tt, refl), tt) (tt, tt) g) h
      at (writes n k f) b h = by_writing o [] new (access_falls o same) (access_answers o (places_of (writes n k f)) same b) r.argument.memory (index 1 + r.argument.offset) (bytes_of k (f (index 0))) tt h

  -- ---- sizes

  -- at the type of the memory
  abbrev sized_by : Op → ℕ → (MemoryType → List ValueType) → Type 1
  sized_by o y ts = execute p a act acts (plain o more) ≡ found (slice_get p.«module».memories y) (λ (t : MemoryType). exchange p a act acts (ts t) (address t.memory64 ∷ []) more)

  size_falls : (o : Op) (y : ℕ) (ts : MemoryType → List ValueType) → sized_by o y ts → IsTrue a.traps → Answers o
  size_falls o y ts same t = subst (λ (m : Move). m.is_answer) (sym same) (found_answer {A = MemoryType} (slice_get p.«module».memories y) (λ q. exchange p a act acts (ts q) (address q.memory64 ∷ []) more) (λ q d.
      exchange_traps p valid results act acts s v more a u (ts q) (address q.memory64 ∷ []) t))

  size_answers : (o : Op) (y : ℕ) (ts : MemoryType → List ValueType) → sized_by o y ts → a.traps ≡ false → AllFit p a.values (stack (address (wide_memory p (act ∷ acts) s a u y) ∷ [])) → Answers o
  size_answers o y ts same t f = subst (λ (m : Move). m.is_answer) (sym same) (found_answer {A = MemoryType} (slice_get p.«module».memories y) (λ q. exchange p a act acts (ts q) (address q.memory64 ∷ []) more) (λ q d.
      exchanged p valid results act acts s v more a u (ts q) (address q.memory64 ∷ []) t (subst (λ (k : Option MemoryType). AllFit p a.values (stack (address (is_wide_memory k) ∷ []))) d f)))

  module _ (o : Op) (y : ℕ) (ts : MemoryType → List ValueType) (same : sized_by o y ts) (new : (K : Value → Type 0) → CodeNew K p a act acts (plain o more)) where
    abbrev wide : Bool
    wide = wide_memory p (act ∷ acts) s a u y

    any_size : Sized p (act ∷ acts) s a u y → Done o
    any_size h = by_values o (address wide ∷ []) new (size_falls o y ts same) (size_answers o y ts same) (sized wide h.0 ∷ []) (sized_fits p wide h.0, tt) (sized_known s wide h.0, tt) h.2

    this_size : Gives p (act ∷ acts) s a u (size_of p (act ∷ acts) s a u y ∷ []) s → Done o
    this_size h = by_values o (address wide ∷ []) new (size_falls o y ts same) (size_answers o y ts same) (sized wide (pages_held (memory_at s y)) ∷ []) (sized_fits p wide _, tt) (sized_known s wide _, tt) h

    no_size : Gives p (act ∷ acts) s a u (failure wide ∷ []) s → Done o
    no_size h = by_values o (address wide ∷ []) new (size_falls o y ts same) (size_answers o y ts same) (failure wide ∷ []) (failure_fits p wide, tt) (failure_known s wide, tt) h

    pub size_done : Either (shared p (act ∷ acts) s a u y) (Sized p (act ∷ acts) s a u y) (Gives p (act ∷ acts) s a u (size_of p (act ∷ acts) s a u y ∷ []) s) → Done o
    size_done h = at (shared p (act ∷ acts) s a u y) h
      where
        at : (b : Bool) → Either b (Sized p (act ∷ acts) s a u y) (Gives p (act ∷ acts) s a u (size_of p (act ∷ acts) s a u y ∷ []) s) → Done o
        at true h = any_size h
        at false h = this_size h

    grow_done : (n : ℕ) (bs : Option (List ℕ)) → grown (memory_at s y) n ≡ bs → GrowsTo p (act ∷ acts) s a u y bs → Done o
    grow_done n None e h = no_size h
    grow_done n (Some bs) e h = ⊎_elim (λ g.
        let k = grown_fits (memory_at s y) n bs (λ m d. each_get MemoryFits s.memories (memory_address s y) m v.store.memories d) e in
        by_store o (address wide ∷ []) new (size_falls o y ts same) (size_answers o y ts same) (size_of p (act ∷ acts) s a u y ∷ []) (with_memory s y bs) (sized_fits p wide _, tt) (sized_known (with_memory s y bs) wide _, tt)
        (memory_fits p s y bs k.0 k.1 v.store) (memory_evolves s y bs k.0) g) no_size h

    pub grows_done : (n : ℕ) → Either (shared p (act ∷ acts) s a u y) (Sized p (act ∷ acts) s a u y) (GrowsTo p (act ∷ acts) s a u y (grown (memory_at s y) n)) → Done o
    grows_done n h = at (shared p (act ∷ acts) s a u y) h
      where
        at : (b : Bool) → Either b (Sized p (act ∷ acts) s a u y) (GrowsTo p (act ∷ acts) s a u y (grown (memory_at s y) n)) → Done o
        at true h = any_size h
        at false h = grow_done n (grown (memory_at s y) n) refl h

  -- ---- ranges

  abbrev in_memory : ℕ → (MemoryType → Move) → Move
  in_memory y f = found (slice_get p.«module».memories y) f

  pub fill_done : (y : ℕ) → Given (op.Bulk (bulk.MemoryFill y)) → Done (op.Bulk (bulk.MemoryFill y))
  fill_done y h =
      let ts : MemoryType → List ValueType = λ t. address t.memory64 ∷ i32_type ∷ address t.memory64 ∷ [] in
      by_writing (op.Bulk (bulk.MemoryFill y)) [] (λ K. tt)
      (λ t. found_answer {A = MemoryType} (slice_get p.«module».memories y) _ (λ q d. exchange_traps p valid results act acts s v more a u (ts q) [] t))
      (λ t f. found_answer {A = MemoryType} (slice_get p.«module».memories y) _ (λ q d. exchanged p valid results act acts s v more a u (ts q) [] t f)) y (index 2) _ tt h

  discard_falls : (y : ℕ) → IsTrue a.traps → Answers (op.Bulk (bulk.MemoryDiscard y))
  discard_falls y t = found_answer {A = MemoryType} (slice_get p.«module».memories y) _ (λ q d. exchange_traps p valid results act acts s v more a u (address q.memory64 ∷ address q.memory64 ∷ []) [] t)

  discard_answers : (y : ℕ) → a.traps ≡ false → AllFit p a.values (stack []) → Answers (op.Bulk (bulk.MemoryDiscard y))
  discard_answers y t f = found_answer {A = MemoryType} (slice_get p.«module».memories y) _ (λ q d. exchanged p valid results act acts s v more a u (address q.memory64 ∷ address q.memory64 ∷ []) [] t f)

  pub discard_done : (y : ℕ) → Given (op.Bulk (bulk.MemoryDiscard y)) → Done (op.Bulk (bulk.MemoryDiscard y))
  discard_done y h = ⊎_elim
      (λ k. by_trap (op.Bulk (bulk.MemoryDiscard y)) [] (λ K. tt) (discard_falls y) (discard_answers y) k)
      (λ k. by_writing (op.Bulk (bulk.MemoryDiscard y)) [] (λ K. tt) (discard_falls y) (discard_answers y) y (index 1) (replicate (index 0) 0) tt k) h

  copy_falls : (y z : ℕ) → IsTrue a.traps → Answers (op.Bulk (bulk.MemoryCopy y z))
  copy_falls y z t = found_answer {A = MemoryType} (slice_get p.«module».memories y) _ (λ (q : MemoryType) d. found_answer {A = MemoryType} (slice_get p.«module».memories z) _ (λ (r : MemoryType) c.
      exchange_traps p valid results act acts s v more a u (address q.memory64 ∷ address r.memory64 ∷ address (q.memory64 && r.memory64) ∷ []) [] t))

  copy_answers : (y z : ℕ) → a.traps ≡ false → AllFit p a.values (stack []) → Answers (op.Bulk (bulk.MemoryCopy y z))
  copy_answers y z t f = found_answer {A = MemoryType} (slice_get p.«module».memories y) _ (λ (q : MemoryType) d. found_answer {A = MemoryType} (slice_get p.«module».memories z) _ (λ (r : MemoryType) c.
      exchanged p valid results act acts s v more a u (address q.memory64 ∷ address r.memory64 ∷ address (q.memory64 && r.memory64) ∷ []) [] t f))

  pub copy_done : (y z : ℕ) → Given (op.Bulk (bulk.MemoryCopy y z)) → Done (op.Bulk (bulk.MemoryCopy y z))
  copy_done y z h = reading p (act ∷ acts) s a u {Q = Done (op.Bulk (bulk.MemoryCopy y z))} z (index 1) (index 0) (λ bs. Writing p (act ∷ acts) s a u y (index 2) bs)
      (by_trap (op.Bulk (bulk.MemoryCopy y z)) [] (λ K. tt) (copy_falls y z) (copy_answers y z))
      (λ bs l i g. by_writing (op.Bulk (bulk.MemoryCopy y z)) [] (λ K. tt) (copy_falls y z) (copy_answers y z) y (index 2) bs tt g) h

  init_falls : (d y : ℕ) → IsTrue a.traps → Answers (op.Bulk (bulk.MemoryInit d y))
  init_falls d y t = found_answer {A = MemoryType} (slice_get p.«module».memories y) _ (λ (q : MemoryType) e. exchange_traps p valid results act acts s v more a u (address q.memory64 ∷ i32_type ∷ i32_type ∷ []) [] t)

  init_answers : (d y : ℕ) → a.traps ≡ false → AllFit p a.values (stack []) → Answers (op.Bulk (bulk.MemoryInit d y))
  init_answers d y t f = found_answer {A = MemoryType} (slice_get p.«module».memories y) _ (λ (q : MemoryType) e. exchanged p valid results act acts s v more a u (address q.memory64 ∷ i32_type ∷ i32_type ∷ []) [] t f)

  pub init_done : (d y : ℕ) → Given (op.Bulk (bulk.MemoryInit d y)) → Done (op.Bulk (bulk.MemoryInit d y))
  init_done d y h = or_traps p (act ∷ acts) s a u {A = List ℕ} {Q = Done (op.Bulk (bulk.MemoryInit d y))} (range (data_in s d) (index 1) (index 0)) _
      (by_trap (op.Bulk (bulk.MemoryInit d y)) [] (λ K. tt) (init_falls d y) (init_answers d y))
      (λ bs e g. by_writing (op.Bulk (bulk.MemoryInit d y)) [] (λ K. tt) (init_falls d y) (init_answers d y) y (index 2) bs tt g) h

  pub drop_done : (d : ℕ) → Given (op.Bulk (bulk.DataDrop d)) → Done (op.Bulk (bulk.DataDrop d))
  drop_done d h = by_store (op.Bulk (bulk.DataDrop d)) [] (λ K. tt) (λ t. tt) (λ t f. tt) [] (without_data s d) tt tt (data_fits p s d v.store) (data_evolves s d) h

  -- ---- atomic accesses

  module _ (o : Op) (same : execute p a act acts (plain o more) ≡ access p a act acts o more) (new : (K : Value → Type 0) → CodeNew K p a act acts
      (plain o more)) where
    pub trap_done : Traps p (act ∷ acts) s a u → Done o
    trap_done k = by_trap o [] new (access_falls o same) (λ t f. absurd (true≢false (sym k.0 ∙ t))) k

    module _ (r : AtomicAccess) (named : IsExchange o r) where
      abbrev us : List ValueType
      us = numbers (listed r.gives)

      abbrev bytes : List ℕ
      bytes = memory_in s r.argument.memory

      abbrev place : ℕ
      place = atomic_address p (act ∷ acts) s a u act r

      answers : a.traps ≡ false → AllFit p a.values (stack us) → Answers o
      answers = access_answers o (exchange_places r) same named

      given_done : (n : ℕ) → Gives p (act ∷ acts) s a u (number_given r.gives n) s → Done o
      given_done n g = by_values o us new (access_falls o same) answers (number_given r.gives n) (number_fits p r.gives n) (number_known s r.gives n) g

      put_done : (n : ℕ) (cs : List ℕ) → length cs ≡ length bytes → Gives p (act ∷ acts) s a u (number_given r.gives n) (with_memory s r.argument.memory cs)
          → Done o
      put_done n cs e g = by_bytes o us new (access_falls o same) answers r.argument.memory (number_given r.gives n) cs (number_fits p r.gives n)
          (number_known (with_memory s r.argument.memory cs) r.gives n) e g

      replaced : (c : Option ℕ) (n : ℕ) → Replaces p (act ∷ acts) s a u act r c (number_given r.gives n) → Done o
      replaced None n g = given_done n g
      replaced (Some c) n g = at (shared p (act ∷ acts) s a u r.argument.memory) g
        where
          F : List ℕ → Type 0
          F cs = Gives p (act ∷ acts) s a u (number_given r.gives n) (with_memory s r.argument.memory cs)

          at : (b : Bool) → Either b (Gives p (act ∷ acts) s a u (number_given r.gives n) s) (OrTraps p (act ∷ acts) s a u
              (placed bytes place (bytes_of r.size c)) F) → Done o
          at true g = given_done n g
          at false g = or_traps p (act ∷ acts) s a u {A = List ℕ} {Q = Done o} (placed bytes place (bytes_of r.size c)) F trap_done
              (λ cs e k. put_done n cs (placed_length bytes place (bytes_of r.size c) cs e) k) g

      aligned : (b : Bool) → Either b (Traps p (act ∷ acts) s a u) (Exchanges p (act ∷ acts) s a u act r) → Done o
      aligned true h = trap_done h
      aligned false h = reading p (act ∷ acts) s a u {Q = Done o} r.argument.memory place r.size _ trap_done
          (λ bs l i g. replaced (r.written (index 0) (index 1) (number_of bs)) (r.given (number_of bs)) g) h

      pub aligned_done : Aligned p (act ∷ acts) s a u act r → Done o
      aligned_done h = aligned (is_misaligned place r.size) h
