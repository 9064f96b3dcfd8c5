-- That accesses to memories trap exactly past the end, atomic ones also where the address is no multiple of the width, and that bytes are kept.
use Rattle.std.proofs.Common.{◌≡◌, ◌≤◌, ◌<◌, ℕ, zero, suc, ◌+◌, ◌*◌, ◌/◌, ◌%◌, ◌^◌, Bool, true, false, not, ◌&&◌, IsTrue, List, [], ◌∷◌, length, replicate, get_or, Option, Some, None, is_some, slice_get, refl, sym, ap, subst, ◌∙◌, true≢false, arith, inl, inr, take, option_map, ◌++◌}
use Rattle.std.specs.Prelude.{◌⊎◌, ◌||◌}
use Rattle.std.proofs.lemmas.Bool.{and_parts}
use Rattle.std.proofs.lemmas.List.{length-replicate}
use Rattle.std.proofs.lemmas.Nat.{mod-pow-add}
use mathlib.Core.Logic.{⊎_elim}
use Rattle.wasm_types.specs.trees.Types.{i32, array, i31, exn, ref, concrete, abstract, Abstract, FieldOf, InnerOf, StorageOf}
use Rattle.wasm_types.specs.trees.Trees.{TypeTree}
use Rattle.wasm_types.specs.trees.Below.{expanded}
use Rattle.wasm_types.specs.externs.declared.memory.MemoryType.{MemoryType}
use Rattle.wasm_operators_enums.specs.declared.numeric.NumericOperator.{NumericOperator}
use Rattle.wasm_operators_enums.specs.declared.control.ControlOperator.{ControlOperator}
use Rattle.wasm_operators_enums.specs.declared.control.ControlOperator.TheVariants as control
use Rattle.wasm_operators_enums.specs.declared.gc.GcOperator.{GcOperator}
use Rattle.wasm_operators_enums.specs.declared.gc.GcOperator.TheVariants as gc
use Rattle.wasm_operator_validator_rules.specs.Context.{Table}
use Rattle.wasm_operators_immediates.specs.declared.memory.MemArg.{MemArg}
use Rattle.wasm_operators_enums.specs.declared.memory.MemoryOperator.{MemoryOperator}
use Rattle.wasm_operators_enums.specs.declared.memory.MemoryOperator.TheVariants as memory
use Rattle.wasm_operators_enums.specs.declared.bulk.BulkOperator.{BulkOperator}
use Rattle.wasm_operators_enums.specs.declared.bulk.BulkOperator.TheVariants as bulk
use Rattle.wasm_operators_enums.specs.declared.vector.SimdOperator.{SimdOperator}
use Rattle.wasm_operators_enums.specs.declared.atomic.AtomicOperator.{AtomicOperator}
use Rattle.wasm_operators_enums.specs.declared.atomic.AtomicOperator.TheVariants as atomic
use Rattle.wasm_operators_enums.specs.Table.{info_of}
use Rattle.wasm_operators_enums.specs.Immediates.{immediates_of}
use Rattle.wasm_operators_enums.specs.Op as op
use Rattle.wasm_operators_enums.specs.Op.{Op, ExceptionTree}
use Rattle.wasm_operators_encoding.specs.expressions.Code.{Code, close, plain, nested, turn}
use Rattle.wasm_operator_validator_rules.specs.Operands.{ValueType}
use Rattle.wasm_operator_validator_rules.specs.InstructionTypes.{i32_type}
use Rattle.wasm_operator_validator_rules.specs.Numbers.{numbers}
use Rattle.wasm_operator_validator_soundness.specs.runs.Values.{Program, Value, number_value, ref_null, ref_object, ref_i31, is_null, IsAReference, Fits}
use Rattle.wasm_operator_validator_soundness.specs.runs.States.{Activation, State, Answer, Outcome, trapped, stuck, Move, done, asks, choose, found, pops}
use Rattle.wasm_operator_validator_soundness.specs.runs.Names.{Places, accessed, argument_of, computed}
use Rattle.wasm_operator_validator_soundness.specs.runs.Machine.{IsData, address, exchange, access, operate_vector, operate, execute, struct_fields, array_fields, IsArray, IsUnboxed, IsOf, object_under, write, may_trap, goes, writes as writes_field, operand_of, read, gives, IsWhole, IsPacked, FromData, invoke, call_reference, throw_reference}
use Rattle.wasm_operator_validator_soundness.specs.runs.ValidStates.{IsValidOutcome}
use Rattle.wasm_operator_validator_soundness.specs.runs.Soundness.{step}
use Rattle.wasm_operator_validator_store.specs.Stores.{MemoryInstance, Store, range, placed, nothing, bits_of, bytes_held, with_bytes, changed, memory_address, memory_at, memory_in, data_in, with_memory, ObjectInstance, field_at, table_in, segment_in, with_table}
use Rattle.wasm_operator_validator_store.specs.Atomics.{is_misaligned, AtomicAccess, notification, atomic_access}
use Rattle.wasm_operator_validator_store.specs.Memories.{number_of, bytes_of, past, Access, reads, writes, Reach, memory_access, simd_access, number_count, stored_type, stored_size, elements_from}
use Rattle.wasm_operator_validator_store.specs.ValidStores.{Each, IsByte}
use Rattle.wasm_operator_validator_store.specs.Giving.{is_shared_memory, Either, Traps, Gives, OrTraps, There, Reading, Writing, Accesses, Reaches, Outside, OrOutside, Exchanges, Aligned, ByOthers, GivesAtomic, GivesBulk, GivesOperator, GivesCode, OfObject, Tells, Makes, Reads, Writes, Unboxes, OfData, WritesTo, GivesGc, Calculates}
use Rattle.wasm_operator_validator_store.specs.Soundness.{AreValid}
use Rattle.wasm_operator_validator_store.specs.Determined.{is_unshared, reach_is_determined, exchange_is_determined, atomic_is_determined}
use Rattle.wasm_operator_validator_store.specs.Traps.{is_missing, object_of, stored_past, filled_past, access_past, reach_past, data_past, memory_past, exchange_at, exchange_past, exchange_traps, atomic_traps, bulk_traps, traps, exception_traps, code_traps, of_fields, is_unboxed, fields_of, reads_past, writes_past, elements_past, made_past, gc_traps, control_traps, elements_end, is_undefined}
use Rattle.wasm_operator_validator_store.specs.Exact.{bulk_is_exact, is_exact, code_is_exact, TrapsExactly, BytesAreKept, MemoriesAreKept, gc_is_exact, control_is_exact, exception_is_exact}
use Rattle.wasm_operator_validator_store.proofs.Lists.{none_some, placed_length}
use Rattle.wasm_operator_validator_store.proofs.Bytes.{range_length, range_missing, placed_missing, placed_range, placed_before, placed_after, bytes_length, bytes_back, elements_length}
use Rattle.wasm_operator_validator_store.proofs.Memories.{simd_carried}
use Rattle.wasm_operator_validator_store.proofs.Operators.{store_steps_sound}
use Rattle.wasm_operator_validator_store.specs.Integers.{Operation, integer_operation}
use Rattle.wasm_operator_validator_soundness.specs.runs.Progress.{can_trap}

-- ---- a step that traps, or has not what it asks for

pub record Falls (m : Move) : Type 0 where
  pub falls : (m.outcome ≡ trapped) ⊎ (m.outcome ≡ stuck)

pub found_falls : {A : Type 0} (o : Option A) (f : A → Move) → ((y : A) → Falls (f y)) → Falls (found o f)
found_falls None f h = record { falls = inr refl }
found_falls (Some y) f h = h y

pub asks_falls : (P : Type 0) (m : Move) → Falls m → Falls (asks P m)
asks_falls P m h = record { falls = h.falls }

may_fall : (b : Bool) (m : Move) → b ≡ true → Falls (choose b (done trapped) m)
may_fall true m e = record { falls = inl refl }
may_fall false m e = absurd (true≢false (sym e))

pub ends_trapped : (p : Program) (results : List ValueType) (o : Outcome) → IsValidOutcome p results o → (o ≡ trapped) ⊎ (o ≡ stuck) → o ≡ trapped
ends_trapped p results o v h = ⊎_elim (λ e. e) (λ e. absurd (subst (IsValidOutcome p results) e v)) h

no_host : {Q : Type 0} → IsTrue false → Q
no_host h = absurd (true≢false (sym h))

module _ (p : Program) (act : Activation) (acts : List Activation) (s : Store) (a : Answer) (u : Store) where
  abbrev x : State
  x = act ∷ acts

  abbrev at : ℕ → ℕ
  at n = bits_of (get_or act.innermost.values n nothing)

  abbrev on_top : Value
  on_top = get_or act.innermost.values 0 nothing

  -- ---- the answer traps

  missing_traps : {A : Type 0} (o : Option A) (F : A → Type 0) → is_missing o ≡ true → OrTraps p x s a u o F → a.traps ≡ true
  missing_traps None F e h = h.0
  missing_traps (Some y) F e h = absurd (true≢false (sym e))

  then_traps : {A : Type 0} (o : Option A) (F : A → Type 0) → ((y : A) → o ≡ Some y → F y → a.traps ≡ true) → OrTraps p x s a u o F → a.traps ≡ true
  then_traps None F f h = h.0
  then_traps (Some y) F f h = f y refl h

  -- either is past the end
  first_or : (b c : Bool) → (b || c) ≡ true → (b ≡ true) ⊎ (c ≡ true)
  first_or true c e = inl refl
  first_or false c e = inr e

  reading_apart : (y i n : ℕ) (F : List ℕ → Type 0) → IsTrue (is_unshared p y) → Reading p x s a u y i n F → OrTraps p x s a u (range (memory_in s y) i n) F
  reading_apart y i n F own h = by (is_shared_memory (slice_get p.«module».memories y)) own h
    where
      by : (c : Bool) → not c ≡ true → Either c ((IsTrue (past (length (memory_in s y)) i n) × Traps p x s a u) ⊎ ((bs : List ℕ) × (length bs ≡ n) × Each IsByte bs × F bs)) (OrTraps p x s a u (range (memory_in s y) i n) F) → OrTraps p x s a u (range (memory_in s y) i n) F
      by true own h = no_host own
      by false own h = h

  writing_apart : (y i : ℕ) (bs : List ℕ) → IsTrue (is_unshared p y) → Writing p x s a u y i bs → OrTraps p x s a u (placed (memory_in s y) i bs) (λ cs. Gives p x s a u [] (with_memory s y cs))
  writing_apart y i bs own h = by (is_shared_memory (slice_get p.«module».memories y)) own h
    where
      by : (c : Bool) → not c ≡ true → Either c ((IsTrue (past (length (memory_in s y)) i (length bs)) × Traps p x s a u) ⊎ Gives p x s a u [] s) (OrTraps p x s a u (placed (memory_in s y) i bs) (λ cs. Gives p x s a u [] (with_memory s y cs)))
          → OrTraps p x s a u (placed (memory_in s y) i bs) (λ cs. Gives p x s a u [] (with_memory s y cs))
      by true own h = no_host own
      by false own h = h

  written_past : (y i n : ℕ) (bs : List ℕ) → length bs ≡ n → IsTrue (is_unshared p y) → past (length (memory_in s y)) i n ≡ true → Writing p x s a u y i bs → a.traps ≡ true
  written_past y i n bs e own c h = missing_traps {A = List ℕ} (placed (memory_in s y) i bs) _ (placed_missing (memory_in s y) i bs ∙ ap (λ k. past (length (memory_in s y)) i k) e ∙ c) (writing_apart y i bs own h)

  access_trap : (m : MemArg) (k : Access) → IsTrue (is_unshared p m.memory) → access_past p s act m k ≡ true → Accesses p x s a u act m k → a.traps ≡ true
  access_trap m (reads ts n k f) own c h = missing_traps {A = List ℕ} (range (memory_in s m.memory) (at (length ts) + m.offset) k) _ (range_missing (memory_in s m.memory) (at (length ts) + m.offset) k ∙ c) (reading_apart m.memory (at (length ts) + m.offset) k _ own h)
  access_trap m (writes n k f) own c h = written_past m.memory (at 1 + m.offset) k (bytes_of k (f (at 0))) (bytes_length k (f (at 0))) own c h

  -- of a memory that no other thread uses
  others_trap : (m : MemArg) (F : Type 0) → IsTrue (is_unshared p m.memory) → (F → a.traps ≡ true) → ByOthers p x s a u act m F → a.traps ≡ true
  others_trap m F own f h = by (is_shared_memory (slice_get p.«module».memories m.memory)) own h
    where
      by : (c : Bool) → not c ≡ true → Either c (Outside p x s a u) F → a.traps ≡ true
      by true own h = no_host own
      by false own h = f h

  aligned_trap : (r : AtomicAccess) → IsTrue (is_unshared p r.argument.memory) → exchange_past p s act r ≡ true → Aligned p x s a u act r → a.traps ≡ true
  aligned_trap r own c h = by (is_misaligned (exchange_at p s act r) r.size)
      (first_or (is_misaligned (exchange_at p s act r) r.size) (memory_past p s act r.argument.memory (exchange_at p s act r) r.size) c) h
    where
      by : (t : Bool) → (t ≡ true) ⊎ (memory_past p s act r.argument.memory (exchange_at p s act r) r.size ≡ true)
          → Either t (Traps p x s a u) (Exchanges p x s a u act r) → a.traps ≡ true
      by true d h = h.0
      by false d h = ⊎_elim (λ e. absurd (true≢false (sym e)))
          (λ e. missing_traps {A = List ℕ} (range (memory_in s r.argument.memory) (exchange_at p s act r) r.size) _ (range_missing
          (memory_in s r.argument.memory) (exchange_at p s act r) r.size ∙ e)
          (reading_apart r.argument.memory (exchange_at p s act r) r.size _ own h)) d

  exchange_trap : (o : Option AtomicAccess) → IsTrue (exchange_is_determined p o) → exchange_traps p s act o ≡ true
      → There p x s a u o (Aligned p x s a u act) → a.traps ≡ true
  exchange_trap None own c h = no_host own
  exchange_trap (Some r) own c h = aligned_trap r own c h

  -- one of two, of which the first does not hold
  but_not : (b c : Bool) → not b ≡ true → (b || c) ≡ true → c ≡ true
  but_not true c own e = no_host own
  but_not false c own e = e

  reach_trap : (b : Bool) (o : Option Reach) → IsTrue (reach_is_determined p o) → reach_past p s act b o ≡ true → There p x s a u o (Reaches p x s a u act) → a.traps ≡ true
  reach_trap b None own c h = no_host own
  reach_trap b (Some r) own c h = access_trap r.argument r.access own c h

  -- elements that are read and written elsewhere
  two_trap : (xs ys : List Value) (i j n : ℕ) (z : List Value → Store) → (past (length xs) i n || past (length ys) j n) ≡ true
      → OrTraps p x s a u (range xs i n) (λ us. OrTraps p x s a u (placed ys j us) (λ ws. Gives p x s a u us (z ws))) → a.traps ≡ true
  two_trap xs ys i j n z c h = ⊎_elim
      (λ e. missing_traps {A = List Value} (range xs i n) _ (range_missing xs i n ∙ e) h)
      (λ e. then_traps {A = List Value} (range xs i n) _ (λ us q g. missing_traps {A = List Value} (placed ys j us) _ (placed_missing ys j us ∙ ap (λ l. past (length ys) j l) (range_length xs i n us q) ∙ e) g) h)
      (first_or (past (length xs) i n) (past (length ys) j n) c)

  -- ---- objects

  with_fields_of : (o : Option ObjectInstance) (f : List Value → Bool) (F : ObjectInstance → Type 0) → of_fields (option_map (λ (q : ObjectInstance). q.fields) o) f ≡ true → ((q : ObjectInstance) → f q.fields ≡ true → F q → a.traps ≡ true) → There p x s a u o F → a.traps ≡ true
  with_fields_of None f F c k h = absurd h
  with_fields_of (Some q) f F c k h = k q c h

  field_then : {A : Type 0} (o : Option A) (F : A → Type 0) → ((y : A) → F y → a.traps ≡ true) → There p x s a u o F → a.traps ≡ true
  field_then None F k h = absurd h
  field_then (Some y) F k h = k y h

  reads_trap : (signed : Bool) (v : Value) (i : ℕ) → reads_past p s act v i ≡ true → Reads p x s a u act signed v i → a.traps ≡ true
  reads_trap signed (ref_object k t) i c h = with_fields_of (slice_get s.objects k) (λ vs. is_missing (slice_get vs i)) _ c (λ o d g. field_then {A = FieldOf TypeTree} (field_at (expanded o.type) i) _ (λ f e. missing_traps {A = Value} (slice_get o.fields i) _ d e) g) h
  reads_trap signed v i c h = h.0

  writes_trap : (v : Value) (i : ℕ) (us given : List Value) → writes_past p s act v i us ≡ true → Writes p x s a u act v i us given → a.traps ≡ true
  writes_trap (ref_object k t) i us given c h = with_fields_of (slice_get s.objects k) (λ vs. is_missing (placed vs i us)) _ c (λ o d g. missing_traps {A = List Value} (placed o.fields i us) _ d g) h
  writes_trap v i us given c h = h.0

  -- as many elements as are written
  written_out : (v : Value) (j n : ℕ) (us : List Value) → length us ≡ n → elements_end p s act v j n ≡ true → writes_past p s act v j us ≡ true
  written_out v j n us e c = out (fields_of p s act v) c
    where
      out : (o : Option (List Value)) → of_fields o (λ vs. past (length vs) j n) ≡ true → of_fields o (λ vs. is_missing (placed vs j us)) ≡ true
      out None c = refl
      out (Some vs) c = placed_missing vs j us ∙ ap (λ l. past (length vs) j l) e ∙ c

  onto_trap : (xs : List Value) (i n j : ℕ) (v : Value) (b : Bool) → past (length xs) i n ≡ b → (b || elements_end p s act v j n) ≡ true → OrTraps p x s a u (range xs i n) (λ us. Writes p x s a u act v j us us) → a.traps ≡ true
  onto_trap xs i n j v true e c h = missing_traps {A = List Value} (range xs i n) _ (range_missing xs i n ∙ e) h
  onto_trap xs i n j v false e c h = then_traps {A = List Value} (range xs i n) _ (λ us q g. writes_trap v j us us (written_out v j n us (range_length xs i n us q) c) g) h

  copy_trap : (w v : Value) (i n j : ℕ) → (elements_end p s act w i n || elements_end p s act v j n) ≡ true → OfObject p x s a u w (λ k o. OrTraps p x s a u (range o.fields i n) (λ us. Writes p x s a u act v j us us)) → a.traps ≡ true
  copy_trap (ref_object k t) v i n j c h = by (slice_get s.objects k) c h
    where
      by : (o : Option ObjectInstance) → (of_fields (option_map (λ (q : ObjectInstance). q.fields) o) (λ vs. past (length vs) i n) || elements_end p s act v j n) ≡ true
          → There p x s a u o (λ (q : ObjectInstance). OrTraps p x s a u (range q.fields i n) (λ us. Writes p x s a u act v j us us)) → a.traps ≡ true
      by None c h = absurd h
      by (Some q) c h = onto_trap q.fields i n j v (past (length q.fields) i n) refl c h
  copy_trap w v i n j c h = h.0

  length_trap : (v : Value) → of_fields (fields_of p s act v) (λ vs. false) ≡ true → OfObject p x s a u v (λ k o. Tells p x s a u (length o.fields)) → a.traps ≡ true
  length_trap (ref_object k t) c h = with_fields_of (slice_get s.objects k) (λ vs. false) _ c (λ o d g. absurd (true≢false (sym d))) h
  length_trap v c h = h.0

  unboxed_trap : (signed : Bool) (v : Value) → not (is_unboxed v) ≡ true → Unboxes p x s a u act signed v → a.traps ≡ true
  unboxed_trap signed (ref_i31 b) c h = absurd (true≢false (sym c))
  unboxed_trap signed v c h = h.0

  elements_trap : (d i n : ℕ) (F : List Value → Type 0) (o : Option (FieldOf TypeTree)) → elements_past p s act d o i n ≡ true
      → OrTraps p x s a u o (λ (f : FieldOf TypeTree). OrTraps p x s a u (range (data_in s d) i (n * stored_size f.storage)) (λ bs. F (elements_from f.storage n bs))) → a.traps ≡ true
  elements_trap d i n F None c h = h.0
  elements_trap d i n F (Some f) c h = missing_traps {A = List ℕ} (range (data_in s d) i (n * stored_size f.storage)) _ (range_missing (data_in s d) i (n * stored_size f.storage) ∙ c) h

  -- elements that are made of bytes are written
  stored_trap : (k : ℕ) (q : ObjectInstance) (d j i n : ℕ) → stored_past p s act d (field_at (expanded q.type) 0) (length q.fields) j i n ≡ true → OfData p x s a u d q.type i n (λ ws. WritesTo p x s a u act k q j ws []) → a.traps ≡ true
  stored_trap k q d j i n c h = by (field_at (expanded q.type) 0) c h
    where
      by : (o : Option (FieldOf TypeTree)) → stored_past p s act d o (length q.fields) j i n ≡ true
          → OrTraps p x s a u o (λ (f : FieldOf TypeTree). OrTraps p x s a u (range (data_in s d) i (n * stored_size f.storage)) (λ bs. WritesTo p x s a u act k q j (elements_from f.storage n bs) [])) → a.traps ≡ true
      by None c h = h.0
      by (Some f) c h = ⊎_elim
          (λ e. missing_traps {A = List ℕ} (range (data_in s d) i (n * stored_size f.storage)) _ (range_missing (data_in s d) i (n * stored_size f.storage) ∙ e) h)
          (λ e. then_traps {A = List ℕ} (range (data_in s d) i (n * stored_size f.storage)) _ (λ bs r g. missing_traps {A = List Value} (placed q.fields j (elements_from f.storage n bs)) _
          (placed_missing q.fields j (elements_from f.storage n bs) ∙ ap (λ l. past (length q.fields) j l) (elements_length f.storage n bs) ∙ e) g) h)
          (first_or (data_past p s act d i (n * stored_size f.storage)) (past (length q.fields) j (number_count (stored_type f.storage) n)) c)

  filled_trap : (v : Value) (d j i n : ℕ) → filled_past p s act d (object_of p s act v) j i n ≡ true → OfObject p x s a u v (λ k o. OfData p x s a u d o.type i n (λ ws. WritesTo p x s a u act k o j ws [])) → a.traps ≡ true
  filled_trap (ref_object k t) d j i n c h = by (slice_get s.objects k) c h
    where
      by : (o : Option ObjectInstance) → filled_past p s act d o j i n ≡ true → There p x s a u o (λ (q : ObjectInstance). OfData p x s a u d q.type i n (λ ws. WritesTo p x s a u act k q j ws [])) → a.traps ≡ true
      by None c h = absurd h
      by (Some q) c h = stored_trap k q d j i n c h
  filled_trap v d j i n c h = h.0

  made_trap : (d i n : ℕ) (o : Option TypeTree) → made_past p s act d o i n ≡ true → There p x s a u o (λ t. OfData p x s a u d t i n (λ ws. Makes p x s a u t ws [])) → a.traps ≡ true
  made_trap d i n None c h = absurd h
  made_trap d i n (Some t) c h = elements_trap d i n (λ ws. Makes p x s a u t ws []) (field_at (expanded t) 0) c h

  -- ---- so does the step
  module _ (more : Code) where
    exchange_falls : (ts us : List ValueType) → a.traps ≡ true → Falls (exchange p a act acts ts us more)
    exchange_falls ts us e = asks_falls _ _ (may_fall a.traps _ e)

    access_falls : (o : Op) → a.traps ≡ true → Falls (access p a act acts o more)
    access_falls o e = found_falls {A = MemArg} (argument_of (immediates_of o)) _ (λ i. found_falls {A = MemoryType} (slice_get p.«module».memories i.memory) _ (λ t.
        found_falls {A = Places} (accessed (info_of o).name) _ (λ n. exchange_falls (address t.memory64 ∷ numbers n.takes) (numbers n.gives) e)))

    memory_falls : (o : MemoryOperator) → IsTrue (is_exact p on_top (op.Memory o)) → traps p s act (op.Memory o) ≡ true → GivesOperator p x s a u act (op.Memory o) → Falls (operate p a act acts (op.Memory o) more)
    memory_falls (memory.LocalGet n) own c h = no_host own
    memory_falls (memory.LocalSet n) own c h = no_host own
    memory_falls (memory.LocalTee n) own c h = no_host own
    memory_falls (memory.GlobalGet n) own c h = no_host own
    memory_falls (memory.GlobalSet n) own c h = no_host own
    memory_falls (memory.MemorySize n) own c h = no_host own
    memory_falls (memory.MemoryGrow n) own c h = no_host own
    memory_falls o own c h = access_falls (op.Memory o) (reach_trap false (memory_access o) own c h)

    vector_falls : (o : SimdOperator) (b : Bool) (r : Option Reach) → simd_access o ≡ r → IsTrue (reach_is_determined p r) → reach_past p s act b r ≡ true → OrOutside p x s a u act r (Reaches p x s a u act) → Falls (operate p a act acts (op.Simd o) more)
    vector_falls o b None e own c h = no_host own
    vector_falls o b (Some r) e own c h = subst (λ (i : Option MemArg). Falls (operate_vector p a act acts i (op.Simd o) more)) (sym (simd_carried o r e)) (access_falls (op.Simd o) (access_trap r.argument r.access own c h))

    atomic_falls : (o : AtomicOperator) → IsTrue (atomic_is_determined p o) → atomic_traps p s act o ≡ true → GivesAtomic p x s a u act o
        → Falls (operate p a act acts (op.Atomic o) more)
    atomic_falls atomic.AtomicFence own c h = absurd (true≢false (sym c))
    atomic_falls (atomic.MemoryAtomicNotify m) own c h = access_falls (op.Atomic (atomic.MemoryAtomicNotify m)) (others_trap m
        (Aligned p x s a u act (notification m)) own
        (aligned_trap (notification m) own (but_not (is_shared_memory (slice_get p.«module».memories m.memory)) (exchange_past p s act (notification m))
        own c)) h)
    atomic_falls (atomic.MemoryAtomicWait32 m) own c h = access_falls (op.Atomic (atomic.MemoryAtomicWait32 m)) (others_trap m (Traps p x s a u) own
        (λ g. g.0) h)
    atomic_falls (atomic.MemoryAtomicWait64 m) own c h = access_falls (op.Atomic (atomic.MemoryAtomicWait64 m)) (others_trap m (Traps p x s a u) own
        (λ g. g.0) h)
    atomic_falls o own c h = access_falls (op.Atomic o) (exchange_trap (atomic_access o) own c h)

    numeric_falls : (o : NumericOperator) (b : Bool) (k : Option Operation) → IsTrue (is_some k) → is_undefined p s act b k ≡ true
        → OrOutside p x s a u act k (Calculates p x s a u act) → Falls (operate p a act acts (op.Numeric o) more)
    numeric_falls o b None own c h = no_host own
    numeric_falls o b (Some r) own c h = found_falls {A = Places} (computed (info_of (op.Numeric o)).name) _
        (λ n. exchange_falls (numbers n.takes) (numbers n.gives) (missing_traps {A = ℕ} (r.value (at 1) (at 0)) _ c h))

    table_falls : (n : ℕ) (ts us : Table → List ValueType) → a.traps ≡ true → Falls (found (slice_get p.«module».tables n) (λ (t : Table). exchange p a act acts (ts t) (us t) more))
    table_falls n ts us e = found_falls {A = Table} (slice_get p.«module».tables n) _ (λ t. exchange_falls (ts t) (us t) e)

    abbrev Holding : Type 0
    Holding = InnerOf TypeTree → Option (List (FieldOf TypeTree))

    bulk_falls : (o : BulkOperator) → IsTrue (bulk_is_exact p o) → bulk_traps p s act o ≡ true → GivesBulk p x s a u act o → Falls (operate p a act acts (op.Bulk o) more)
    bulk_falls (bulk.MemoryInit d n) own c h =
        let t : a.traps ≡ true = ⊎_elim
        (λ e. missing_traps {A = List ℕ} (range (data_in s d) (at 1) (at 0)) _ (range_missing (data_in s d) (at 1) (at 0) ∙ e) h)
        (λ e. then_traps {A = List ℕ} (range (data_in s d) (at 1) (at 0)) _ (λ bs q g. written_past n (at 2) (at 0) bs (range_length (data_in s d) (at 1) (at 0) bs q) own e g) h)
        (first_or (data_past p s act d (at 1) (at 0)) (memory_past p s act n (at 2) (at 0)) c) in
        found_falls {A = MemoryType} (slice_get p.«module».memories n) _ (λ q. asks_falls _ _ (exchange_falls (address q.memory64 ∷ i32_type ∷ i32_type ∷ []) [] t))
    bulk_falls (bulk.MemoryCopy n m) own c h =
        let k = and_parts (is_unshared p n) (is_unshared p m) own in
        let g = reading_apart m (at 1) (at 0) (λ bs. Writing p x s a u n (at 2) bs) k.1 h in
        let t : a.traps ≡ true = ⊎_elim
        (λ e. missing_traps {A = List ℕ} (range (memory_in s m) (at 1) (at 0)) _ (range_missing (memory_in s m) (at 1) (at 0) ∙ e) g)
        (λ e. then_traps {A = List ℕ} (range (memory_in s m) (at 1) (at 0)) _ (λ bs q f. written_past n (at 2) (at 0) bs (range_length (memory_in s m) (at 1) (at 0) bs q) k.0 e f) g)
        (first_or (memory_past p s act m (at 1) (at 0)) (memory_past p s act n (at 2) (at 0)) c) in
        found_falls {A = MemoryType} (slice_get p.«module».memories n) _ (λ q. found_falls {A = MemoryType} (slice_get p.«module».memories m) _ (λ r. exchange_falls (address q.memory64 ∷ address r.memory64 ∷ address (q.memory64 && r.memory64) ∷ []) [] t))
    bulk_falls (bulk.MemoryFill n) own c h =
        let t : a.traps ≡ true = written_past n (at 2) (at 0) (replicate (at 0) (at 1 % 256)) (length-replicate {A = ℕ} (at 0) (at 1 % 256)) own c h in
        found_falls {A = MemoryType} (slice_get p.«module».memories n) _ (λ q. exchange_falls (address q.memory64 ∷ i32_type ∷ address q.memory64 ∷ []) [] t)
    bulk_falls (bulk.TableInit d n) own c h =
        let t = two_trap (segment_in s d) (table_in s n) (at 1) (at 2) (at 0) (with_table s n) c h in
        found_falls {A = ValueType} (slice_get p.«module».elements d) _ (λ q. found_falls {A = Table} (slice_get p.«module».tables n) _ (λ r. asks_falls _ _ (may_fall a.traps _ t)))
    bulk_falls (bulk.TableCopy n m) own c h =
        let t = two_trap (table_in s m) (table_in s n) (at 1) (at 2) (at 0) (with_table s n) c h in
        found_falls {A = Table} (slice_get p.«module».tables n) _ (λ q. found_falls {A = Table} (slice_get p.«module».tables m) _ (λ r. asks_falls _ _ (may_fall a.traps _ t)))
    bulk_falls (bulk.TableGet n) own c h = table_falls n (λ t. address t.table64 ∷ []) (λ t. t.element ∷ []) (missing_traps {A = Value} (slice_get (table_in s n) (at 0)) _ c h)
    bulk_falls (bulk.TableSet n) own c h = table_falls n (λ t. address t.table64 ∷ t.element ∷ []) (λ t. []) (missing_traps {A = List Value} (placed (table_in s n) (at 1) (take 1 act.innermost.values)) _ c h)
    bulk_falls (bulk.TableFill n) own c h = table_falls n (λ t. address t.table64 ∷ t.element ∷ address t.table64 ∷ []) (λ t. []) (missing_traps {A = List Value} (placed (table_in s n) (at 2) (replicate (at 0) (get_or act.innermost.values 1 nothing))) _ c h)
    bulk_falls o own c h = no_host own

    -- objects
    under_falls : (of : Holding) (ns : List ValueType) (n : ℕ) (ws : List Value) (f : List (FieldOf TypeTree) → List Value → Move) → a.traps ≡ true → Falls (object_under p a act acts of ns n ws f)
    under_falls of ns n ws f e = found_falls {A = TypeTree} (slice_get p.«module».types n) _ (λ t. found_falls {A = List (FieldOf TypeTree)} (of (expanded t)) _ (λ own. asks_falls _ _ (may_fall a.traps _ e)))

    write_falls : (of : Holding) (ns : List ValueType) (n i : ℕ) (v : Value) (us : List Value) → a.traps ≡ true → Falls (write p a act acts of ns n i v us more)
    write_falls of ns n i v us e = under_falls of ns n us (λ fs ws. found {A = FieldOf TypeTree} (slice_get fs i) (λ f. writes_field f (asks (Fits p v (operand_of f.storage)) (goes p a act acts ws more)))) e

    read_falls : (stored : StorageOf TypeTree → Type 0) (of : Holding) (ns : List ValueType) (n i : ℕ) → a.traps ≡ true → Falls (read p a act acts stored of ns n i more)
    read_falls stored of ns n i e = under_falls of ns n act.innermost.values (λ fs ws. found {A = FieldOf TypeTree} (slice_get fs i) (λ f. asks (stored f.storage) (gives p a (operand_of f.storage ∷ []) (λ rs. goes p a act acts (rs ++ ws) more)))) e

    field_falls : (n i : ℕ) → a.traps ≡ true → (vs : List Value) → Falls (pops vs (λ v ws. write p a act acts struct_fields [] n i v ws more))
    field_falls n i e [] = record { falls = inr refl }
    field_falls n i e (v ∷ ws) = write_falls struct_fields [] n i v ws e

    element_falls : (n : ℕ) → a.traps ≡ true → (vs : List Value) → Falls (pops vs (λ v ws. write p a act acts array_fields (i32_type ∷ []) n 0 v ws more))
    element_falls n e [] = record { falls = inr refl }
    element_falls n e (v ∷ ws) = write_falls array_fields (i32_type ∷ []) n 0 v ws e

    elements_fall : (n : ℕ) → a.traps ≡ true → (vs : List Value) → Falls (pops vs (λ c ws. asks (Fits p c i32_type) (pops ws (λ v us. write p a act acts array_fields (i32_type ∷ []) n 0 v us more))))
    elements_fall n e [] = record { falls = inr refl }
    elements_fall n e (c ∷ ws) = asks_falls _ _ (element_falls n e ws)

    number_falls : (q : Abstract) (is : Value → Type 0) → a.traps ≡ true → (vs : List Value) → Falls (pops vs (λ v ws. asks (IsOf p a act acts q v × is v) (may_trap p a (goes p a act acts (number_value i32 a.made ∷ ws) more))))
    number_falls q is e [] = record { falls = inr refl }
    number_falls q is e (v ∷ ws) = asks_falls _ _ (may_fall a.traps _ e)

    array_copy_falls : (n m : ℕ) → a.traps ≡ true → Falls (operate p a act acts (op.Gc (gc.ArrayCopy n m)) more)
    array_copy_falls n m t = found_falls {A = TypeTree} (slice_get p.«module».types m) _ (λ q. found_falls {A = List (FieldOf TypeTree)} (array_fields (expanded q)) _ (λ own. asks_falls _ _ (may_fall a.traps _ t)))

    array_init_falls : (n e : ℕ) → a.traps ≡ true → Falls (operate p a act acts (op.Gc (gc.ArrayInitElem n e)) more)
    array_init_falls n e t = found_falls {A = TypeTree} (slice_get p.«module».types n) _ (λ q. found_falls {A = List (FieldOf TypeTree)} (array_fields (expanded q)) _ (λ own. asks_falls _ _ (may_fall a.traps _ t)))

    elements_made_fall : (n e : ℕ) → a.traps ≡ true → Falls (operate p a act acts (op.Gc (gc.ArrayNewElem n e)) more)
    elements_made_fall n e t = found_falls {A = TypeTree} (slice_get p.«module».types n) _ (λ q. found_falls {A = List (FieldOf TypeTree)} (array_fields (expanded q)) _ (λ fs. asks_falls _ _ (may_fall a.traps _ t)))

    data_falls : (n d : ℕ) → a.traps ≡ true → Falls (operate p a act acts (op.Gc (gc.ArrayNewData n d)) more)
    data_falls n d e = found_falls {A = TypeTree} (slice_get p.«module».types n) _ (λ t. found_falls {A = List (FieldOf TypeTree)} (array_fields (expanded t)) _ (λ fs. asks_falls _ _ (asks_falls _ _ (may_fall a.traps _ e))))

    bytes_written_fall : (n d : ℕ) → a.traps ≡ true → Falls (operate p a act acts (op.Gc (gc.ArrayInitData n d)) more)
    bytes_written_fall n d e = under_falls array_fields (i32_type ∷ i32_type ∷ i32_type ∷ []) n act.innermost.values (λ fs ws. found {A = FieldOf TypeTree} (slice_get fs 0) (λ f. writes_field f (asks (FromData p a act acts d fs) (goes p a act acts ws more)))) e

    gc_falls : (o : GcOperator) → IsTrue (gc_is_exact o) → gc_traps p s act o ≡ true → GivesGc p x s a u act o → Falls (operate p a act acts (op.Gc o) more)
    gc_falls (gc.StructGet n i) own c h = read_falls IsWhole struct_fields [] n i (reads_trap false _ i c h)
    gc_falls (gc.StructGetS n i) own c h = read_falls IsPacked struct_fields [] n i (reads_trap true _ i c h)
    gc_falls (gc.StructGetU n i) own c h = read_falls IsPacked struct_fields [] n i (reads_trap false _ i c h)
    gc_falls (gc.StructSet n i) own c h = field_falls n i (writes_trap _ i _ [] c h) act.innermost.values
    gc_falls (gc.ArrayGet n) own c h = read_falls IsWhole array_fields (i32_type ∷ []) n 0 (reads_trap false _ _ c h)
    gc_falls (gc.ArrayGetS n) own c h = read_falls IsPacked array_fields (i32_type ∷ []) n 0 (reads_trap true _ _ c h)
    gc_falls (gc.ArrayGetU n) own c h = read_falls IsPacked array_fields (i32_type ∷ []) n 0 (reads_trap false _ _ c h)
    gc_falls (gc.ArraySet n) own c h = element_falls n (writes_trap _ _ _ [] c h) act.innermost.values
    gc_falls (gc.ArrayFill n) own c h = elements_fall n (writes_trap _ _ _ [] c h) act.innermost.values
    gc_falls gc.ArrayLen own c h = number_falls array IsArray (length_trap _ c h) act.innermost.values
    gc_falls gc.I31GetS own c h = number_falls i31 IsUnboxed (unboxed_trap true _ c h) act.innermost.values
    gc_falls gc.I31GetU own c h = number_falls i31 IsUnboxed (unboxed_trap false _ c h) act.innermost.values
    gc_falls (gc.ArrayCopy n m) own c h = array_copy_falls n m (copy_trap (get_or act.innermost.values 2 nothing) (get_or act.innermost.values 4 nothing) (at 1) (at 0) (at 3) c h)
    gc_falls (gc.ArrayInitElem n e) own c h = array_init_falls n e (onto_trap (segment_in s e) (at 1) (at 0) (at 2) (get_or act.innermost.values 3 nothing) (past (length (segment_in s e)) (at 1) (at 0)) refl c h)
    gc_falls (gc.ArrayNewElem n e) own c h = elements_made_fall n e (missing_traps {A = List Value} (range (segment_in s e) (at 1) (at 0)) _ (range_missing (segment_in s e) (at 1) (at 0) ∙ c) h)
    gc_falls (gc.ArrayNewData n d) own c h = data_falls n d (made_trap d _ _ (slice_get p.«module».types n) c h)
    gc_falls (gc.ArrayInitData n d) own c h = bytes_written_fall n d (filled_trap (get_or act.innermost.values 3 nothing) d (at 2) (at 1) (at 0) c h)
    gc_falls o own c h = no_host own

    null_falls : (vs : List Value) → is_null (get_or vs 0 nothing) ≡ true → Falls (pops vs (λ v ws. asks (IsAReference v) (choose (is_null v) (done trapped) (goes p a act acts (v ∷ ws) more))))
    null_falls [] e = record { falls = inr refl }
    null_falls (v ∷ ws) e = asks_falls _ _ (may_fall (is_null v) _ e)

    invoked_null : (tail : Bool) (v : Value) (ws : List Value) → is_null v ≡ true → Falls (invoke p a act acts tail v ws more)
    invoked_null tail (ref_null q k) ws e = record { falls = inl refl }
    invoked_null tail v ws e = absurd (true≢false (sym e))

    called_null : (tail : Bool) (t : TypeTree) (vs : List Value) → is_null (get_or vs 0 nothing) ≡ true → Falls (pops vs (λ v ws. asks (Fits p v (ref true (concrete t))) (invoke p a act acts tail v ws more)))
    called_null tail t [] e = record { falls = inr refl }
    called_null tail t (v ∷ ws) e = asks_falls _ _ (invoked_null tail v ws e)

    call_falls : (tail : Bool) (n : ℕ) → is_null on_top ≡ true → Falls (call_reference p a act acts tail n more)
    call_falls tail n e = found_falls {A = TypeTree} (slice_get p.«module».types n) _ (λ t. called_null tail t act.innermost.values e)

    thrown_null : (v : Value) → is_null v ≡ true → Falls (throw_reference p a act acts v)
    thrown_null (ref_null q k) e = record { falls = inl refl }
    thrown_null v e = absurd (true≢false (sym e))

    throw_falls : (vs : List Value) → is_null (get_or vs 0 nothing) ≡ true → Falls (pops vs (λ v ws. asks (Fits p v (ref true (abstract false exn))) (throw_reference p a act acts v)))
    throw_falls [] e = record { falls = inr refl }
    throw_falls (v ∷ ws) e = asks_falls _ _ (thrown_null v e)

    exception_falls : (o : ExceptionTree) → IsTrue (exception_is_exact o) → exception_traps p s act o ≡ true → Falls (operate p a act acts (op.Exception o) more)
    exception_falls op.ThrowRef own c = throw_falls act.innermost.values c
    exception_falls o own c = no_host own

    control_falls : (o : ControlOperator) → IsTrue (control_is_exact on_top o) → control_traps p s act o ≡ true → Falls (operate p a act acts (op.Control o) more)
    control_falls control.Unreachable own c = record { falls = inl refl }
    control_falls control.RefAsNonNull own c = null_falls act.innermost.values c
    control_falls (control.CallRef n) own c = call_falls false n own
    control_falls (control.ReturnCallRef n) own c = call_falls true n own
    control_falls o own c = no_host own

    operator_falls : (o : Op) → IsTrue (is_exact p on_top o) → traps p s act o ≡ true → GivesOperator p x s a u act o → Falls (operate p a act acts o more)
    operator_falls (op.Memory o) own c h = memory_falls o own c h
    operator_falls (op.Simd o) own c h = vector_falls o _ (simd_access o) refl own c h
    operator_falls (op.Bulk o) own c h = bulk_falls o own c h
    operator_falls (op.Gc o) own c h = gc_falls o own c h
    operator_falls (op.Control o) own c h = control_falls o own c
    operator_falls (op.Exception o) own c h = exception_falls o own c
    operator_falls (op.Atomic o) own c h = atomic_falls o own c h
    operator_falls (op.Numeric o) own c h = numeric_falls o (can_trap (op.Numeric o)) (integer_operation o) own c h
    operator_falls o own c h = no_host own

  code_falls : (c : Code) → IsTrue (code_is_exact p on_top c) → code_traps p s act c ≡ true → GivesCode p x s a u act c → Falls (execute p a act acts c)
  code_falls (plain o more) own t h = operator_falls more o own t h
  code_falls (nested o body more) own t h = no_host own
  code_falls (close o) own t h = no_host own
  code_falls (turn o more) own t h = no_host own

pub traps_exactly : TrapsExactly
traps_exactly p results [] s a u valid v g own t = absurd g
traps_exactly p results (act ∷ acts) s a u valid v g own t =
    ends_trapped p results (step p (act ∷ acts) a).outcome (store_steps_sound p results (act ∷ acts) s a u valid v g).outcome
    (code_falls p act acts s a u act.innermost.code own t g).falls

-- ---- bytes

there_if : {A : Type 0} (o : Option A) (b : Bool) → is_missing o ≡ b → is_some o ≡ not b
there_if None b e = ap not e
there_if (Some y) b e = ap not e

next_byte : (k b n : ℕ) → n ≡ b / 256 % 2 ^ (8 * k) → b % 256 + 256 * n ≡ b % 2 ^ (8 * suc k)
next_byte k b n e =
    let same : 8 * k + 8 ≡ 8 * suc k = omega arith in
    let split : b % 2 ^ (8 * k + 8) ≡ (b / 2 ^ 8 % 2 ^ (8 * k)) * 2 ^ 8 + b % 2 ^ 8 = mod-pow-add b (8 * k) 8 in
    omega (arith, e, split, ap (λ m. b % 2 ^ m) same)

number_bits : (k b : ℕ) → number_of (bytes_of k b) ≡ b % 2 ^ (8 * k)
number_bits zero b = omega arith
number_bits (suc k) b = next_byte k b (number_of (bytes_of k (b / 256))) (number_bits k (b / 256))

pub bytes_kept : BytesAreKept
bytes_kept = record {
  there = λ bs i n. there_if {A = List ℕ} (range bs i n) (past (length bs) i n) (range_missing bs i n);
  fits = λ bs i cs. there_if {A = List ℕ} (placed bs i cs) (past (length bs) i (length cs)) (placed_missing bs i cs);
  size = placed_length;
  written = placed_range;
  before = placed_before;
  after = placed_after;
  number = number_bits;
  bytes = bytes_back;
}

changed_there : (bs : List ℕ) (ms : List MemoryInstance) (k : ℕ) (m : MemoryInstance) → slice_get ms k ≡ Some m → bytes_held (slice_get (changed (with_bytes bs) ms k) k) ≡ bs
changed_there bs [] k m e = absurd (none_some m e)
changed_there bs (n ∷ ms) zero m e = refl
changed_there bs (n ∷ ms) (suc k) m e = changed_there bs ms k m e

changed_else : (bs : List ℕ) (ms : List MemoryInstance) (k j : ℕ) → (k ≡ j → ⊥) → slice_get (changed (with_bytes bs) ms k) j ≡ slice_get ms j
changed_else bs [] k j d = refl
changed_else bs (n ∷ ms) zero zero d = absurd (d refl)
changed_else bs (n ∷ ms) zero (suc j) d = refl
changed_else bs (n ∷ ms) (suc k) zero d = refl
changed_else bs (n ∷ ms) (suc k) (suc j) d = changed_else bs ms k j (λ e. d (ap suc e))

changed_length : (bs : List ℕ) (ms : List MemoryInstance) (k : ℕ) → length (changed (with_bytes bs) ms k) ≡ length ms
changed_length bs [] k = refl
changed_length bs (n ∷ ms) zero = refl
changed_length bs (n ∷ ms) (suc k) = ap suc (changed_length bs ms k)

-- the addresses are as they were, and so is that at which there is none
address_still : (s : Store) (x y : ℕ) (bs : List ℕ) → memory_address (with_memory s x bs) y ≡ memory_address s y
address_still s x y bs = ap (λ n. get_or s.addresses.memories y n) (changed_length bs s.memories (memory_address s x))

pub memories_kept : MemoriesAreKept
memories_kept = record {
  same = λ s x bs m e. ap (λ k. bytes_held (slice_get (changed (with_bytes bs) s.memories (memory_address s x)) k)) (address_still s x x bs) ∙ changed_there bs s.memories (memory_address s x) m e;
  others = λ s x y bs d. ap (λ k. bytes_held (slice_get (changed (with_bytes bs) s.memories (memory_address s x)) k)) (address_still s x y bs) ∙ ap bytes_held (changed_else bs s.memories (memory_address s x) (memory_address s y) d);
}
