-- That a store leaves nothing open: of two answers to one step, all that the step reads is the same.
use Rattle.std.proofs.Common.{◌≡◌, ℕ, suc, ◌+◌, ◌*◌, ◌%◌, Bool, true, false, not, ◌&&◌, IsTrue, List, [], ◌∷◌, ◌++◌, length, take, replicate, get_or, Option, Some, None, if◌then◌else◌, slice_get, refl, sym, ap, subst, ◌∙◌, true≢false, arith, is_some}
use Rattle.std.specs.Prelude.{◌↔◌, ◌⊎◌, flat_map}
use Rattle.std.proofs.lemmas.Bool.{and_parts}
use Rattle.wasm_types.specs.trees.Types.{i32, array, i31, extern, any, eq, HeapOf, FieldOf, ref, concrete, abstract, exn}
use Rattle.wasm_types.specs.trees.Trees.{TypeTree}
use Rattle.wasm_types.specs.externs.declared.memory.MemoryType.{MemoryType}
use Rattle.wasm_types.specs.trees.Below.{expanded}
use Rattle.wasm_types.specs.values.declared.heap.HeapType.{HeapType}
use Rattle.wasm_operators_enums.specs.declared.numeric.NumericOperator.{NumericOperator}
use Rattle.wasm_operators_enums.specs.declared.control.ControlOperator.{ControlOperator}
use Rattle.wasm_operators_enums.specs.declared.control.ControlOperator.TheVariants as control
use Rattle.wasm_operators_enums.specs.declared.memory.MemoryOperator.{MemoryOperator}
use Rattle.wasm_operators_enums.specs.declared.memory.MemoryOperator.TheVariants as memory
use Rattle.wasm_operators_enums.specs.declared.constant.ConstOperator.{ConstOperator}
use Rattle.wasm_operators_enums.specs.declared.constant.ConstOperator.TheVariants as const
use Rattle.wasm_operators_enums.specs.declared.bulk.BulkOperator.{BulkOperator}
use Rattle.wasm_operators_enums.specs.declared.bulk.BulkOperator.TheVariants as bulk
use Rattle.wasm_operators_enums.specs.declared.gc.GcOperator.{GcOperator}
use Rattle.wasm_operators_enums.specs.declared.gc.GcOperator.TheVariants as gc
use Rattle.wasm_operators_enums.specs.declared.vector.SimdOperator.{SimdOperator}
use Rattle.wasm_operators_enums.specs.declared.atomic.AtomicOperator.{AtomicOperator}
use Rattle.wasm_operators_enums.specs.declared.atomic.AtomicOperator.TheVariants as atomic
use Rattle.wasm_operators_immediates.specs.declared.memory.MemArg.{MemArg}
use Rattle.wasm_operators_enums.specs.Immediates.{immediates_of}
use Rattle.wasm_operators_enums.specs.Table.{info_of}
use Rattle.wasm_operators_enums.specs.Op as op
use Rattle.wasm_operators_enums.specs.Op.{Op, ParametricTree, ExceptionTree}
use Rattle.wasm_operators_encoding.specs.expressions.Code.{Code, close, plain, nested, turn}
use Rattle.wasm_operator_validator_rules.specs.Operands.{ValueType}
use Rattle.wasm_operator_validator_rules.specs.Context.{Table, Global, Signature}
use Rattle.wasm_operator_validator_rules.specs.InstructionTypes.{i32_type}
use Rattle.wasm_operator_validator_rules.specs.Numbers.{numbers}
use Rattle.wasm_operator_validator_soundness.specs.runs.Values.{Body, Program, Value, number_value, ref_null, ref_function, ref_object, ref_i31, ref_extern, ref_exn, is_null, IsAReference, IsNumberValue, least_type, Fits}
use Rattle.wasm_operator_validator_soundness.specs.runs.States.{behind, no_handlers, Outcome, next, Exception, Activation, State, Answer}
use Rattle.wasm_operator_validator_soundness.specs.runs.States.{trapped, Move, done, asks, allows, choose, found, pops}
use Rattle.wasm_operator_validator_soundness.specs.runs.Names.{Places, computed, accessed, argument_of}
use Rattle.wasm_operator_validator_soundness.specs.runs.Machine.{operand_of, operands_of, struct_fields, array_fields, IsWhole, IsPacked, IsArray, IsUnboxed, IsComparable, IsOf, object_under, write, cast_top, HaveDefaults, AreStoredAlike, IsData, FromData, writes as writes_field, either_part, function_type, body_of, meant_heap, meant, may_trap, takes, address, IsCallable, call_reference, call_indirect, copies, invoke, goes, exchange, select, branch_if, branch, throw_reference, throw_again, caught_at, stores_from, operate, compute, access, operate_vector, label_at, end, opens, enter, execute}
use Rattle.wasm_operator_validator_soundness.proofs.Progress.{caught_whatever}
use Rattle.wasm_operator_validator_store.specs.Stores.{ObjectInstance, ExceptionInstance, Store, range, placed, nothing, bits_of, truth, field_at, table_in, memory_in, segment_in, data_in, with_table, with_memory, without_data, without_segment}
use Rattle.wasm_operator_validator_store.specs.Atomics.{is_misaligned, AtomicAccess, number_given, notification, atomic_access}
use Rattle.wasm_operator_validator_store.specs.Memories.{number_of, bytes_of, past, Access, reads, writes, Reach, memory_access, simd_access, stored_size, elements_from}
use Rattle.wasm_operator_validator_store.specs.ValidStores.{Each, IsByte}
use Rattle.wasm_operator_validator_store.specs.Giving.{is_shared_memory, shared, Reading, Writing, Sized, size_of, OfData, Accesses, Reaches, OrOutside, Either, Stays, Traps, Gives, Tells, OrTraps, There, OfObject, Makes, ThrowsAgain, Begins, Calls, CallsIndirect, ThrowsReference, Reads, WritesTo, Writes, MakesNamed, Passes, TellsOf, ConvertsToAny, Unboxes, Outside, atomic_address, Replaces, Exchanges, Aligned, ByOthers, GivesControl, GivesParametric, GivesException, GivesMemory, GivesBulk, GivesGc, GivesConstant, GivesAtomic, GivesOperator, GivesBlock, GivesCode, Calculates}
use Rattle.wasm_operator_validator_store.specs.Soundness.{StoreRuns}
use Rattle.wasm_operator_validator_store.specs.Determined.{is_unshared, reach_is_determined, exchange_is_determined, atomic_is_determined, is_own, calls_own, calls_own_there, control_is_determined, memory_is_determined, bulk_is_determined, gc_is_determined, is_determined, code_is_determined, StoreStepsAreDetermined, StoreRunsAreDetermined}
use Rattle.wasm_operator_validator_store.proofs.Memories.{simd_carried}
use Rattle.wasm_operator_validator_store.proofs.Same.{Same, same_found, same_pops, same_choose, same_may, trapped_anyway, same_out, same_return, same_throw, same_again, same_exchange, same_opens, same_branch, same_branch_if, same_invoke, same_call, same_under, same_read, same_write, same_make, same_cast_top, same_cast_from, same_number, same_named, same_number_from, same_convert, same_select}
use Rattle.wasm_operator_validator_store.specs.Integers.{Operation, integer_operation}

-- two that are true together are the same
same_truth : (c d : Bool) (P : Type 0) → IsTrue c ↔ P → IsTrue d ↔ P → c ≡ d
same_truth true true P g h = refl
same_truth false false P g h = refl
same_truth true false P g h = sym (h.1 (g.0 refl))
same_truth false true P g h = g.1 (h.0 refl)

no_host : {Q : Type 0} → IsTrue false → Q
no_host h = absurd (true≢false (sym h))

-- ---- what the answers have in common

module _ (p : Program) (x : State) (s : Store) (a b : Answer) (u w : Store) where
  -- what is given, whether there is a trap, and the store
  abbrev Fixed : Type 0
  Fixed = (a.values ≡ b.values) × (a.traps ≡ b.traps) × (u ≡ w)

  -- and what is made, unless there is a trap
  abbrev Made : Type 0
  Made = Fixed × (a.traps ≡ false → a.made ≡ b.made)

  stays_fixed : Stays p x s a u → Stays p x s b w → u ≡ w
  stays_fixed g h = g.1 ∙ sym h.1

  traps_fixed : Traps p x s a u → Traps p x s b w → Fixed
  traps_fixed g h = (g.1.0 ∙ sym h.1.0, g.0 ∙ sym h.0, stays_fixed g.1 h.1)

  traps_made : Traps p x s a u → Traps p x s b w → Made
  traps_made g h = (traps_fixed g h, λ e. absurd (true≢false (sym g.0 ∙ e)))

  gives_fixed : (vs : List Value) (z : Store) → Gives p x s a u vs z → Gives p x s b w vs z → Fixed
  gives_fixed vs z g h = (g.0 ∙ sym h.0, g.1 ∙ sym h.1, g.2 ∙ sym h.2)

  tells_made : (n : ℕ) → Tells p x s a u n → Tells p x s b w n → Made
  tells_made n g h = (gives_fixed [] s g.1 h.1, λ e. g.0 ∙ sym h.0)

  or_traps : {A Q : Type 0} (o : Option A) (F G : A → Type 0) → (Traps p x s a u → Traps p x s b w → Q) → ((y : A) → F y → G y → Q) → OrTraps p x s a u o F → OrTraps p x s b w o G → Q
  or_traps None F G t f g h = t g h
  or_traps (Some y) F G t f g h = f y g h

  there : {A Q : Type 0} (o : Option A) (F G : A → Type 0) → ((y : A) → F y → G y → Q) → There p x s a u o F → There p x s b w o G → Q
  there None F G f g h = absurd g
  there (Some y) F G f g h = f y g h

  of_object : {Q : Type 0} (v : Value) (F G : ℕ → ObjectInstance → Type 0) → (Traps p x s a u → Traps p x s b w → Q) → ((k : ℕ) (o : ObjectInstance) → F k o → G k o → Q) → OfObject p x s a u v F → OfObject p x s b w v G → Q
  of_object (ref_object k t) F G r f g h = there (slice_get s.objects k) (F k) (G k) (f k) g h
  of_object v F G r f g h = r g h

  -- ---- objects, at one address
  abbrev Object : Type 0
  Object = Fixed × (a.made ≡ b.made)

  makes_fixed : (t : TypeTree) (vs given : List Value) → Makes p x s a u t vs given → Makes p x s b w t vs given → Object
  makes_fixed t vs given g h = (gives_fixed given _ g.1 h.1, g.0 ∙ sym h.0)

  named_fixed : (act : Activation) (n : ℕ) (fields : TypeTree → List Value) (given : List Value) → MakesNamed p x s a u act n fields given → MakesNamed p x s b w act n fields given → Object
  named_fixed act n fields given g h = there {A = TypeTree} {Q = Object} (slice_get p.«module».types n) (λ t. Makes p x s a u t (fields t) given) (λ t. Makes p x s b w t (fields t) given) (λ t. makes_fixed t (fields t) given) g h

  reads_fixed : (act : Activation) (signed : Bool) (v : Value) (i : ℕ) → Reads p x s a u act signed v i → Reads p x s b w act signed v i → Fixed
  reads_fixed act signed v i g h = of_object {Q = Fixed} v _ _ traps_fixed (λ k o. there {A = FieldOf TypeTree} {Q = Fixed} (field_at (expanded o.type) i) _ _ (λ f. or_traps {A = Value} {Q = Fixed} (slice_get o.fields i) _ _ traps_fixed (λ c. gives_fixed _ s))) g h

  written_fixed : (act : Activation) (k : ℕ) (o : ObjectInstance) (i : ℕ) (us given : List Value) → WritesTo p x s a u act k o i us given → WritesTo p x s b w act k o i us given → Fixed
  written_fixed act k o i us given g h = or_traps {A = List Value} {Q = Fixed} (placed o.fields i us) _ _ traps_fixed (λ vs. gives_fixed given _) g h

  writes_fixed : (act : Activation) (v : Value) (i : ℕ) (us given : List Value) → Writes p x s a u act v i us given → Writes p x s b w act v i us given → Fixed
  writes_fixed act v i us given g h = of_object {Q = Fixed} v _ _ traps_fixed (λ k o. written_fixed act k o i us given) g h

  unboxed_fixed : (act : Activation) (signed : Bool) (v : Value) → Unboxes p x s a u act signed v → Unboxes p x s b w act signed v → Made
  unboxed_fixed act signed (ref_i31 c) g h = tells_made _ g h
  unboxed_fixed act signed v g h = traps_made g h

  passes_fixed : (act : Activation) (h : HeapType) → Passes p x s a u act h → Passes p x s b w act h → a.condition ≡ b.condition
  passes_fixed act h g i = there {A = HeapOf TypeTree} {Q = a.condition ≡ b.condition} (meant_heap p.«module» h) _ _ (λ k. same_truth a.condition b.condition (Fits p (get_or act.innermost.values 0 nothing) (ref false k))) g i

  to_any_fixed : (act : Activation) (v : Value) → ConvertsToAny p x s a u act v → ConvertsToAny p x s b w act v → (a.values ≡ b.values) × (u ≡ w)
  to_any_fixed act (ref_null c k) g h = (g.0 ∙ sym h.0, stays_fixed g h)
  to_any_fixed act (ref_extern k) g h = there {A = Value} {Q = (a.values ≡ b.values) × (u ≡ w)} (slice_get s.externs k) _ _ (λ v c d. let f = gives_fixed (v ∷ []) s c d in (f.0, f.2)) g h
  to_any_fixed act v g h = absurd g

  -- ---- exceptions, as far as they are read
  abbrev Thrown : Type 0
  Thrown = (a.made ≡ b.made) × (a.values ≡ b.values) × (u ≡ w) × (a.leaves ≡ b.leaves) × (a.index ≡ b.index)

  again_fixed : (k : ℕ) → ThrowsAgain p x s a u k → ThrowsAgain p x s b w k → Thrown
  again_fixed k g h = there {A = ExceptionInstance} {Q = Thrown} (slice_get s.exceptions k) _ _ (λ y c d. (c.0 ∙ sym d.0, c.1 ∙ sym d.1, c.2 ∙ sym d.2, c.3.0 ∙ sym d.3.0, c.3.1 ∙ sym d.3.1)) g h

  -- ---- memories that no other thread uses

  reading_fixed : {Q : Type 0} (y i n : ℕ) (F G : List ℕ → Type 0) → IsTrue (is_unshared p y) → (Traps p x s a u → Traps p x s b w → Q) → ((bs : List ℕ) → F bs → G bs → Q) → Reading p x s a u y i n F → Reading p x s b w y i n G → Q
  reading_fixed {Q} y i n F G own t f g h = at (is_shared_memory (slice_get p.«module».memories y)) own g h
    where
      at : (c : Bool) → not c ≡ true → Either c ((IsTrue (past (length (memory_in s y)) i n) × Traps p x s a u) ⊎ ((bs : List ℕ) × (length bs ≡ n) × Each IsByte bs × F bs)) (OrTraps p x s a u (range (memory_in s y) i n) F)
          → Either c ((IsTrue (past (length (memory_in s y)) i n) × Traps p x s b w) ⊎ ((bs : List ℕ) × (length bs ≡ n) × Each IsByte bs × G bs)) (OrTraps p x s b w (range (memory_in s y) i n) G) → Q
      at true own g h = no_host own
      at false own g h = or_traps {A = List ℕ} {Q = Q} (range (memory_in s y) i n) F G t f g h

  writing_fixed : (y i : ℕ) (bs : List ℕ) → IsTrue (is_unshared p y) → Writing p x s a u y i bs → Writing p x s b w y i bs → Fixed
  writing_fixed y i bs own g h = at (is_shared_memory (slice_get p.«module».memories y)) own g h
    where
      at : (c : Bool) → not c ≡ true → Either c ((IsTrue (past (length (memory_in s y)) i (length bs)) × Traps p x s a u) ⊎ Gives p x s a u [] s) (OrTraps p x s a u (placed (memory_in s y) i bs) (λ cs. Gives p x s a u [] (with_memory s y cs)))
          → Either c ((IsTrue (past (length (memory_in s y)) i (length bs)) × Traps p x s b w) ⊎ Gives p x s b w [] s) (OrTraps p x s b w (placed (memory_in s y) i bs) (λ cs. Gives p x s b w [] (with_memory s y cs))) → Fixed
      at true own g h = no_host own
      at false own g h = or_traps {A = List ℕ} {Q = Fixed} (placed (memory_in s y) i bs) _ _ traps_fixed (λ cs. gives_fixed [] (with_memory s y cs)) g h

  access_fixed : (act : Activation) (m : MemArg) (k : Access) → IsTrue (is_unshared p m.memory) → Accesses p x s a u act m k → Accesses p x s b w act m k → Fixed
  access_fixed act m (reads ts n k f) own g h = reading_fixed {Q = Fixed} m.memory (bits_of (get_or act.innermost.values (length ts) nothing) + m.offset) k _ _ own traps_fixed (λ bs. gives_fixed (number_value n (f (bits_of (get_or act.innermost.values 0 nothing)) bs) ∷ []) s) g h
  access_fixed act m (writes n k f) own g h = writing_fixed m.memory (bits_of (get_or act.innermost.values 1 nothing) + m.offset) (bytes_of k (f (bits_of (get_or act.innermost.values 0 nothing)))) own g h

  reach_fixed : (act : Activation) (o : Option Reach) → IsTrue (reach_is_determined p o) → There p x s a u o (Reaches p x s a u act) → There p x s b w o (Reaches p x s b w act) → Fixed
  reach_fixed act None own g h = absurd g
  reach_fixed act (Some q) own g h = access_fixed act q.argument q.access own g h

  -- of a memory that no other thread uses, the second of two
  own_fixed : {Q : Type 0} (y : ℕ) (D E F G : Type 0) → IsTrue (is_unshared p y) → (F → G → Q) → Either (shared p x s a u y) D F
      → Either (shared p x s b w y) E G → Q
  own_fixed {Q} y D E F G own f g h = at (is_shared_memory (slice_get p.«module».memories y)) own g h
    where
      at : (c : Bool) → not c ≡ true → Either c D F → Either c E G → Q
      at true own g h = no_host own
      at false own g h = f g h

  others_fixed : {Q : Type 0} (act : Activation) (m : MemArg) (F G : Type 0) → IsTrue (is_unshared p m.memory) → (F → G → Q) → ByOthers p x s a u act m F
      → ByOthers p x s b w act m G → Q
  others_fixed {Q} act m F G own f g h = own_fixed {Q = Q} m.memory (Outside p x s a u) (Outside p x s b w) F G own f g h

  replaced_fixed : (act : Activation) (r : AtomicAccess) (c : Option ℕ) (vs : List Value) → IsTrue (is_unshared p r.argument.memory)
      → Replaces p x s a u act r c vs → Replaces p x s b w act r c vs → Fixed
  replaced_fixed act r None vs own g h = gives_fixed vs s g h
  replaced_fixed act r (Some c) vs own g h = own_fixed {Q = Fixed} r.argument.memory (Gives p x s a u vs s) (Gives p x s b w vs s) _ _ own
      (or_traps {A = List ℕ} {Q = Fixed} (placed (memory_in s r.argument.memory) (atomic_address p x s a u act r) (bytes_of r.size c)) _ _ traps_fixed
      (λ cs. gives_fixed vs (with_memory s r.argument.memory cs))) g h

  aligned_fixed : (act : Activation) (r : AtomicAccess) → IsTrue (is_unshared p r.argument.memory) → Aligned p x s a u act r → Aligned p x s b w act r → Fixed
  aligned_fixed act r own g h = at (is_misaligned (atomic_address p x s a u act r) r.size) g h
    where
      at : (c : Bool) → Either c (Traps p x s a u) (Exchanges p x s a u act r) → Either c (Traps p x s b w) (Exchanges p x s b w act r) → Fixed
      at true g h = traps_fixed g h
      at false g h = reading_fixed {Q = Fixed} r.argument.memory (atomic_address p x s a u act r) r.size _ _ own traps_fixed
          (λ bs. replaced_fixed act r (r.written (bits_of (get_or act.innermost.values 0 nothing)) (bits_of (get_or act.innermost.values 1 nothing))
          (number_of bs)) (number_given r.gives (r.given (number_of bs))) own) g h

  exchange_fixed : (act : Activation) (o : Option AtomicAccess) → IsTrue (exchange_is_determined p o) → There p x s a u o (Aligned p x s a u act)
      → There p x s b w o (Aligned p x s b w act) → Fixed
  exchange_fixed act None own g h = absurd g
  exchange_fixed act (Some r) own g h = aligned_fixed act r own g h

  size_fixed : (y : ℕ) → IsTrue (is_unshared p y) → Either (shared p x s a u y) (Sized p x s a u y) (Gives p x s a u (size_of p x s a u y ∷ []) s) → Either (shared p x s b w y) (Sized p x s b w y) (Gives p x s b w (size_of p x s b w y ∷ []) s) → Fixed
  size_fixed y own g h = at (is_shared_memory (slice_get p.«module».memories y)) own g h
    where
      at : (c : Bool) → not c ≡ true → Either c (Sized p x s a u y) (Gives p x s a u (size_of p x s a u y ∷ []) s) → Either c (Sized p x s b w y) (Gives p x s b w (size_of p x s b w y ∷ []) s) → Fixed
      at true own g h = no_host own
      at false own g h = gives_fixed _ s g h

  -- elements from a data segment
  data_fixed : {Q : Type 0} (d : ℕ) (t : TypeTree) (i n : ℕ) (F G : List Value → Type 0) → (Traps p x s a u → Traps p x s b w → Q) → ((ws : List Value) → F ws → G ws → Q) → OfData p x s a u d t i n F → OfData p x s b w d t i n G → Q
  data_fixed {Q} d t i n F G q f g h = or_traps {A = FieldOf TypeTree} {Q = Q} (field_at (expanded t) 0) _ _ q (λ r. or_traps {A = List ℕ} {Q = Q} (range (data_in s d) i (n * stored_size r.storage)) _ _ q (λ bs. f (elements_from r.storage n bs))) g h

  -- ---- calls of the program's own functions
  begins_fixed : (tail : Bool) (o : Option Body) → IsTrue (is_own o) → Begins p x s a u tail o → Begins p x s b w tail o → (a.traps ≡ b.traps) × (u ≡ w)
  begins_fixed tail None own g h = no_host own
  begins_fixed tail (Some f) own g h = (g.0 ∙ sym h.0, stays_fixed g.1 h.1)

  calls_fixed : (act : Activation) (tail : Bool) (v : Value) → IsTrue (calls_own p s act v) → Calls p x s a u tail v → Calls p x s b w tail v → u ≡ w
  calls_fixed act tail (ref_function None t) own g h = no_host own
  calls_fixed act tail (ref_function (Some i) t) own g h = let f = begins_fixed tail (body_of (slice_get p.functions i)) own g h in f.1
  calls_fixed act tail (ref_null c k) own g h = stays_fixed g h
  calls_fixed act tail v own g h = no_host own

module _ (p : Program) (act : Activation) (acts : List Activation) (s : Store) (a b : Answer) (u w : Store) where
  abbrev x : State
  x = act ∷ acts

  abbrev vs : List Value
  vs = act.innermost.values

  module _ (more : Code) where
    -- the outcome and the store
    abbrev Agrees : Op → Type 0
    Agrees o = Same (operate p a act acts o more) (operate p b act acts o more) × (u ≡ w)

    -- ---- calls

    called : (tail : Bool) (t : TypeTree) (ws : List Value) → IsTrue (calls_own p s act (get_or ws 0 nothing))
        → Same (pops ws (λ v us. asks (Fits p v (ref true (concrete t))) (invoke p a act acts tail v us more))) (pops ws (λ v us. asks (Fits p v (ref true (concrete t))) (invoke p b act acts tail v us more)))
    called tail t [] own = refl
    called tail t (v ∷ ws) own = same_invoke p a b act acts s tail v ws more own

    called_ref : (tail : Bool) (y : ℕ) → IsTrue (calls_own p s act (get_or vs 0 nothing)) → Same (call_reference p a act acts tail y more) (call_reference p b act acts tail y more)
    called_ref tail y own = same_found {A = TypeTree} (slice_get p.«module».types y) (λ t. pops vs (λ v us. asks (Fits p v (ref true (concrete t))) (invoke p a act acts tail v us more))) (λ t. pops vs (λ v us. asks (Fits p v (ref true (concrete t))) (invoke p b act acts tail v us more))) (λ t. called tail t vs own)

    -- what is called through a table, if it passes
    abbrev tested : Answer → Bool → Bool → Type 0 → Type 0 → Type 0 → Value → List Value → Move
    tested c tail holds A B P v ws = may_trap p c (allows A (asks B (choose holds (allows P (invoke p c act acts tail v ws more)) (done trapped))))

    tested_same : (tail holds : Bool) (A B C D P Q : Type 0) (v : Value) (ws : List Value) → IsTrue (calls_own p s act v) → Either holds (Calls p x s a u tail v) (Stays p x s a u) → Either holds (Calls p x s b w tail v) (Stays p x s b w)
        → Same (tested a tail holds A B P v ws) (tested b tail holds C D Q v ws)
    tested_same tail false A B C D P Q v ws own g h = trapped_anyway a.traps b.traps (allows A (asks B (done trapped))) (allows C (asks D (done trapped))) refl refl
    tested_same tail true A B C D P Q (ref_function None t) ws own g h = no_host own
    tested_same tail true A B C D P Q (ref_function (Some i) t) ws own g h =
        let f = begins_fixed p x s a b u w tail (body_of (slice_get p.functions i)) own g h in
        same_may a.traps b.traps (allows A (asks B (allows P (invoke p a act acts tail (ref_function (Some i) t) ws more)))) (allows C (asks D (allows Q (invoke p b act acts tail (ref_function (Some i) t) ws more)))) f.0
        (λ e. same_invoke p a b act acts s tail (ref_function (Some i) t) ws more own)
    tested_same tail true A B C D P Q (ref_null c k) ws own g h = trapped_anyway a.traps b.traps (allows A (asks B (allows P (done trapped)))) (allows C (asks D (allows Q (done trapped)))) refl refl
    tested_same tail true A B C D P Q v ws own g h = no_host own

    tested_stores : (tail holds : Bool) (v : Value) → IsTrue (calls_own p s act v) → Either holds (Calls p x s a u tail v) (Stays p x s a u) → Either holds (Calls p x s b w tail v) (Stays p x s b w) → u ≡ w
    tested_stores tail true v own g h = calls_fixed p x s a b u w act tail v own g h
    tested_stores tail false v own g h = stays_fixed p x s a b u w g h

    abbrev checked : Answer → Bool → Table → TypeTree → List Value → Move
    checked c tail t q ws = tested c tail c.condition (Fits p c.held t.element) (IsCallable c.held) (Fits p c.held (ref false (concrete q))) c.held ws

    held_same : (tail : Bool) (A B C D P Q : Type 0) (v : Value) → a.held ≡ v → b.held ≡ v → a.condition ≡ b.condition → IsTrue (calls_own p s act v)
        → Either a.condition (Calls p x s a u tail v) (Stays p x s a u) → Either a.condition (Calls p x s b w tail v) (Stays p x s b w)
        → (ws : List Value) → Same (tested a tail a.condition A B P a.held ws) (tested b tail b.condition C D Q b.held ws)
    held_same tail A B C D P Q v d e c own g h ws =
        subst (λ q. Same (tested a tail a.condition A B P a.held ws) (tested b tail b.condition C D Q q ws)) (sym e)
        (subst (λ z. Same (tested a tail a.condition A B P a.held ws) (tested b tail z C D Q v ws)) c
        (subst (λ q. Same (tested a tail a.condition A B P q ws) (tested b tail a.condition C D Q v ws)) (sym d)
        (tested_same tail a.condition A B C D P Q v ws own g h)))

    -- either way, and with the store
    abbrev Through : Bool → Type 0
    Through tail = ((t : Table) (q : TypeTree) (ws : List Value) → Same (checked a tail t q ws) (checked b tail t q ws)) × (u ≡ w)

    through_same : (tail : Bool) (v : Value) → a.held ≡ v → b.held ≡ v → a.condition ≡ b.condition → IsTrue (calls_own p s act v)
        → Either a.condition (Calls p x s a u tail v) (Stays p x s a u) → Either b.condition (Calls p x s b w tail v) (Stays p x s b w) → Through tail
    through_same tail v d e c own g h =
        let k : Either a.condition (Calls p x s b w tail v) (Stays p x s b w) = subst (λ z. Either z (Calls p x s b w tail v) (Stays p x s b w)) (sym c) h in (
          (λ t q ws. held_same tail _ _ _ _ _ _ v d e c own g k ws),
          tested_stores tail a.condition v own g k,
        )

    through_trap : (tail : Bool) → Traps p x s a u → Traps p x s b w → Through tail
    through_trap tail g h = let f = traps_fixed p x s a b u w g h in
        ((λ t q ws. same_may a.traps b.traps _ _ f.1 (λ e. absurd (true≢false (sym g.0 ∙ e)))), f.2)

    -- what the store says of what it holds
    abbrev Holds : Bool → ℕ → Answer → Store → Value → Type 0
    Holds tail y c z v = There p x s c z {A = TypeTree} (slice_get p.«module».types y) (λ (t : TypeTree). (c.held ≡ v) × (IsTrue c.condition ↔ Fits p v (ref false (concrete t))) × Either c.condition (Calls p x s c z tail v) (Stays p x s c z))

    through_at : (tail : Bool) (y : ℕ) (o : Option Value) → IsTrue (calls_own_there p s act o) → OrTraps p x s a u o (Holds tail y a u) → OrTraps p x s b w o (Holds tail y b w) → Through tail
    through_at tail y None own g h = through_trap tail g h
    through_at tail y (Some v) own g h = there p x s a b u w {A = TypeTree} {Q = Through tail} (slice_get p.«module».types y) _ _
        (λ t c d. through_same tail v c.0 d.0 (same_truth a.condition b.condition (Fits p v (ref false (concrete t))) c.1 d.1) own c.2 d.2) g h

    through_there : (tail : Bool) (y n : ℕ) → IsTrue (calls_own_there p s act (slice_get (table_in s n) (bits_of (get_or vs 0 nothing)))) → CallsIndirect p x s a u act tail y n → CallsIndirect p x s b w act tail y n → Through tail
    through_there tail y n own g h = through_at tail y (slice_get (table_in s n) (bits_of (get_or vs 0 nothing))) own g h

    -- at a table and a type
    abbrev to_call : Answer → Bool → Table → TypeTree → Move
    to_call c tail t q = takes p c (address t.table64 ∷ []) vs (λ v ws. checked c tail t q ws)

    called_through : (tail : Bool) (y n : ℕ) → Through tail → Same (call_indirect p a act acts tail y n more) (call_indirect p b act acts tail y n more)
    called_through tail y n k = same_found {A = Table} (slice_get p.«module».tables n) (λ t. found {A = TypeTree} (slice_get p.«module».types y) (to_call a tail t)) (λ t. found {A = TypeTree} (slice_get p.«module».types y) (to_call b tail t))
        (λ t. same_found {A = TypeTree} (slice_get p.«module».types y) (to_call a tail t) (to_call b tail t) (λ q. k.0 t q _))

    control_same : (o : ControlOperator) → IsTrue (control_is_determined p s act o) → GivesControl p x s a u act o → GivesControl p x s b w act o → Agrees (op.Control o)
    control_same control.Unreachable own g h = (refl, stays_fixed p x s a b u w g h)
    control_same control.Nop own g h = (refl, stays_fixed p x s a b u w g h)
    control_same (control.Br n) own g h = (same_branch p a b act acts n vs, stays_fixed p x s a b u w g h)
    control_same (control.BrIf n) own g h = (same_pops vs (λ c ws. asks (Fits p c i32_type) (branch_if p a act acts a.condition n ws ws more)) (λ c ws. asks (Fits p c i32_type) (branch_if p b act acts b.condition n ws ws more)) (λ c ws. same_branch_if p a b act acts a.condition b.condition (g.0 ∙ sym h.0) n ws ws more), stays_fixed p x s a b u w g.1 h.1)
    control_same (control.BrTable t) own g h = (
      same_pops vs (λ c ws. asks (Fits p c i32_type) (branch p a act acts (get_or t.targets a.index t.default) ws)) (λ c ws. asks (Fits p c i32_type) (branch p b act acts (get_or t.targets b.index t.default) ws))
          (λ c ws. subst (λ i. Same (branch p a act acts (get_or t.targets a.index t.default) ws) (branch p b act acts (get_or t.targets i t.default) ws)) (g.0 ∙ sym h.0) (same_branch p a b act acts (get_or t.targets a.index t.default) ws)),
      stays_fixed p x s a b u w g.1 h.1,
    )
    control_same control.Return own g h = (same_return p a b act.owed _ acts, stays_fixed p x s a b u w g h)
    control_same (control.Call n) own g h = let f = begins_fixed p x s a b u w false (body_of (slice_get p.functions n)) own g h in (same_call p a b act acts s false n more own, f.1)
    control_same (control.ReturnCall n) own g h = let f = begins_fixed p x s a b u w true (body_of (slice_get p.functions n)) own g h in (same_call p a b act acts s true n more own, f.1)
    control_same (control.CallIndirect y n) own g h = let k = through_there false y n own g h in (called_through false y n k, k.1)
    control_same (control.ReturnCallIndirect y n) own g h = let k = through_there true y n own g h in (called_through true y n k, k.1)
    control_same (control.CallRef y) own g h = (called_ref false y own, calls_fixed p x s a b u w act false (get_or vs 0 nothing) own g h)
    control_same (control.ReturnCallRef y) own g h = (called_ref true y own, calls_fixed p x s a b u w act true (get_or vs 0 nothing) own g h)
    control_same control.RefAsNonNull own g h = (refl, stays_fixed p x s a b u w g h)
    control_same (control.BrOnNull n) own g h = (same_pops vs (λ v ws. asks (IsAReference v) (branch_if p a act acts (is_null v) n ws (v ∷ ws) more)) (λ v ws. asks (IsAReference v) (branch_if p b act acts (is_null v) n ws (v ∷ ws) more)) (λ v ws. same_branch_if p a b act acts (is_null v) (is_null v) refl n ws (v ∷ ws) more), stays_fixed p x s a b u w g h)
    control_same (control.BrOnNonNull n) own g h = (
      same_pops vs (λ v ws. asks (IsAReference v) (choose (is_null v) (goes p a act acts ws more) (branch p a act acts n (v ∷ ws)))) (λ v ws. asks (IsAReference v) (choose (is_null v) (goes p b act acts ws more) (branch p b act acts n (v ∷ ws))))
          (λ v ws. same_choose (is_null v) (is_null v) (goes p a act acts ws more) (branch p a act acts n (v ∷ ws)) (goes p b act acts ws more) (branch p b act acts n (v ∷ ws)) refl refl (same_branch p a b act acts n (v ∷ ws))),
      stays_fixed p x s a b u w g h,
    )
    control_same o own g h = (refl, stays_fixed p x s a b u w g h)

    parametric_same : (o : ParametricTree) → GivesParametric p x s a u act o → GivesParametric p x s b w act o → Agrees (op.Parametric o)
    parametric_same op.Drop g h = (refl, stays_fixed p x s a b u w g h)
    parametric_same op.Select g h = (
      same_pops vs (λ c ws. pops ws (λ v us. asks (IsNumberValue v) (select p a act acts (least_type v) more))) (λ c ws. pops ws (λ v us. asks (IsNumberValue v) (select p b act acts (least_type v) more)))
          (λ c ws. same_pops ws (λ v us. asks (IsNumberValue v) (select p a act acts (least_type v) more)) (λ v us. asks (IsNumberValue v) (select p b act acts (least_type v) more)) (λ v us. same_select p a b act acts (least_type v) more (g.0 ∙ sym h.0))),
      stays_fixed p x s a b u w g.1 h.1,
    )
    parametric_same (op.TypedSelect t) g h = (same_found {A = ValueType} (meant p.«module» t) (λ q. select p a act acts q more) (λ q. select p b act acts q more) (λ q. same_select p a b act acts q more (g.0 ∙ sym h.0)), stays_fixed p x s a b u w g.1 h.1)
    parametric_same o g h = (refl, stays_fixed p x s a b u w g.1 h.1)

    -- ---- exceptions

    threw_at : (v : Value) → ThrowsReference p x s a u act v → ThrowsReference p x s b w act v → Same (throw_reference p a act acts v) (throw_reference p b act acts v) × (u ≡ w)
    threw_at (ref_exn k t) g h = let f = again_fixed p x s a b u w k g h in (same_again p a b f.4 f.0 t (act ∷ acts) f.3 f.1, f.2)
    threw_at v g h = (refl, stays_fixed p x s a b u w g h)

    threw : (ws : List Value) → ThrowsReference p x s a u act (get_or ws 0 nothing) → ThrowsReference p x s b w act (get_or ws 0 nothing)
        → Same (pops ws (λ v us. asks (Fits p v (ref true (abstract false exn))) (throw_reference p a act acts v))) (pops ws (λ v us. asks (Fits p v (ref true (abstract false exn))) (throw_reference p b act acts v))) × (u ≡ w)
    threw [] g h = (refl, stays_fixed p x s a b u w g h)
    threw (v ∷ ws) g h = threw_at v g h

    rethrown_at : (o : Option Exception) → There p x s a u o (λ (e : Exception). ThrowsAgain p x s a u e.address) → There p x s b w o (λ (e : Exception). ThrowsAgain p x s b w e.address)
        → Same (found o (λ (e : Exception). throw_again p a e.type (act ∷ acts))) (found o (λ (e : Exception). throw_again p b e.type (act ∷ acts))) × (u ≡ w)
    rethrown_at None g h = absurd g
    rethrown_at (Some e) g h = let f = again_fixed p x s a b u w e.address g h in (same_again p a b f.4 f.0 e.type (act ∷ acts) f.3 f.1, f.2)

    rethrown : (o q : Option Exception) → o ≡ q → There p x s a u o (λ (e : Exception). ThrowsAgain p x s a u e.address) → There p x s b w q (λ (e : Exception). ThrowsAgain p x s b w e.address)
        → Same (found o (λ (e : Exception). throw_again p a e.type (act ∷ acts))) (found q (λ (e : Exception). throw_again p b e.type (act ∷ acts))) × (u ≡ w)
    rethrown o q e g h =
        let k = rethrown_at o g (subst (λ (z : Option Exception). There p x s b w z (λ (e : Exception). ThrowsAgain p x s b w e.address)) (sym e) h) in
        (subst (λ (z : Option Exception). Same (found o (λ (e : Exception). throw_again p a e.type (act ∷ acts))) (found z (λ (e : Exception). throw_again p b e.type (act ∷ acts)))) e k.0, k.1)

    exception_same : (o : ExceptionTree) → GivesException p x s a u act o → GivesException p x s b w act o → Agrees (op.Exception o)
    exception_same (op.Throw n) g h = (same_found {A = TypeTree} (slice_get p.«module».tags n) _ _ (λ t. same_found {A = Signature} (function_type t) _ _ (λ q. same_throw p a b (g.3.1 ∙ sym h.3.1) (g.0 ∙ sym h.0) t _ (act ∷ acts) (g.3.0 ∙ sym h.3.0))), g.2 ∙ sym h.2)
    exception_same op.ThrowRef g h = threw vs g h
    exception_same (op.Rethrow n) g h = rethrown (caught_at p a act acts n (act.innermost ∷ act.around)) (caught_at p b act acts n (act.innermost ∷ act.around)) (caught_whatever p act acts a b n (act.innermost ∷ act.around)) g h
    exception_same o g h = (refl, stays_fixed p x s a b u w g h)

    -- ---- variables and tables

    -- at the type of a table
    exchanged_table : (n : ℕ) (ts us : Table → List ValueType) → a.values ≡ b.values → a.traps ≡ b.traps → Same (found (slice_get p.«module».tables n) (λ (t : Table). exchange p a act acts (ts t) (us t) more)) (found (slice_get p.«module».tables n) (λ (t : Table). exchange p b act acts (ts t) (us t) more))
    exchanged_table n ts us e f = same_found {A = Table} (slice_get p.«module».tables n) (λ t. exchange p a act acts (ts t) (us t) more) (λ t. exchange p b act acts (ts t) (us t) more) (λ t. same_exchange p a b act acts (ts t) (us t) more e f)

    -- at the type of a memory, and at an argument and a name
    exchanged_memory : (n : ℕ) (ts us : MemoryType → List ValueType) → a.values ≡ b.values → a.traps ≡ b.traps → Same (found (slice_get p.«module».memories n) (λ (t : MemoryType). exchange p a act acts (ts t) (us t) more)) (found (slice_get p.«module».memories n) (λ (t : MemoryType). exchange p b act acts (ts t) (us t) more))
    exchanged_memory n ts us e f = same_found {A = MemoryType} (slice_get p.«module».memories n) (λ t. exchange p a act acts (ts t) (us t) more) (λ t. exchange p b act acts (ts t) (us t) more) (λ t. same_exchange p a b act acts (ts t) (us t) more e f)

    abbrev access_by : Op → Answer → MemoryType → Move
    access_by o c t = found {A = Places} (accessed (info_of o).name) (λ n. exchange p c act acts (address t.memory64 ∷ numbers n.takes) (numbers n.gives) more)

    abbrev access_at : Op → Answer → MemArg → Move
    access_at o c i = found {A = MemoryType} (slice_get p.«module».memories i.memory) (access_by o c)

    accessed_same : (o : Op) → a.values ≡ b.values → a.traps ≡ b.traps → Same (access p a act acts o more) (access p b act acts o more)
    accessed_same o e f = same_found {A = MemArg} (argument_of (immediates_of o)) (access_at o a) (access_at o b) (λ i. same_found {A = MemoryType} (slice_get p.«module».memories i.memory) (access_by o a) (access_by o b) (λ t.
        same_found {A = Places} (accessed (info_of o).name) (λ n. exchange p a act acts (address t.memory64 ∷ numbers n.takes) (numbers n.gives) more) (λ n. exchange p b act acts (address t.memory64 ∷ numbers n.takes) (numbers n.gives) more)
        (λ n. same_exchange p a b act acts (address t.memory64 ∷ numbers n.takes) (numbers n.gives) more e f)))

    abbrev reach_by : Answer → Store → Reach → Type 0
    reach_by c z r = Reaches p x s c z act r

    vector_same : (o : SimdOperator) (r : Option Reach) → simd_access o ≡ r → IsTrue (reach_is_determined p r) → OrOutside p x s a u act r (reach_by a u) → OrOutside p x s b w act r (reach_by b w) → Agrees (op.Simd o)
    vector_same o None e own g h = no_host own
    vector_same o (Some r) e own g h =
        let f = access_fixed p x s a b u w act r.argument r.access own g h in
        (subst (λ (i : Option MemArg). Same (operate_vector p a act acts i (op.Simd o) more) (operate_vector p b act acts i (op.Simd o) more)) (sym (simd_carried o r e)) (accessed_same (op.Simd o) f.0 f.1), f.2)

    memory_same : (o : MemoryOperator) → IsTrue (memory_is_determined p o) → GivesMemory p x s a u act o → GivesMemory p x s b w act o → Agrees (op.Memory o)
    memory_same (memory.LocalGet n) own g h = (refl, stays_fixed p x s a b u w g h)
    memory_same (memory.LocalSet n) own g h = (refl, stays_fixed p x s a b u w g h)
    memory_same (memory.LocalTee n) own g h = (refl, stays_fixed p x s a b u w g h)
    memory_same (memory.GlobalGet n) own g h = let f = gives_fixed p x s a b u w _ _ g h in
        (same_found {A = Global} (slice_get p.«module».globals n) (λ t. exchange p a act acts [] (t.content ∷ []) more) (λ t. exchange p b act acts [] (t.content ∷ []) more) (λ t. same_exchange p a b act acts [] (t.content ∷ []) more f.0 f.1), f.2)
    memory_same (memory.GlobalSet n) own g h = let f = gives_fixed p x s a b u w _ _ g h in
        (same_found {A = Global} (slice_get p.«module».globals n) (λ t. asks (IsTrue t.mutable) (exchange p a act acts (t.content ∷ []) [] more)) (λ t. asks (IsTrue t.mutable) (exchange p b act acts (t.content ∷ []) [] more)) (λ t. same_exchange p a b act acts (t.content ∷ []) [] more f.0 f.1), f.2)
    memory_same (memory.MemorySize n) own g h = let f = size_fixed p x s a b u w n own g h in (exchanged_memory n (λ t. []) (λ t. address t.memory64 ∷ []) f.0 f.1, f.2)
    memory_same (memory.MemoryGrow n) own g h = no_host own
    memory_same o own g h = let f = reach_fixed p x s a b u w act (memory_access o) own g h in (accessed_same (op.Memory o) f.0 f.1, f.2)

    atomic_same : (o : AtomicOperator) → IsTrue (atomic_is_determined p o) → GivesAtomic p x s a u act o → GivesAtomic p x s b w act o → Agrees (op.Atomic o)
    atomic_same atomic.AtomicFence own g h = (refl, stays_fixed p x s a b u w g h)
    atomic_same (atomic.MemoryAtomicNotify m) own g h =
        let f = others_fixed p x s a b u w {Q = Fixed p x s a b u w} act m (Aligned p x s a u act (notification m)) (Aligned p x s b w act (notification m))
        own (aligned_fixed p x s a b u w act (notification m) own) g h in
        (accessed_same (op.Atomic (atomic.MemoryAtomicNotify m)) f.0 f.1, f.2)
    atomic_same (atomic.MemoryAtomicWait32 m) own g h =
        let f = others_fixed p x s a b u w {Q = Fixed p x s a b u w} act m (Traps p x s a u) (Traps p x s b w) own (traps_fixed p x s a b u w) g h in
        (accessed_same (op.Atomic (atomic.MemoryAtomicWait32 m)) f.0 f.1, f.2)
    atomic_same (atomic.MemoryAtomicWait64 m) own g h =
        let f = others_fixed p x s a b u w {Q = Fixed p x s a b u w} act m (Traps p x s a u) (Traps p x s b w) own (traps_fixed p x s a b u w) g h in
        (accessed_same (op.Atomic (atomic.MemoryAtomicWait64 m)) f.0 f.1, f.2)
    atomic_same o own g h = let f = exchange_fixed p x s a b u w act (atomic_access o) own g h in (accessed_same (op.Atomic o) f.0 f.1, f.2)

    copied : (q t : ValueType) (ws : List Value) → a.traps ≡ b.traps → Same (may_trap p a (copies p a q t (goes p a act acts ws more))) (may_trap p b (copies p b q t (goes p b act acts ws more)))
    copied q t ws e = same_may a.traps b.traps (copies p a q t (goes p a act acts ws more)) (copies p b q t (goes p b act acts ws more)) e (λ n. refl)

    -- a table, from a segment and from a table
    abbrev init_to : Answer → ValueType → Table → Move
    init_to c q t = takes p c (address t.table64 ∷ i32_type ∷ i32_type ∷ []) vs (λ us ws. may_trap p c (copies p c q t.element (goes p c act acts ws more)))

    abbrev init_from : Answer → ℕ → ValueType → Move
    init_from c n q = found {A = Table} (slice_get p.«module».tables n) (init_to c q)

    abbrev copy_from : Answer → Table → Table → Move
    copy_from c t q = takes p c (address t.table64 ∷ address q.table64 ∷ address (t.table64 && q.table64) ∷ []) vs (λ us ws. may_trap p c (copies p c q.element t.element (goes p c act acts ws more)))

    abbrev copy_to : Answer → ℕ → Table → Move
    copy_to c m t = found {A = Table} (slice_get p.«module».tables m) (copy_from c t)

    abbrev bytes_to : Answer → ℕ → MemoryType → Move
    bytes_to c d t = asks (IsData p.«module».data_count d) (exchange p c act acts (address t.memory64 ∷ i32_type ∷ i32_type ∷ []) [] more)

    abbrev memory_to : Answer → MemoryType → MemoryType → Move
    memory_to c t q = exchange p c act acts (address t.memory64 ∷ address q.memory64 ∷ address (t.memory64 && q.memory64) ∷ []) [] more

    abbrev memory_from : Answer → ℕ → MemoryType → Move
    memory_from c m t = found {A = MemoryType} (slice_get p.«module».memories m) (memory_to c t)

    bulk_same : (o : BulkOperator) → IsTrue (bulk_is_determined p o) → GivesBulk p x s a u act o → GivesBulk p x s b w act o → Agrees (op.Bulk o)
    bulk_same (bulk.RefNull q) own g h = (refl, stays_fixed p x s a b u w g h)
    bulk_same bulk.RefIsNull own g h = (same_pops vs (λ v ws. asks (IsAReference v) (goes p a act acts (number_value i32 a.made ∷ ws) more)) (λ v ws. asks (IsAReference v) (goes p b act acts (number_value i32 b.made ∷ ws) more)) (λ v ws. same_number p a b act acts ws more (g.0 ∙ sym h.0)), g.1.2 ∙ sym h.1.2)
    bulk_same (bulk.RefFunc n) own g h = (refl, stays_fixed p x s a b u w g h)
    bulk_same (bulk.TableGet n) own g h = let f = or_traps p x s a b u w {A = Value} {Q = Fixed p x s a b u w} (slice_get (table_in s n) (bits_of (get_or vs 0 nothing))) _ _ (traps_fixed p x s a b u w) (λ v. gives_fixed p x s a b u w (v ∷ []) s) g h in
        (exchanged_table n (λ t. address t.table64 ∷ []) (λ t. t.element ∷ []) f.0 f.1, f.2)
    bulk_same (bulk.TableSet n) own g h = let f = or_traps p x s a b u w {A = List Value} {Q = Fixed p x s a b u w} (placed (table_in s n) (bits_of (get_or vs 1 nothing)) (take 1 vs)) _ _ (traps_fixed p x s a b u w) (λ v. gives_fixed p x s a b u w [] (with_table s n v)) g h in
        (exchanged_table n (λ t. address t.table64 ∷ t.element ∷ []) (λ t. []) f.0 f.1, f.2)
    bulk_same (bulk.TableSize n) own g h = let f = gives_fixed p x s a b u w _ _ g h in (exchanged_table n (λ t. []) (λ t. address t.table64 ∷ []) f.0 f.1, f.2)
    bulk_same (bulk.TableFill n) own g h = let f = or_traps p x s a b u w {A = List Value} {Q = Fixed p x s a b u w} (placed (table_in s n) (bits_of (get_or vs 2 nothing)) (replicate (bits_of (get_or vs 0 nothing)) (get_or vs 1 nothing))) _ _ (traps_fixed p x s a b u w) (λ v. gives_fixed p x s a b u w [] (with_table s n v)) g h in
        (exchanged_table n (λ t. address t.table64 ∷ t.element ∷ address t.table64 ∷ []) (λ t. []) f.0 f.1, f.2)
    bulk_same (bulk.TableInit e n) own g h =
        let f = or_traps p x s a b u w {A = List Value} {Q = Fixed p x s a b u w} (range (segment_in s e) (bits_of (get_or vs 1 nothing)) (bits_of (get_or vs 0 nothing))) _ _ (traps_fixed p x s a b u w)
        (λ us. or_traps p x s a b u w {A = List Value} {Q = Fixed p x s a b u w} (placed (table_in s n) (bits_of (get_or vs 2 nothing)) us) _ _ (traps_fixed p x s a b u w) (λ v. gives_fixed p x s a b u w us (with_table s n v))) g h in
        (same_found {A = ValueType} (slice_get p.«module».elements e) (init_from a n) (init_from b n) (λ q. same_found {A = Table} (slice_get p.«module».tables n) (init_to a q) (init_to b q) (λ t. copied q t.element _ f.1)), f.2)
    bulk_same (bulk.TableCopy n m) own g h =
        let f = or_traps p x s a b u w {A = List Value} {Q = Fixed p x s a b u w} (range (table_in s m) (bits_of (get_or vs 1 nothing)) (bits_of (get_or vs 0 nothing))) _ _ (traps_fixed p x s a b u w)
        (λ us. or_traps p x s a b u w {A = List Value} {Q = Fixed p x s a b u w} (placed (table_in s n) (bits_of (get_or vs 2 nothing)) us) _ _ (traps_fixed p x s a b u w) (λ v. gives_fixed p x s a b u w us (with_table s n v))) g h in
        (same_found {A = Table} (slice_get p.«module».tables n) (copy_to a m) (copy_to b m) (λ t. same_found {A = Table} (slice_get p.«module».tables m) (copy_from a t) (copy_from b t) (λ q. copied q.element t.element _ f.1)), f.2)
    bulk_same (bulk.ElemDrop e) own g h = let f = gives_fixed p x s a b u w [] (without_segment s e) g h in (refl, f.2)
    bulk_same (bulk.DataDrop d) own g h = let f = gives_fixed p x s a b u w [] (without_data s d) g h in (refl, f.2)
    bulk_same (bulk.MemoryInit d n) own g h =
        let f = or_traps p x s a b u w {A = List ℕ} {Q = Fixed p x s a b u w} (range (data_in s d) (bits_of (get_or vs 1 nothing)) (bits_of (get_or vs 0 nothing))) _ _ (traps_fixed p x s a b u w)
        (λ bs. writing_fixed p x s a b u w n (bits_of (get_or vs 2 nothing)) bs own) g h in
        (same_found {A = MemoryType} (slice_get p.«module».memories n) (bytes_to a d) (bytes_to b d) (λ t. same_exchange p a b act acts (address t.memory64 ∷ i32_type ∷ i32_type ∷ []) [] more f.0 f.1), f.2)
    bulk_same (bulk.MemoryCopy n m) own g h =
        let k = and_parts (is_unshared p n) (is_unshared p m) own in
        let f = reading_fixed p x s a b u w {Q = Fixed p x s a b u w} m (bits_of (get_or vs 1 nothing)) (bits_of (get_or vs 0 nothing)) (λ bs. Writing p x s a u n (bits_of (get_or vs 2 nothing)) bs) (λ bs. Writing p x s b w n (bits_of (get_or vs 2 nothing)) bs) k.1 (traps_fixed p x s a b u w)
        (λ bs. writing_fixed p x s a b u w n (bits_of (get_or vs 2 nothing)) bs k.0) g h in
        (same_found {A = MemoryType} (slice_get p.«module».memories n) (memory_from a m) (memory_from b m) (λ t. same_found {A = MemoryType} (slice_get p.«module».memories m) (memory_to a t) (memory_to b t) (λ q. same_exchange p a b act acts (address t.memory64 ∷ address q.memory64 ∷ address (t.memory64 && q.memory64) ∷ []) [] more f.0 f.1)), f.2)
    bulk_same (bulk.MemoryFill n) own g h =
        let f = writing_fixed p x s a b u w n (bits_of (get_or vs 2 nothing)) (replicate (bits_of (get_or vs 0 nothing)) (bits_of (get_or vs 1 nothing) % 256)) own g h in
        (exchanged_memory n (λ t. address t.memory64 ∷ i32_type ∷ address t.memory64 ∷ []) (λ t. []) f.0 f.1, f.2)
    bulk_same (bulk.MemoryDiscard n) own g h = no_host own
    bulk_same (bulk.TableGrow n) own g h = no_host own

    -- ---- objects and casts

    abbrev compared : Answer → Value → Value → List Value → Move
    compared c v q us = asks ((IsOf p c act acts eq v × IsComparable v) × (IsOf p c act acts eq q × IsComparable q)) (goes p c act acts (number_value i32 c.made ∷ us) more)

    abbrev fill : Answer → ℕ → Value → List Value → Move
    fill c n v ws = asks (Fits p v i32_type) (pops ws (λ q us. write p c act acts array_fields (i32_type ∷ []) n 0 q us more))

    abbrev stored_from : Answer → List (FieldOf TypeTree) → (FieldOf TypeTree → Move → Move) → Move → ValueType → Move
    stored_from c fs may m q = found {A = FieldOf TypeTree} (slice_get fs 0) (λ r. may r (copies p c q (operand_of r.storage) m))

    -- an array, from another
    abbrev array_over : Answer → List Value → FieldOf TypeTree → FieldOf TypeTree → Move
    array_over c us q r = writes_field r (asks (AreStoredAlike q.storage r.storage) (copies p c (operand_of q.storage) (operand_of r.storage) (goes p c act acts us more)))

    abbrev array_at : Answer → List (FieldOf TypeTree) → List Value → FieldOf TypeTree → Move
    array_at c fs us q = found {A = FieldOf TypeTree} (slice_get fs 0) (array_over c us q)

    abbrev array_to : Answer → List (FieldOf TypeTree) → List (FieldOf TypeTree) → List Value → Move
    array_to c ss fs us = found {A = FieldOf TypeTree} (slice_get ss 0) (array_at c fs us)

    abbrev array_from : Answer → ℕ → List (FieldOf TypeTree) → List Value → Move
    array_from c n ss ws = object_under p c act acts array_fields (i32_type ∷ []) n ws (array_to c ss)

    abbrev cast_or : Answer → Bool → Value → List Value → Move
    cast_or c holds v ws = choose holds (goes p c act acts (v ∷ ws) more) (done trapped)

    abbrev told : Answer → Bool → Value → List Value → Move
    told c holds v ws = goes p c act acts (number_value i32 c.made ∷ ws) more

    abbrev bytes_onto : Answer → ℕ → List (FieldOf TypeTree) → List Value → FieldOf TypeTree → Move
    bytes_onto c d fs ws r = writes_field r (asks (FromData p c act acts d fs) (goes p c act acts ws more))

    abbrev bytes_over : Answer → ℕ → List (FieldOf TypeTree) → List Value → Move
    bytes_over c d fs ws = found {A = FieldOf TypeTree} (slice_get fs 0) (bytes_onto c d fs ws)

    tested_of : (nullable : Bool) (q : HeapType) → TellsOf p x s a u act nullable q → TellsOf p x s b w act nullable q → Same (cast_top p a act acts nullable q (told a)) (cast_top p b act acts nullable q (told b)) × (u ≡ w)
    tested_of nullable q g h =
        let e = passes_fixed p x s a b u w act q g.0 h.0 in
        let m = g.1.0 ∙ ap (λ z. truth (if is_null (get_or vs 0 nothing) then nullable else z)) e ∙ sym h.1.0 in
        (same_cast_top p a b act acts nullable q (told a) (told b) e (λ c v ws. same_number p a b act acts ws more m), g.1.1.2 ∙ sym h.1.1.2)

    gc_same : (o : GcOperator) → IsTrue (gc_is_determined o) → GivesGc p x s a u act o → GivesGc p x s b w act o → Agrees (op.Gc o)
    gc_same gc.RefEq own g h = (same_pops vs (λ v ws. pops ws (compared a v)) (λ v ws. pops ws (compared b v)) (λ v ws. same_pops ws (compared a v) (compared b v) (λ q us. same_number p a b act acts us more (g.0 ∙ sym h.0))), g.1.2 ∙ sym h.1.2)
    gc_same (gc.StructNew n) own g h = let f = named_fixed p x s a b u w act n _ _ g h in (same_make p a b act acts struct_fields n operands_of (λ fs m. m) (λ fs m. m) more (λ fs t ws. same_named p a b act acts t ws more f.1), f.0.2)
    gc_same (gc.StructNewDefault n) own g h = let f = named_fixed p x s a b u w act n _ _ g h in (same_make p a b act acts struct_fields n (λ fs. []) (λ fs m. asks (HaveDefaults fs) m) (λ fs m. asks (HaveDefaults fs) m) more (λ fs t ws. same_named p a b act acts t ws more f.1), f.0.2)
    gc_same (gc.StructGet n i) own g h = let f = reads_fixed p x s a b u w act false _ i g h in (same_read p a b act acts IsWhole struct_fields [] n i more f.0 f.1, f.2)
    gc_same (gc.StructGetS n i) own g h = let f = reads_fixed p x s a b u w act true _ i g h in (same_read p a b act acts IsPacked struct_fields [] n i more f.0 f.1, f.2)
    gc_same (gc.StructGetU n i) own g h = let f = reads_fixed p x s a b u w act false _ i g h in (same_read p a b act acts IsPacked struct_fields [] n i more f.0 f.1, f.2)
    gc_same (gc.StructSet n i) own g h = let f = writes_fixed p x s a b u w act _ i _ _ g h in (same_pops vs (λ v ws. write p a act acts struct_fields [] n i v ws more) (λ v ws. write p b act acts struct_fields [] n i v ws more) (λ v ws. same_write p a b act acts struct_fields [] n i v ws more f.1), f.2)
    gc_same (gc.ArrayNew n) own g h = let f = named_fixed p x s a b u w act n _ _ g h in (same_make p a b act acts array_fields n (λ fs. operands_of fs ++ i32_type ∷ []) (λ fs m. m) (λ fs m. m) more (λ fs t ws. same_named p a b act acts t ws more f.1), f.0.2)
    gc_same (gc.ArrayNewDefault n) own g h = let f = named_fixed p x s a b u w act n _ _ g h in (same_make p a b act acts array_fields n (λ fs. i32_type ∷ []) (λ fs m. asks (HaveDefaults fs) m) (λ fs m. asks (HaveDefaults fs) m) more (λ fs t ws. same_named p a b act acts t ws more f.1), f.0.2)
    gc_same (gc.ArrayNewFixed n k) own g h = let f = named_fixed p x s a b u w act n _ _ g h in (same_make p a b act acts array_fields n (λ fs. flat_map (λ (q : ValueType). replicate k q) (operands_of fs)) (λ fs m. m) (λ fs m. m) more (λ fs t ws. same_named p a b act acts t ws more f.1), f.0.2)
    gc_same (gc.ArrayNewElem n e) own g h =
        let f = or_traps p x s a b u w {A = List Value} {Q = Made p x s a b u w} (range (segment_in s e) (bits_of (get_or vs 1 nothing)) (bits_of (get_or vs 0 nothing))) _ _ (traps_made p x s a b u w)
        (λ us c d. let k = named_fixed p x s a b u w act n (λ t. us) us c d in (k.0, λ i. k.1)) g h in (
          same_make p a b act acts array_fields n (λ fs. i32_type ∷ i32_type ∷ []) (λ fs m. may_trap p a (stores_from p a act acts e fs (λ q k. k) m)) (λ fs m. may_trap p b (stores_from p b act acts e fs (λ q k. k) m)) more
              (λ fs t ws. same_may a.traps b.traps (stores_from p a act acts e fs (λ q k. k) (goes p a act acts (ref_object a.made t ∷ ws) more)) (stores_from p b act acts e fs (λ q k. k) (goes p b act acts (ref_object b.made t ∷ ws) more)) f.0.1
              (λ k. same_found {A = ValueType} (slice_get p.«module».elements e) (stored_from a fs (λ q r. r) (goes p a act acts (ref_object a.made t ∷ ws) more)) (stored_from b fs (λ q r. r) (goes p b act acts (ref_object b.made t ∷ ws) more)) (λ q.
              same_found {A = FieldOf TypeTree} (slice_get fs 0) (λ r. copies p a q (operand_of r.storage) (goes p a act acts (ref_object a.made t ∷ ws) more)) (λ r. copies p b q (operand_of r.storage) (goes p b act acts (ref_object b.made t ∷ ws) more)) (λ r. same_named p a b act acts t ws more (f.1 k))))),
          f.0.2,
        )
    gc_same (gc.ArrayGet n) own g h = let f = reads_fixed p x s a b u w act false _ _ g h in (same_read p a b act acts IsWhole array_fields (i32_type ∷ []) n 0 more f.0 f.1, f.2)
    gc_same (gc.ArrayGetS n) own g h = let f = reads_fixed p x s a b u w act true _ _ g h in (same_read p a b act acts IsPacked array_fields (i32_type ∷ []) n 0 more f.0 f.1, f.2)
    gc_same (gc.ArrayGetU n) own g h = let f = reads_fixed p x s a b u w act false _ _ g h in (same_read p a b act acts IsPacked array_fields (i32_type ∷ []) n 0 more f.0 f.1, f.2)
    gc_same (gc.ArraySet n) own g h = let f = writes_fixed p x s a b u w act _ _ _ _ g h in (same_pops vs (λ v ws. write p a act acts array_fields (i32_type ∷ []) n 0 v ws more) (λ v ws. write p b act acts array_fields (i32_type ∷ []) n 0 v ws more) (λ v ws. same_write p a b act acts array_fields (i32_type ∷ []) n 0 v ws more f.1), f.2)
    gc_same gc.ArrayLen own g h = let f = of_object p x s a b u w {Q = Made p x s a b u w} (get_or vs 0 nothing) _ _ (traps_made p x s a b u w) (λ k o. tells_made p x s a b u w (length o.fields)) g h in (same_number_from p a b act acts array IsArray more f.0.1 f.1, f.0.2)
    gc_same (gc.ArrayFill n) own g h = let f = writes_fixed p x s a b u w act _ _ _ _ g h in (same_pops vs (fill a n) (fill b n) (λ c ws. same_pops ws (λ v us. write p a act acts array_fields (i32_type ∷ []) n 0 v us more) (λ v us. write p b act acts array_fields (i32_type ∷ []) n 0 v us more) (λ v us. same_write p a b act acts array_fields (i32_type ∷ []) n 0 v us more f.1)), f.2)
    gc_same (gc.ArrayCopy n m) own g h =
        let f = of_object p x s a b u w {Q = Fixed p x s a b u w} (get_or vs 2 nothing) _ _ (traps_fixed p x s a b u w) (λ k o. or_traps p x s a b u w {A = List Value} {Q = Fixed p x s a b u w} (range o.fields (bits_of (get_or vs 1 nothing)) (bits_of (get_or vs 0 nothing))) _ _ (traps_fixed p x s a b u w)
        (λ us. writes_fixed p x s a b u w act (get_or vs 4 nothing) (bits_of (get_or vs 3 nothing)) us us)) g h in (
          same_under p a b act acts array_fields (i32_type ∷ i32_type ∷ []) m vs (array_from a n) (array_from b n) f.1 (λ ss ws. same_under p a b act acts array_fields (i32_type ∷ []) n ws (array_to a ss) (array_to b ss) f.1 (λ fs us.
              same_found {A = FieldOf TypeTree} (slice_get ss 0) (array_at a fs us) (array_at b fs us) (λ q. same_found {A = FieldOf TypeTree} (slice_get fs 0) (array_over a us q) (array_over b us q) (λ r. refl)))),
          f.2,
        )
    gc_same (gc.ArrayInitElem n e) own g h =
        let f = or_traps p x s a b u w {A = List Value} {Q = Fixed p x s a b u w} (range (segment_in s e) (bits_of (get_or vs 1 nothing)) (bits_of (get_or vs 0 nothing))) _ _ (traps_fixed p x s a b u w)
        (λ us. writes_fixed p x s a b u w act (get_or vs 3 nothing) (bits_of (get_or vs 2 nothing)) us us) g h in (
          same_under p a b act acts array_fields (i32_type ∷ i32_type ∷ i32_type ∷ []) n vs (λ fs ws. stores_from p a act acts e fs writes_field (goes p a act acts ws more)) (λ fs ws. stores_from p b act acts e fs writes_field (goes p b act acts ws more)) f.1
              (λ fs ws. same_found {A = ValueType} (slice_get p.«module».elements e) (stored_from a fs writes_field (goes p a act acts ws more)) (stored_from b fs writes_field (goes p b act acts ws more)) (λ q.
              same_found {A = FieldOf TypeTree} (slice_get fs 0) (λ r. writes_field r (copies p a q (operand_of r.storage) (goes p a act acts ws more))) (λ r. writes_field r (copies p b q (operand_of r.storage) (goes p b act acts ws more))) (λ r. refl))),
          f.2,
        )
    gc_same (gc.RefTestNonNull q) own g h = tested_of false q g h
    gc_same (gc.RefTestNullable q) own g h = tested_of true q g h
    gc_same (gc.RefCastNonNull q) own g h = (same_cast_top p a b act acts false q (cast_or a) (cast_or b) (passes_fixed p x s a b u w act q g.0 h.0) (λ c v ws. refl), stays_fixed p x s a b u w g.1 h.1)
    gc_same (gc.RefCastNullable q) own g h = (same_cast_top p a b act acts true q (cast_or a) (cast_or b) (passes_fixed p x s a b u w act q g.0 h.0) (λ c v ws. refl), stays_fixed p x s a b u w g.1 h.1)
    gc_same (gc.BrOnCast n from to) own g h = (
      same_cast_from p a b act acts from to (λ c v ws. choose c (branch p a act acts n (v ∷ ws)) (goes p a act acts (v ∷ ws) more)) (λ c v ws. choose c (branch p b act acts n (v ∷ ws)) (goes p b act acts (v ∷ ws) more)) (passes_fixed p x s a b u w act to.heap g.0 h.0)
          (λ c v ws. same_choose c c (branch p a act acts n (v ∷ ws)) (goes p a act acts (v ∷ ws) more) (branch p b act acts n (v ∷ ws)) (goes p b act acts (v ∷ ws) more) refl (same_branch p a b act acts n (v ∷ ws)) refl),
      stays_fixed p x s a b u w g.1 h.1,
    )
    gc_same (gc.BrOnCastFail n from to) own g h = (
      same_cast_from p a b act acts from to (λ c v ws. choose c (goes p a act acts (v ∷ ws) more) (branch p a act acts n (v ∷ ws))) (λ c v ws. choose c (goes p b act acts (v ∷ ws) more) (branch p b act acts n (v ∷ ws))) (passes_fixed p x s a b u w act to.heap g.0 h.0)
          (λ c v ws. same_choose c c (goes p a act acts (v ∷ ws) more) (branch p a act acts n (v ∷ ws)) (goes p b act acts (v ∷ ws) more) (branch p b act acts n (v ∷ ws)) refl refl (same_branch p a b act acts n (v ∷ ws))),
      stays_fixed p x s a b u w g.1 h.1,
    )
    gc_same gc.AnyConvertExtern own g h = let f = to_any_fixed p x s a b u w act (get_or vs 0 nothing) g h in (same_convert p a b act acts extern any more f.0, f.1)
    gc_same gc.RefI31 own g h = let f = gives_fixed p x s a b u w _ s g h in (same_exchange p a b act acts (i32_type ∷ []) (ref false (abstract false i31) ∷ []) more f.0 f.1, f.2)
    gc_same gc.I31GetS own g h = let f = unboxed_fixed p x s a b u w act true (get_or vs 0 nothing) g h in (same_number_from p a b act acts i31 IsUnboxed more f.0.1 f.1, f.0.2)
    gc_same gc.I31GetU own g h = let f = unboxed_fixed p x s a b u w act false (get_or vs 0 nothing) g h in (same_number_from p a b act acts i31 IsUnboxed more f.0.1 f.1, f.0.2)
    gc_same (gc.ArrayNewData n d) own g h =
        let f = there p x s a b u w {A = TypeTree} {Q = Made p x s a b u w} (slice_get p.«module».types n) _ _ (λ t. data_fixed p x s a b u w {Q = Made p x s a b u w} d t (bits_of (get_or vs 1 nothing)) (bits_of (get_or vs 0 nothing)) _ _ (traps_made p x s a b u w)
        (λ ws c e. let k = makes_fixed p x s a b u w t ws [] c e in (k.0, λ i. k.1))) g h in (
          same_make p a b act acts array_fields n (λ fs. i32_type ∷ i32_type ∷ []) (λ fs m. asks (FromData p a act acts d fs) (may_trap p a m)) (λ fs m. asks (FromData p b act acts d fs) (may_trap p b m)) more
              (λ fs t ws. same_may a.traps b.traps (goes p a act acts (ref_object a.made t ∷ ws) more) (goes p b act acts (ref_object b.made t ∷ ws) more) f.0.1 (λ k. same_named p a b act acts t ws more (f.1 k))),
          f.0.2,
        )
    gc_same (gc.ArrayInitData n d) own g h =
        let f = of_object p x s a b u w {Q = Fixed p x s a b u w} (get_or vs 3 nothing) _ _ (traps_fixed p x s a b u w) (λ k o. data_fixed p x s a b u w {Q = Fixed p x s a b u w} d o.type (bits_of (get_or vs 1 nothing)) (bits_of (get_or vs 0 nothing)) _ _ (traps_fixed p x s a b u w)
        (λ ws. written_fixed p x s a b u w act k o (bits_of (get_or vs 2 nothing)) ws [])) g h in (
          same_under p a b act acts array_fields (i32_type ∷ i32_type ∷ i32_type ∷ []) n vs (bytes_over a d) (bytes_over b d) f.1 (λ fs ws. same_found {A = FieldOf TypeTree} (slice_get fs 0) (bytes_onto a d fs ws) (bytes_onto b d fs ws) (λ r. refl)),
          f.2,
        )
    gc_same gc.ExternConvertAny own g h = no_host own

    -- ---- constants, and all of them

    computed_same : (o : Op) → a.values ≡ b.values → a.traps ≡ b.traps → Same (compute p a act acts o more) (compute p b act acts o more)
    computed_same o e f = same_found {A = Places} (computed (info_of o).name) (λ n. exchange p a act acts (numbers n.takes) (numbers n.gives) more) (λ n. exchange p b act acts (numbers n.takes) (numbers n.gives) more) (λ n. same_exchange p a b act acts (numbers n.takes) (numbers n.gives) more e f)

    constant_same : (o : ConstOperator) → GivesConstant p x s a u act o → GivesConstant p x s b w act o → Agrees (op.Const o)
    constant_same (const.I32Const n) g h = let f = gives_fixed p x s a b u w _ s g h in (computed_same (op.Const (const.I32Const n)) f.0 f.1, f.2)
    constant_same (const.I64Const n) g h = let f = gives_fixed p x s a b u w _ s g h in (computed_same (op.Const (const.I64Const n)) f.0 f.1, f.2)
    constant_same (const.F32Const n) g h = let f = gives_fixed p x s a b u w _ s g h in (computed_same (op.Const (const.F32Const n)) f.0 f.1, f.2)
    constant_same (const.F64Const n) g h = let f = gives_fixed p x s a b u w _ s g h in (computed_same (op.Const (const.F64Const n)) f.0 f.1, f.2)

    -- an operator on integers
    numeric_same : (o : NumericOperator) (k : Option Operation) → IsTrue (is_some k) → OrOutside p x s a u act k (Calculates p x s a u act)
        → OrOutside p x s b w act k (Calculates p x s b w act) → Agrees (op.Numeric o)
    numeric_same o None own g h = no_host own
    numeric_same o (Some r) own g h =
        let f = or_traps p x s a b u w {A = ℕ} {Q = Fixed p x s a b u w} (r.value (bits_of (get_or vs 1 nothing)) (bits_of (get_or vs 0 nothing))) _ _
        (traps_fixed p x s a b u w) (λ c. gives_fixed p x s a b u w (number_value r.gives c ∷ []) s) g h in
        (computed_same (op.Numeric o) f.0 f.1, f.2)

    pub operator_same : (o : Op) → IsTrue (is_determined p s act o) → GivesOperator p x s a u act o → GivesOperator p x s b w act o → Agrees o
    operator_same (op.Control o) own g h = control_same o own g h
    operator_same (op.Parametric o) own g h = parametric_same o g h
    operator_same (op.Exception o) own g h = exception_same o g h
    operator_same (op.Memory o) own g h = memory_same o own g h
    operator_same (op.Bulk o) own g h = bulk_same o own g h
    operator_same (op.Gc o) own g h = gc_same o own g h
    operator_same (op.Const o) own g h = constant_same o g h
    operator_same (op.Numeric o) own g h = numeric_same o (integer_operation o) own g h
    operator_same (op.Simd o) own g h = vector_same o (simd_access o) refl own g h
    operator_same (op.Atomic o) own g h = atomic_same o own g h
    operator_same o own g h = no_host own

    -- ---- blocks

    entered : (o : Op) (body : Code) → GivesBlock p x s a u act o → GivesBlock p x s b w act o → Same (enter p a act acts o body more) (enter p b act acts o body more) × (u ≡ w)
    entered (op.Control (control.If bt)) body g h = (
      same_pops vs (λ c ws. asks (Fits p c i32_type) (opens p a act acts bt behind no_handlers (either_part a.condition body) ws more)) (λ c ws. asks (Fits p c i32_type) (opens p b act acts bt behind no_handlers (either_part b.condition body) ws more))
          (λ c ws. subst (λ z. Same (opens p a act acts bt behind no_handlers (either_part a.condition body) ws more) (opens p b act acts bt behind no_handlers (either_part z body) ws more)) (g.0 ∙ sym h.0)
          (same_opens p a b act acts bt behind no_handlers (either_part a.condition body) ws more)),
      stays_fixed p x s a b u w g.1 h.1,
    )
    entered o body g h = (refl, stays_fixed p x s a b u w g h)

  closed : (o : Op) → Same (execute p a act acts (close o)) (execute p b act acts (close o))
  closed (op.Exception (op.Delegate n)) = same_found {A = List ValueType} (label_at p a act acts (suc n)) (λ ts. end p a act acts) (λ ts. end p b act acts) (λ ts. same_out p a b act act.around vs acts)
  closed o = same_out p a b act act.around vs acts

  pub code_same : (c : Code) → IsTrue (code_is_determined p s act c) → GivesCode p x s a u act c → GivesCode p x s b w act c → Same (execute p a act acts c) (execute p b act acts c) × (u ≡ w)
  code_same (plain o more) own g h = operator_same more o own g h
  code_same (nested o body more) own g h = entered more o body g h
  code_same (close o) own g h = (closed o, stays_fixed p x s a b u w g h)
  code_same (turn o more) own g h = (same_out p a b act act.around vs acts, stays_fixed p x s a b u w g h)

pub store_steps_determined : StoreStepsAreDetermined
store_steps_determined p [] s a b u w own g h = absurd g
store_steps_determined p (act ∷ acts) s a b u w own g h = code_same p act acts s a b u w act.innermost.code own g h

-- ---- runs

state_in : Outcome → State
state_in (next s) = s
state_in o = []

pub same_next : (x y : State) → next x ≡ next y → x ≡ y
unfolding state_in
same_next x y e = ap state_in e

same_size : (n m : ℕ) → suc n ≡ suc m → n ≡ m
same_size n m e = omega (arith, e)

none_left : {Q : Type 0} (n : ℕ) → 0 ≡ suc n → Q
none_left n e = absurd (omega (arith, e))

pub store_runs_determined : StoreRunsAreDetermined
store_runs_determined p s x [] [] u w y z r q e = (sym r.0 ∙ q.0, sym r.1 ∙ q.1)
store_runs_determined p s x [] (b ∷ others) u w y z r q e = none_left (length others) e
store_runs_determined p s x (a ∷ answers) [] u w y z r q e = none_left (length answers) (sym e)
store_runs_determined p s x (a ∷ answers) (b ∷ others) u w y z r q e =
    let k = store_steps_determined p x s a b r.0 q.0 r.2 r.3 q.2 in
    let there : r.1 ≡ q.1 = same_next r.1 q.1 (sym r.4 ∙ k.0 ∙ q.3) in
    store_runs_determined p r.0 r.1 answers others u w y z r.5
    (subst (λ (c : State). StoreRuns p r.0 c others w z) (sym there) (subst (λ (c : Store). StoreRuns p c q.1 others w z) (sym k.1) q.4))
    (same_size (length answers) (length others) e)
