-- A store gives something to each operator, in each state in which all fits.
use Rattle.std.proofs.Common.{◌≡◌, ℕ, zero, suc, ◌+◌, ◌*◌, ◌%◌, ◌^◌, Bool, true, false, IsTrue, List, [], ◌∷◌, ◌++◌, length, take, drop, replicate, get_or, Option, Some, None, is_some, if◌then◌else◌, slice_get, refl, sym, ap, subst, ◌∙◌, inl, inr, true≢false}
use Rattle.std.specs.Prelude.{◌↔◌, ◌⊎◌, flat_map}
use Rattle.std.proofs.lemmas.List.{length-replicate}
use Rattle.wasm_types.specs.trees.Types.{Number, i32, i64, f32, f64, v128, Abstract, any, none, nofunc, extern, noextern, ref, HeapOf, abstract, concrete, InnerOf, FieldOf, StorageOf, function, array_of, struct_of, continuation}
use Rattle.wasm_types.specs.trees.Trees.{TypeTree}
use Rattle.wasm_types.specs.trees.Below.{expanded, bottom_of}
use Rattle.wasm_types.specs.trees.ValidGroup.{IsFunction}
use Rattle.wasm_types.specs.values.declared.heap.HeapType.{HeapType}
use Rattle.wasm_types.specs.externs.declared.memory.MemoryType.{MemoryType}
use Rattle.wasm_operators_enums.specs.declared.numeric.NumericOperator.{NumericOperator}
use Rattle.wasm_operators_enums.specs.declared.control.ControlOperator.{ControlOperator}
use Rattle.wasm_operators_enums.specs.declared.control.ControlOperator.TheVariants as control
use Rattle.wasm_operators_enums.specs.declared.memory.MemoryOperator.{MemoryOperator}
use Rattle.wasm_operators_enums.specs.declared.memory.MemoryOperator.TheVariants as memory
use Rattle.wasm_operators_enums.specs.declared.constant.ConstOperator.{ConstOperator}
use Rattle.wasm_operators_enums.specs.declared.constant.ConstOperator.TheVariants as const
use Rattle.wasm_operators_enums.specs.declared.bulk.BulkOperator.{BulkOperator}
use Rattle.wasm_operators_enums.specs.declared.bulk.BulkOperator.TheVariants as bulk
use Rattle.wasm_operators_enums.specs.declared.gc.GcOperator.{GcOperator}
use Rattle.wasm_operators_enums.specs.declared.gc.GcOperator.TheVariants as gc
use Rattle.wasm_operators_enums.specs.declared.atomic.AtomicOperator.{AtomicOperator}
use Rattle.wasm_operators_enums.specs.declared.atomic.AtomicOperator.TheVariants as atomic
use Rattle.wasm_operators_enums.specs.declared.vector.SimdOperator.{SimdOperator}
use Rattle.wasm_operators_enums.specs.Table.{info_of}
use Rattle.wasm_operators_enums.specs.Immediates.{immediates_of}
use Rattle.wasm_operators_enums.specs.Op as op
use Rattle.wasm_operators_enums.specs.Op.{Op, ParametricTree, ExceptionTree}
use Rattle.wasm_operators_encoding.specs.expressions.Code.{Code, close, plain, nested, turn}
use Rattle.wasm_operators_immediates.specs.declared.memory.MemArg.{MemArg}
use Rattle.wasm_operator_validator_rules.specs.Operands.{ValueType, Operand, bottom, some_reference, known, stack}
use Rattle.wasm_operator_validator_rules.specs.InstructionTypes.{i32_type}
use Rattle.wasm_operator_validator_rules.specs.Context.{Table}
use Rattle.wasm_operator_validator_rules.specs.Numbers.{numbers}
use Rattle.wasm_operator_validator_soundness.specs.runs.Values.{Body, Program, Value, number_value, ref_null, ref_function, ref_object, ref_i31, ref_host, ref_extern, ref_exn, is_null, IsMade, Fits, AllFit}
use Rattle.wasm_operator_validator_soundness.specs.runs.States.{Exception, Activation, State, Answer, trapped, Move, asks, found}
use Rattle.wasm_operator_validator_soundness.specs.runs.Names.{Places, computed, argument_of}
use Rattle.wasm_operator_validator_soundness.specs.runs.Machine.{operand_of, operands_of, HaveDefaults, gives, call_indirect, make, address, meant_heap, function_type_in, struct_fields, array_fields, IsWhole, IsPacked, body_of, last_of, takes, may_trap, object, read, caught_at, convert, goes, compute, operate, operate_vector, execute}
use Rattle.wasm_operator_validator_soundness.specs.runs.ValidStates.{IsValidOutcome}
use Rattle.wasm_operator_validator_soundness.specs.runs.Soundness.{step, IsValidProgram}
use Rattle.wasm_operator_validator_soundness.specs.runs.Progress.{gc_can_trap, can_trap, code_can_trap}
use Rattle.wasm_operator_validator_soundness.proofs.Objects.{akin_value}
use Rattle.wasm_operator_validator_soundness.proofs.Progress.{trap, giving, zero_each, zeros, zeros_fit, access_traps, calls, calls_reference, caught_whatever, gc_answered}
use Rattle.wasm_operator_validator_store.specs.Stores.{TableInstance, table_address, elements_held, pages_held, grown, memory_at, memory_in, data_in, with_memory, without_data, failure, ObjectInstance, ExceptionInstance, Store, range, placed, nothing, IsWithin, bits_of, is_true, truth, integer_bits, extended, unpacked, sized, same, field_at, global_in, table_in, segment_in, with_global, with_table, without_segment, with_object, with_fields, with_exception, with_extern}
use Rattle.wasm_operator_validator_store.specs.Atomics.{is_misaligned, AtomicAccess, number_given, notification, atomic_access}
use Rattle.wasm_operator_validator_store.specs.Memories.{number_of, bytes_of, past, Access, reads, writes, Reach, memory_access, simd_access, stored_size, elements_from}
use Rattle.wasm_operator_validator_store.specs.Handling.{Place, place_of}
use Rattle.wasm_operator_validator_store.specs.ValidStores.{Each, IsByte, Knows, Has, TableFits}
use Rattle.wasm_operator_validator_store.specs.Giving.{arity, is_wide, is_wide_memory, is_shared_memory, Either, Stays, Traps, Gives, Outside, Reading, Writing, Sized, GrowsTo, OfData, Makes, WritesTo, Accesses, Reaches, OrOutside, OrTraps, There, OfObject, ThrowsAgain, Begins, Calls, Reads, Writes, MakesNamed, Passes, ThrowsReference, CallsIndirect, ConvertsToExtern, ConvertsToAny, Unboxes, Replaces, Exchanges, Aligned, ByOthers, GivesOperator, GivesCode, Calculates}
use Rattle.wasm_operator_validator_store.specs.Soundness.{AreValid, StoreAnswersExist}
use Rattle.wasm_operator_validator_store.proofs.Lists.{none_some, each_get, each_map, each_reverse, each_replicate, get_last}
use Rattle.wasm_operator_validator_store.proofs.Memories.{simd_carried}
use Rattle.wasm_operator_validator_store.proofs.Storing.{stays}
use Rattle.wasm_operator_validator_store.proofs.Answering.{found_needs, found_answer, a_trap, no_trap_needs, told, top_known}
use Rattle.wasm_operator_validator_store.proofs.Accessing.{sized_fits}
use Rattle.wasm_operator_validator_store.proofs.Objects.{Fields, Holding, struct_at, array_at, last_one, under_answer, element_under, pops_split}
use Rattle.wasm_operator_validator_store.proofs.Rethrowing.{caught_known}
use Rattle.wasm_operator_validator_store.proofs.Deciding.{Decided, fits_decided}
use Rattle.wasm_operator_validator_store.proofs.Ending.{Ends, compute_ends, operate_ends, block_ends, close_ends, turn_ends}
use Rattle.wasm_operator_validator_store.specs.Integers.{Operation, integer_operation}
use Rattle.wasm_operator_validator_store.proofs.Integers.{row_is}

-- ---- answers without a trap

abbrev still : Answer
still = giving []

abbrev making : ℕ → Answer
making n = record still { made = n }

abbrev deciding : Bool → Answer
deciding b = record still { condition = b }

abbrev leading : Place → ℕ → List Value → Answer
leading l n vs = record (giving vs) { made = n; leaves = l.leaves; index = l.clause }

-- ---- parts of what is given

module _ (p : Program) (x : State) (s : Store) where
  -- an answer, and the store after it
  abbrev pub Some_of : (Answer → Store → Type 0) → Type 0
  Some_of F = (a : Answer) × (u : Store) × F a u

  traps : (F : Answer → Store → Type 0) → F trap s → Some_of F
  traps F h = (trap, s, h)

  or_trapped : {A : Type 0} (o : Option A) (F : Answer → Store → A → Type 0) → ((y : A) → o ≡ Some y → Some_of (λ a u. F a u y)) → Some_of (λ a u. OrTraps p x s a u o (F a u))
  or_trapped None F k = (trap, s, (refl, (refl, refl)))
  or_trapped (Some y) F k = k y refl

  there_is : {A : Type 0} (o : Option A) (y : A) (a : Answer) (u : Store) (F : A → Type 0) → o ≡ Some y → F y → There p x s a u o F
  there_is o y a u F e h = subst (λ q. There p x s a u q F) (sym e) h

  of_known : (w : Value) → Knows s w → (F : Answer → Store → ℕ → ObjectInstance → Type 0)
      → ((k : ℕ) (t : TypeTree) (o : ObjectInstance) → w ≡ ref_object k t → o.type ≡ t → Some_of (λ a u. F a u k o)) → Some_of (λ a u. OfObject p x s a u w (F a u))
  of_known (ref_object k t) h F g = let r = g k t h.0 refl h.2 in (r.0, r.1, there_is (slice_get s.objects k) h.0 r.0 r.1 (F r.0 r.1 k) h.1 r.2)
  of_known (number_value n b) h F g = (trap, s, (refl, (refl, refl)))
  of_known (ref_null c k) h F g = (trap, s, (refl, (refl, refl)))
  of_known (ref_function i t) h F g = (trap, s, (refl, (refl, refl)))
  of_known (ref_i31 b) h F g = (trap, s, (refl, (refl, refl)))
  of_known (ref_host k) h F g = (trap, s, (refl, (refl, refl)))
  of_known (ref_extern k) h F g = (trap, s, (refl, (refl, refl)))
  of_known (ref_exn k t) h F g = (trap, s, (refl, (refl, refl)))

-- ---- what is in the hierarchies of `any` and of `extern`

abbrev GoesOut : Value → Type 0
GoesOut (number_value n b) = ⊥
GoesOut (ref_function i t) = ⊥
GoesOut (ref_extern k) = ⊥
GoesOut (ref_exn k t) = ⊥
GoesOut w = Unit {0}

abbrev ComesIn : Value → Type 0
ComesIn (ref_null c h) = Unit {0}
ComesIn (ref_extern k) = Unit {0}
ComesIn w = ⊥

function_bottom : (y : InnerOf TypeTree) → IsFunction y → bottom_of y ≡ nofunc
function_bottom (function ps rs) i = refl
function_bottom (array_of f) i = absurd i
function_bottom (struct_of fs) i = absurd i
function_bottom (continuation f) i = absurd i

abbrev IsNone : Abstract → Type 0
IsNone none = Unit {0}
IsNone h = ⊥

abbrev IsNoExtern : Abstract → Type 0
IsNoExtern noextern = Unit {0}
IsNoExtern h = ⊥

inner_apart : (y : InnerOf TypeTree) → IsNoExtern (bottom_of y) → ⊥
inner_apart (function ps rs) i = i
inner_apart (array_of f) i = i
inner_apart (struct_of fs) i = i
inner_apart (continuation f) i = i

module _ (p : Program) where
  internal : (w : Value) (c : Bool) → Fits p w (ref true (abstract c any)) → GoesOut w
  internal (number_value n b) c f = f.1
  internal (ref_null q h) c f = tt
  internal (ref_function i t) c f = subst IsNone (sym ((akin_value p (ref_function i t) (abstract c any) f).1) ∙ function_bottom (expanded t) f.0.1) tt
  internal (ref_object k t) c f = tt
  internal (ref_i31 b) c f = tt
  internal (ref_host k) c f = tt
  internal (ref_extern k) c f = subst IsNone (sym ((akin_value p (ref_extern k) (abstract c any) f).1)) tt
  internal (ref_exn k t) c f = subst IsNone (sym ((akin_value p (ref_exn k t) (abstract c any) f).1)) tt

  external : (w : Value) (c : Bool) → Fits p w (ref true (abstract c extern)) → ComesIn w
  external (number_value n b) c f = f.1
  external (ref_null q h) c f = tt
  external (ref_function i t) c f = inner_apart (expanded t) (subst IsNoExtern (sym ((akin_value p (ref_function i t) (abstract c extern) f).1)) tt)
  external (ref_object k t) c f = inner_apart (expanded t) (subst IsNoExtern (sym ((akin_value p (ref_object k t) (abstract c extern) f).1)) tt)
  external (ref_i31 b) c f = subst IsNoExtern (sym ((akin_value p (ref_i31 b) (abstract c extern) f).1)) tt
  external (ref_host k) c f = subst IsNoExtern (sym ((akin_value p (ref_host k) (abstract c extern) f).1)) tt
  external (ref_extern k) c f = tt
  external (ref_exn k t) c f = subst IsNoExtern (sym ((akin_value p (ref_exn k t) (abstract c extern) f).1)) tt

  made_at : (vs : List Value) (ts : List Operand) (n : ℕ) → AllFit p vs ts → IsMade p (get_or vs n nothing)
  made_at [] ts n f = tt
  made_at (v ∷ vs) [] n f = absurd f
  made_at (v ∷ vs) (known t ∷ ts) zero f = f.0.0
  made_at (v ∷ vs) (bottom ∷ ts) zero f = absurd f.0
  made_at (v ∷ vs) (some_reference ∷ ts) zero f = absurd f.0
  made_at (v ∷ vs) (t ∷ ts) (suc n) f = made_at vs ts n f.1

pub zero_within : (n : Number) → IsWithin (number_value n 0)
zero_within i32 = refl
zero_within i64 = refl
zero_within f32 = refl
zero_within f64 = refl
zero_within v128 = refl

numbers_of : (ns : List Number) → Each IsWithin (zero_each ns)
numbers_of [] = tt
numbers_of (n ∷ ns) = (zero_within n, numbers_of ns)

sized_number : (b : Bool) → IsWithin (sized b 0)
sized_number true = refl
sized_number false = refl

abbrev values_for : Option Places → List Value
values_for None = []
values_for (Some n) = zeros n.gives

values_number : (o : Option Places) → Each IsWithin (values_for o)
values_number None = tt
values_number (Some n) = each_reverse IsWithin (zero_each n.gives) (numbers_of n.gives)

module _ (p : Program) (valid : IsValidProgram p) (results : List ValueType) (act : Activation) (acts : List Activation) (s : Store) (v : AreValid p results (act ∷ acts) s) where
  abbrev x : State
  x = act ∷ acts

  abbrev vs : List Value
  vs = act.innermost.values

  abbrev top : ℕ → Value
  top n = get_or act.innermost.values n nothing

  abbrev index : ℕ → ℕ
  index n = bits_of (get_or act.innermost.values n nothing)

  abbrev Next : Code → Type 0
  Next c = act.innermost.code ≡ c

  abbrev Given : Code → Type 0
  Given c = (a : Answer) × (u : Store) × GivesCode p (act ∷ acts) s a u act c × ((execute p a act acts c).outcome ≡ trapped → IsTrue (code_can_trap c))

  -- an operator that may trap, and one that never does
  may : (o : Op) (more : Code) → can_trap o ≡ true → Some_of p x s (λ a u. GivesOperator p (act ∷ acts) s a u act o) → Given (plain o more)
  may o more c r = (r.0, r.1, r.2, λ d. c)

  calm : (o : Op) (more : Code) → can_trap o ≡ false → (a : Answer) (u : Store) → a.traps ≡ false → GivesOperator p (act ∷ acts) s a u act o → Given (plain o more)
  calm o more c a u e g = (a, u, g, λ d. absurd ((operate_ends p a act acts e o more c).never d))

  -- numbers from outside
  outside : (o : Op) (more : Code) → Next (plain o more) → (a : Answer) → (operate p a act acts o more).is_answer → Each IsWithin a.values → (IsTrue a.traps → IsTrue (can_trap o)) → Outside p (act ∷ acts) s a s
  outside o more next a i n t = (subst (λ (c : Code). (execute p a act acts c).is_answer) (sym next) i, n, refl, λ e. subst (λ (c : Code). IsTrue (code_can_trap c)) (sym next) (t e))

  -- it does not trap
  quiet : {P : Type 0} → IsTrue false → P
  quiet e = absurd (true≢false (sym e))

  -- what an operator asks for is there, since its step is not stuck
  must : {A : Type 0} (o : Option A) (f : A → Move) → ((found o f).is_answer → (found o f).needs × IsValidOutcome p results (found o f).outcome) → (y : A) × (o ≡ Some y)
  must None f k = absurd ((k tt).1)
  must (Some y) f k = (y, refl)

  must_too : {A B : Type 0} (o : Option A) (q : Option B) (f : A → B → Move)
      → ((found o (λ y. found q (f y))).is_answer → (found o (λ y. found q (f y))).needs × IsValidOutcome p results (found o (λ y. found q (f y))).outcome) → (z : B) × (q ≡ Some z)
  must_too o None f k = let r = k (found_answer o _ (λ y e. tt)) in absurd ((found_needs p results o _ r.0 r.1).3)
  must_too o (Some z) f k = (z, refl)

  -- ---- numbers and memories

  computes : (o : Op) (more : Code) → (compute p (giving (values_for (computed (info_of o).name))) act acts o more).is_answer
  computes o more = found_answer (computed (info_of o).name) _ (λ (n : Places) e. (subst (λ (q : Option Places). AllFit p (values_for q) (stack (numbers n.gives))) (sym e) (zeros_fit p n.gives), tt))

  abbrev wide_at : ℕ → Bool
  wide_at y = is_wide_memory (slice_get p.«module».memories y)

  size_given : (y : ℕ) (b : Bool) → (a : Answer) × (u : Store) × (a.traps ≡ false) × Either b (Sized p (act ∷ acts) s a u y) (Gives p (act ∷ acts) s a u (sized (wide_at y) (pages_held (memory_at s y)) ∷ []) s)
  size_given y true = (giving (sized (wide_at y) 0 ∷ []), s, refl, (0, sized_number (wide_at y), (refl, refl, refl)))
  size_given y false = (giving (sized (wide_at y) (pages_held (memory_at s y)) ∷ []), s, refl, (refl, refl, refl))

  growth_given : (y : ℕ) (b : Bool) (bs : Option (List ℕ)) → (a : Answer) × (u : Store) × (a.traps ≡ false) × Either b (Sized p (act ∷ acts) s a u y) (GrowsTo p (act ∷ acts) s a u y bs)
  growth_given y true bs = (giving (sized (wide_at y) 0 ∷ []), s, refl, (0, sized_number (wide_at y), (refl, refl, refl)))
  growth_given y false None = (giving (failure (wide_at y) ∷ []), s, refl, (refl, refl, refl))
  growth_given y false (Some bs) = (giving (sized (wide_at y) (pages_held (memory_at s y)) ∷ []), with_memory s y bs, refl, inl (refl, refl, refl))

  -- bytes that are read, of a shared memory zeros; and bytes that are written
  read_bytes : (y i n : ℕ) (F : Answer → Store → List ℕ → Type 0) → ((bs : List ℕ) → Some_of p x s (λ a u. F a u bs)) → Some_of p x s (λ a u. Reading p (act ∷ acts) s a u y i n (F a u))
  read_bytes y i n F k = at (is_shared_memory (slice_get p.«module».memories y))
    where
      at : (b : Bool) → Some_of p x s (λ a u. Either b ((IsTrue (past (length (memory_in s y)) i n) × Traps p (act ∷ acts) s a u) ⊎ ((bs : List ℕ) × (length bs ≡ n) × Each IsByte bs × F a u bs)) (OrTraps p (act ∷ acts) s a u (range (memory_in s y) i n) (F a u)))
      at true = let r = k (replicate n 0) in (r.0, r.1, inr (replicate n 0, length-replicate n 0, each_replicate IsByte n 0 refl, r.2))
      at false = or_trapped p x s (range (memory_in s y) i n) F (λ bs e. k bs)

  written_bytes : (y i : ℕ) (bs : List ℕ) → Some_of p x s (λ a u. Writing p (act ∷ acts) s a u y i bs)
  written_bytes y i bs = at (is_shared_memory (slice_get p.«module».memories y))
    where
      at : (b : Bool) → Some_of p x s (λ a u. Either b ((IsTrue (past (length (memory_in s y)) i (length bs)) × Traps p (act ∷ acts) s a u) ⊎ Gives p (act ∷ acts) s a u [] s) (OrTraps p (act ∷ acts) s a u (placed (memory_in s y) i bs) (λ cs. Gives p (act ∷ acts) s a u [] (with_memory s y cs))))
      at true = (still, s, inr (refl, refl, refl))
      at false = or_trapped p x s (placed (memory_in s y) i bs) (λ a u cs. Gives p (act ∷ acts) s a u [] (with_memory s y cs)) (λ cs e. (still, with_memory s y cs, (refl, refl, refl)))

  access_given : (m : MemArg) (k : Access) → Some_of p x s (λ a u. Accesses p (act ∷ acts) s a u act m k)
  access_given m (reads ts n k f) = read_bytes m.memory (index (length ts) + m.offset) k (λ a u bs. Gives p (act ∷ acts) s a u (number_value n (f (index 0) bs) ∷ []) s) (λ bs. (giving (number_value n (f (index 0) bs) ∷ []), s, (refl, refl, refl)))
  access_given m (writes n k f) = written_bytes m.memory (index 1 + m.offset) (bytes_of k (f (index 0)))

  held_reach : (o : Option Reach) → is_some o ≡ true → Some_of p x s (λ a u. There p (act ∷ acts) s a u o (Reaches p (act ∷ acts) s a u act))
  held_reach None e = absurd (true≢false (sym e))
  held_reach (Some r) e = access_given r.argument r.access

  memory_given : (o : MemoryOperator) (more : Code) → Next (plain (op.Memory o) more) → Given (plain (op.Memory o) more)
  memory_given (memory.LocalGet y) more next = calm (op.Memory (memory.LocalGet y)) more refl still s refl (refl, refl)
  memory_given (memory.LocalSet y) more next = calm (op.Memory (memory.LocalSet y)) more refl still s refl (refl, refl)
  memory_given (memory.LocalTee y) more next = calm (op.Memory (memory.LocalTee y)) more refl still s refl (refl, refl)
  memory_given (memory.GlobalGet y) more next = calm (op.Memory (memory.GlobalGet y)) more refl (giving (global_in s y ∷ [])) s refl (refl, refl, refl)
  memory_given (memory.GlobalSet y) more next = calm (op.Memory (memory.GlobalSet y)) more refl still (with_global s y (top 0)) refl (refl, refl, refl)
  memory_given (memory.MemorySize y) more next = let r = size_given y (is_shared_memory (slice_get p.«module».memories y)) in calm (op.Memory (memory.MemorySize y)) more refl r.0 r.1 r.2 r.3
  memory_given (memory.MemoryGrow y) more next = let r = growth_given y (is_shared_memory (slice_get p.«module».memories y)) (grown (memory_at s y) (index 0)) in calm (op.Memory (memory.MemoryGrow y)) more refl r.0 r.1 r.2 r.3
  memory_given o more next = may (op.Memory o) more refl (held_reach (memory_access o) refl)

  -- ---- calls

  begins : (tail : Bool) (o : Option Body) (held : Value) (c : Bool) → (step p (act ∷ acts) (record trap { held = held; condition = c })).is_answer
      → (a : Answer) × (u : Store) × (a.held ≡ held) × (a.condition ≡ c) × Begins p (act ∷ acts) s a u tail o
  begins tail None held c i = (record trap { held = held; condition = c }, s, refl, refl, (i, stays s, v.store, tt, λ w. (w, tt)))
  begins tail (Some f) held c i = (record still { held = held; condition = c }, s, refl, refl, (refl, (refl, refl)))

  calls_given : (tail : Bool) (w : Value) (held : Value) (c : Bool) → (step p (act ∷ acts) (record trap { held = held; condition = c })).is_answer
      → (a : Answer) × (u : Store) × (a.held ≡ held) × (a.condition ≡ c) × Calls p (act ∷ acts) s a u tail w
  calls_given tail (ref_function None t) held c i = begins tail None held c i
  calls_given tail (ref_function (Some y) t) held c i = begins tail (body_of (slice_get p.functions y)) held c i
  calls_given tail (number_value n b) held c i = (record still { held = held; condition = c }, s, refl, refl, (refl, refl))
  calls_given tail (ref_null b h) held c i = (record still { held = held; condition = c }, s, refl, refl, (refl, refl))
  calls_given tail (ref_object k t) held c i = (record still { held = held; condition = c }, s, refl, refl, (refl, refl))
  calls_given tail (ref_i31 b) held c i = (record still { held = held; condition = c }, s, refl, refl, (refl, refl))
  calls_given tail (ref_host k) held c i = (record still { held = held; condition = c }, s, refl, refl, (refl, refl))
  calls_given tail (ref_extern k) held c i = (record still { held = held; condition = c }, s, refl, refl, (refl, refl))
  calls_given tail (ref_exn k t) held c i = (record still { held = held; condition = c }, s, refl, refl, (refl, refl))

  -- through a table, by what it holds
  through : (tail : Bool) (y z : ℕ) (t : TypeTree) (w : Value) → slice_get p.«module».types y ≡ Some t → Decided (Fits p w (ref false (concrete t)))
      → ((c : Bool) → (step p (act ∷ acts) (record trap { held = w; condition = c })).is_answer)
      → Some_of p x s (λ a u. There p (act ∷ acts) s a u (slice_get p.«module».types y) (λ q. (a.held ≡ w) × (IsTrue a.condition ↔ Fits p w (ref false (concrete q))) × Either a.condition (Calls p (act ∷ acts) s a u tail w) (Stays p (act ∷ acts) s a u)))
  through tail y z t w e (inl f) i =
      let r = calls_given tail w w true (i true) in
      let passes : IsTrue (r.0).condition ↔ Fits p w (ref false (concrete t)) = ((λ k. f), (λ k. r.3)) in
      (r.0, r.1, there_is p x s (slice_get p.«module».types y) t r.0 r.1 _ e (r.2, passes, subst (λ (b : Bool). Either b (Calls p (act ∷ acts) s r.0 r.1 tail w) (Stays p (act ∷ acts) s r.0 r.1)) (sym r.3) r.4))
  through tail y z t w e (inr n) i =
      let a : Answer = record still { held = w } in
      (a, s, there_is p x s (slice_get p.«module».types y) t a s _ e (refl, ((λ k. absurd (true≢false (sym k))), (λ k. absurd (n k))), (refl, refl)))

  table_made : (z i : ℕ) (w : Value) → slice_get (table_in s z) i ≡ Some w → IsMade p w
  table_made z i w e = each_get (IsMade p) (table_in s z) i w (held (slice_get s.tables (table_address s z)) refl) e
    where
      held : (o : Option TableInstance) → slice_get s.tables (table_address s z) ≡ o → Each (IsMade p) (elements_held o)
      held None d = tt
      held (Some t) d = each_map (Has p s t.type.element) (IsMade p) t.elements (λ w k. k.0.0) (each_get (TableFits p s) s.tables (table_address s z) t v.store.tables d)

  indirect_traps : (tail : Bool) (y z : ℕ) (more : Code) (a : Answer) → a.traps ≡ true → (call_indirect p a act acts tail y z more).is_answer
  indirect_traps tail y z more a e = found_answer (slice_get p.«module».tables z) _ (λ (t : Table) d. found_answer (slice_get p.«module».types y) _ (λ (u : TypeTree) b. a_trap p a _ e))

  calls_indirect_given : (tail : Bool) (y z : ℕ) (more : Code) → (t : TypeTree) × (slice_get p.«module».types y ≡ Some t) → ((a : Answer) → a.traps ≡ true → (step p (act ∷ acts) a).is_answer)
      → Some_of p x s (λ a u. CallsIndirect p (act ∷ acts) s a u act tail y z)
  calls_indirect_given tail y z more t i = or_trapped p x s (slice_get (table_in s z) (index 0)) _ (λ w e.
      through tail y z t.0 w t.1 (fits_decided p w (table_made z (index 0) w e) (concrete t.0)) (λ c. i (record trap { held = w; condition = c }) refl))

  control_given : (o : ControlOperator) (more : Code) → Next (plain (op.Control o) more) → Given (plain (op.Control o) more)
  control_given control.Unreachable more next = may (op.Control control.Unreachable) more refl (trap, s, (refl, refl))
  control_given control.RefAsNonNull more next = may (op.Control control.RefAsNonNull) more refl (trap, s, (refl, refl))
  control_given (control.BrIf n) more next = calm (op.Control (control.BrIf n)) more refl (deciding (is_true (top 0))) s refl (refl, (refl, refl))
  control_given (control.BrTable t) more next = calm (op.Control (control.BrTable t)) more refl (record still { index = index 0 }) s refl (refl, (refl, refl))
  control_given (control.Call y) more next =
      let r = begins false (body_of (slice_get p.functions y)) (ref_null false any) false (subst (λ (c : Code). (execute p trap act acts c).is_answer) (sym next) ((calls p act acts false y more).is)) in
      may (op.Control (control.Call y)) more refl (r.0, r.1, r.4)
  control_given (control.ReturnCall y) more next =
      let r = begins true (body_of (slice_get p.functions y)) (ref_null false any) false (subst (λ (c : Code). (execute p trap act acts c).is_answer) (sym next) ((calls p act acts true y more).is)) in
      may (op.Control (control.ReturnCall y)) more refl (r.0, r.1, r.4)
  control_given (control.CallRef y) more next =
      let r = calls_given false (top 0) (ref_null false any) false (subst (λ (c : Code). (execute p trap act acts c).is_answer) (sym next) ((calls_reference p act acts false y more).is)) in
      may (op.Control (control.CallRef y)) more refl (r.0, r.1, r.4)
  control_given (control.ReturnCallRef y) more next =
      let r = calls_given true (top 0) (ref_null false any) false (subst (λ (c : Code). (execute p trap act acts c).is_answer) (sym next) ((calls_reference p act acts true y more).is)) in
      may (op.Control (control.ReturnCallRef y)) more refl (r.0, r.1, r.4)
  control_given (control.CallIndirect y z) more next = may (op.Control (control.CallIndirect y z)) more refl
      (calls_indirect_given false y z more (must_too {A = Table} {B = TypeTree} (slice_get p.«module».tables z) (slice_get p.«module».types y) _ (told p valid results act acts s v trap (plain (op.Control (control.CallIndirect y z)) more) next))
      (λ a e. subst (λ (c : Code). (execute p a act acts c).is_answer) (sym next) (indirect_traps false y z more a e)))
  control_given (control.ReturnCallIndirect y z) more next = may (op.Control (control.ReturnCallIndirect y z)) more refl
      (calls_indirect_given true y z more (must_too {A = Table} {B = TypeTree} (slice_get p.«module».tables z) (slice_get p.«module».types y) _ (told p valid results act acts s v trap (plain (op.Control (control.ReturnCallIndirect y z)) more) next))
      (λ a e. subst (λ (c : Code). (execute p a act acts c).is_answer) (sym next) (indirect_traps true y z more a e)))
  control_given o more next = calm (op.Control o) more refl still s refl (refl, refl)

  parametric_given : (o : ParametricTree) (more : Code) → Given (plain (op.Parametric o) more)
  parametric_given op.Drop more = calm (op.Parametric op.Drop) more refl still s refl (refl, refl)
  parametric_given o more = calm (op.Parametric o) more refl (deciding (is_true (top 0))) s refl (refl, (refl, refl))

  -- ---- exceptions

  again : (k : ℕ) (t : TypeTree) → Knows s (ref_exn k t) → (a : Answer) × (a.traps ≡ false) × ThrowsAgain p (act ∷ acts) s a s k
  again k t h =
      let a : Answer = leading (place_of s.addresses.tags (h.0).tag (act ∷ acts)) k (h.0).values in
      (a, refl, there_is p x s (slice_get s.exceptions k) h.0 a s _ h.1 (refl, refl, refl, (refl, refl)))

  reference_given : (w : Value) → Knows s w → Some_of p x s (λ a u. ThrowsReference p (act ∷ acts) s a u act w)
  reference_given (ref_exn k t) h = let r = again k t h in (r.0, s, r.2)
  reference_given (number_value n b) h = (still, s, (refl, refl))
  reference_given (ref_null c k) h = (still, s, (refl, refl))
  reference_given (ref_function i t) h = (still, s, (refl, refl))
  reference_given (ref_object k t) h = (still, s, (refl, refl))
  reference_given (ref_i31 b) h = (still, s, (refl, refl))
  reference_given (ref_host k) h = (still, s, (refl, refl))
  reference_given (ref_extern k) h = (still, s, (refl, refl))

  exception_given : (o : ExceptionTree) (more : Code) → Next (plain (op.Exception o) more) → Given (plain (op.Exception o) more)
  exception_given (op.Throw y) more next =
      let n : ExceptionInstance = record { tag = get_or s.addresses.tags y 0; values = take (arity (function_type_in (slice_get p.«module».tags y))) vs } in
      calm (op.Exception (op.Throw y)) more refl (leading (place_of s.addresses.tags n.tag (act ∷ acts)) (length s.exceptions) []) (with_exception s n) refl (refl, refl, refl, (refl, refl))
  exception_given op.ThrowRef more next = may (op.Exception op.ThrowRef) more refl (reference_given (top 0) (top_known p valid results act acts s v 0))
  exception_given (op.Rethrow n) more next =
      let ls = act.innermost ∷ act.around in
      let e = must {A = Exception} (caught_at p still act acts n ls) _ (told p valid results act acts s v still (plain (op.Exception (op.Rethrow n)) more) next) in
      let h = caught_known p valid results act acts s v more still s n ls e.0 (v.known.0.innermost, v.known.0.around) e.1 in
      let r = again (e.0).address (e.0).type h in
      calm (op.Exception (op.Rethrow n)) more refl r.0 s r.1
      (there_is p x s (caught_at p r.0 act acts n ls) e.0 r.0 s (λ y. ThrowsAgain p (act ∷ acts) s r.0 s y.address) (caught_whatever p act acts r.0 still n ls ∙ e.1) r.2)
  exception_given o more next = calm (op.Exception o) more refl still s refl (refl, refl)

  -- ---- tables and segments

  bulk_given : (o : BulkOperator) (more : Code) → Next (plain (op.Bulk o) more) → Given (plain (op.Bulk o) more)
  bulk_given (bulk.RefNull h) more next = calm (op.Bulk (bulk.RefNull h)) more refl still s refl (refl, refl)
  bulk_given bulk.RefIsNull more next = calm (op.Bulk bulk.RefIsNull) more refl (making (truth (is_null (top 0)))) s refl (refl, (refl, refl, refl))
  bulk_given (bulk.RefFunc y) more next = calm (op.Bulk (bulk.RefFunc y)) more refl still s refl (refl, refl)
  bulk_given (bulk.TableGet y) more next = may (op.Bulk (bulk.TableGet y)) more refl
      (or_trapped p x s (slice_get (table_in s y) (index 0)) _ (λ w e. (giving (w ∷ []), s, (refl, refl, refl))))
  bulk_given (bulk.TableSet y) more next = may (op.Bulk (bulk.TableSet y)) more refl
      (or_trapped p x s (placed (table_in s y) (index 1) (take 1 vs)) _ (λ ws e. (still, with_table s y ws, (refl, refl, refl))))
  bulk_given (bulk.TableSize y) more next =
      calm (op.Bulk (bulk.TableSize y)) more refl (giving (sized (is_wide (slice_get p.«module».tables y)) (length (table_in s y)) ∷ [])) s refl (refl, refl, refl)
  bulk_given (bulk.TableGrow y) more next =
      calm (op.Bulk (bulk.TableGrow y)) more refl (giving (failure (is_wide (slice_get p.«module».tables y)) ∷ [])) s refl (inr (refl, refl, refl))
  bulk_given (bulk.TableFill y) more next = may (op.Bulk (bulk.TableFill y)) more refl
      (or_trapped p x s (placed (table_in s y) (index 2) (replicate (index 0) (top 1))) _ (λ ws e. (still, with_table s y ws, (refl, refl, refl))))
  bulk_given (bulk.TableInit i y) more next = may (op.Bulk (bulk.TableInit i y)) more refl
      (or_trapped p x s (range (segment_in s i) (index 1) (index 0)) _ (λ us e.
      or_trapped p x s (placed (table_in s y) (index 2) us) _ (λ ws d. (giving us, with_table s y ws, (refl, refl, refl)))))
  bulk_given (bulk.TableCopy y z) more next = may (op.Bulk (bulk.TableCopy y z)) more refl
      (or_trapped p x s (range (table_in s z) (index 1) (index 0)) _ (λ us e.
      or_trapped p x s (placed (table_in s y) (index 2) us) _ (λ ws d. (giving us, with_table s y ws, (refl, refl, refl)))))
  bulk_given (bulk.ElemDrop i) more next = calm (op.Bulk (bulk.ElemDrop i)) more refl still (without_segment s i) refl (refl, refl, refl)
  bulk_given (bulk.DataDrop d) more next = calm (op.Bulk (bulk.DataDrop d)) more refl still (without_data s d) refl (refl, refl, refl)
  bulk_given (bulk.MemoryInit d y) more next = may (op.Bulk (bulk.MemoryInit d y)) more refl
      (or_trapped p x s (range (data_in s d) (index 1) (index 0)) _ (λ bs e. written_bytes y (index 2) bs))
  bulk_given (bulk.MemoryCopy y z) more next = may (op.Bulk (bulk.MemoryCopy y z)) more refl (read_bytes z (index 1) (index 0) _ (λ bs. written_bytes y (index 2) bs))
  bulk_given (bulk.MemoryFill y) more next = may (op.Bulk (bulk.MemoryFill y)) more refl (written_bytes y (index 2) (replicate (index 0) (index 1 % 256)))
  bulk_given (bulk.MemoryDiscard y) more next = may (op.Bulk (bulk.MemoryDiscard y)) more refl (trap, s, inl (refl, (refl, refl)))

  -- ---- objects

  top_made : (n : ℕ) → IsMade p (top n)
  top_made n = let l = v.state.0.labels.0 in made_at p vs l.operands n l.fit

  top_knows : (n : ℕ) → Knows s (top n)
  top_knows n = top_known p valid results act acts s v n

  -- an object is made with a type that is there
  makes_given : (y : ℕ) → (t : TypeTree) × (slice_get p.«module».types y ≡ Some t) → (fields : TypeTree → List Value) (given : List Value)
      → (a : Answer) × (u : Store) × (a.traps ≡ false) × MakesNamed p (act ∷ acts) s a u act y fields given
  makes_given y t fields given =
      let a : Answer = record (giving given) { made = length s.objects } in
      let u : Store = with_object s (record { type = t.0; fields = fields t.0 }) in
      (a, u, refl, there_is p x s (slice_get p.«module».types y) t.0 a u _ t.1 (refl, (refl, refl, refl)))

  making_given : (o : GcOperator) (more : Code) (y : ℕ) (fields : TypeTree → List Value) → gc_can_trap o ≡ false → (t : TypeTree) × (slice_get p.«module».types y ≡ Some t)
      → ((a : Answer) (u : Store) → MakesNamed p (act ∷ acts) s a u act y fields [] → GivesOperator p (act ∷ acts) s a u act (op.Gc o)) → Given (plain (op.Gc o) more)
  making_given o more y fields c t k = let r = makes_given y t fields [] in calm (op.Gc o) more c r.0 r.1 r.2 (k r.0 r.1 r.3)

  abbrev reading : (StorageOf TypeTree → Type 0) → ℕ → Code → Fields → List Value → Move
  reading stored j more fs ws = found (slice_get fs j) (λ (f : FieldOf TypeTree). asks (stored f.storage) (gives p still (operand_of f.storage ∷ []) (λ rs. goes p still act acts (rs ++ ws) more)))

  -- the field that is read is there, since the step is not stuck
  field_there : (stored : StorageOf TypeTree → Type 0) (of : Holding) (ns : List ValueType) (y j i : ℕ) (o : Op) (more : Code) → Next (plain o more)
      → ((b : Answer) → execute p b act acts (plain o more) ≡ read p b act acts stored of ns y j more) → (w : Value) (k : ℕ) (t : TypeTree) → last_of (take (suc (length ns)) vs) ≡ w → w ≡ ref_object k t
      → ((z : InnerOf TypeTree) (fs : Fields) (f : FieldOf TypeTree) → of z ≡ Some fs → slice_get fs j ≡ Some f → field_at z i ≡ Some f) → (f : FieldOf TypeTree) × (field_at (expanded t) i ≡ Some f)
  field_there stored of ns y j i o more next e w k t l q at = found_there (field_at (expanded t) i) refl
    where
      found_there : (r : Option (FieldOf TypeTree)) → field_at (expanded t) i ≡ r → (f : FieldOf TypeTree) × (field_at (expanded t) i ≡ Some f)
      found_there (Some f) d = (f, d)
      found_there None d =
          let below = drop (suc (length ns)) vs in
          let answer : (read p still act acts stored of ns y j more).is_answer =
          under_answer p valid results act acts s v more still s of ns y vs (reading stored j more) w k t refl l q
          (λ fs c. found_answer (slice_get fs j) _ (λ (f : FieldOf TypeTree) b. absurd (none_some f (sym d ∙ at (expanded t) fs f c b)))) in
          let m = told p valid results act acts s v still (plain o more) next (subst (λ (n : Move). n.is_answer) (sym (e still)) answer) in
          let q1 = found_needs {A = TypeTree} p results (slice_get p.«module».types y)
          (λ z. found (of (expanded z)) (λ own. takes p still (ref true (concrete z) ∷ ns) vs (λ us rest. may_trap p still (object p still act acts of (last_of us) (λ fs. reading stored j more fs rest)))))
          (subst (λ (n : Move). n.needs) (e still) m.0) (subst (λ (n : Move). IsValidOutcome p results n.outcome) (e still) m.1) in
          let q2 = found_needs {A = Fields} p results (of (expanded q1.0))
          (λ own. takes p still (ref true (concrete q1.0) ∷ ns) vs (λ us rest. may_trap p still (object p still act acts of (last_of us) (λ fs. reading stored j more fs rest)))) q1.2 q1.3 in
          let q3 = no_trap_needs p still results (object p still act acts of (last_of (take (suc (length ns)) vs)) (λ fs. reading stored j more fs below)) refl q2.2.1 q2.3 in
          let q4 = found_needs {A = Fields} p results (of (expanded t)) (λ fs. reading stored j more fs below)
          (subst (λ z. (object p still act acts of z (λ fs. reading stored j more fs below)).needs) (l ∙ q) q3.0) (subst (λ z. IsValidOutcome p results (object p still act acts of z (λ fs. reading stored j more fs below)).outcome) (l ∙ q) q3.1) in
          let q5 = found_needs {A = FieldOf TypeTree} p results (slice_get q4.0 j)
          (λ (f : FieldOf TypeTree). asks (stored f.storage) (gives p still (operand_of f.storage ∷ []) (λ rs. goes p still act acts (rs ++ below) more))) q4.2 q4.3 in
          absurd (none_some q5.0 (sym d ∙ at (expanded t) q4.0 q5.0 q4.1 q5.1))

  reads_given : (c : Bool) (w : Value) (i : ℕ) → Knows s w → ((k : ℕ) (t : TypeTree) → w ≡ ref_object k t → (f : FieldOf TypeTree) × (field_at (expanded t) i ≡ Some f))
      → Some_of p x s (λ a u. Reads p (act ∷ acts) s a u act c w i)
  reads_given c w i h k = of_known p x s w h _ (λ n t o e d.
      let f = k n t e in
      let there : field_at (expanded o.type) i ≡ Some f.0 = subst (λ (q : TypeTree). field_at (expanded q) i ≡ Some f.0) (sym d) f.1 in
      let r = or_trapped p x s (slice_get o.fields i) (λ a u y. (a.values ≡ unpacked c (f.0).storage y ∷ []) × (a.traps ≡ false) × (u ≡ s)) (λ y b. (giving (unpacked c (f.0).storage y ∷ []), s, (refl, refl, refl))) in
      (r.0, r.1, there_is p x s (field_at (expanded o.type) i) f.0 r.0 r.1 _ there r.2))

  struct_read : (stored : StorageOf TypeTree → Type 0) (c : Bool) (y i : ℕ) (o : GcOperator) (more : Code) → Next (plain (op.Gc o) more) → gc_can_trap o ≡ true
      → ((b : Answer) → execute p b act acts (plain (op.Gc o) more) ≡ read p b act acts stored struct_fields [] y i more)
      → ((a : Answer) (u : Store) → Reads p (act ∷ acts) s a u act c (top 0) i → GivesOperator p (act ∷ acts) s a u act (op.Gc o)) → Given (plain (op.Gc o) more)
  struct_read stored c y i o more next t e k =
      let r = reads_given c (top 0) i (top_knows 0) (λ n q d. field_there stored struct_fields [] y i i (op.Gc o) more next e (top 0) n q (last_one vs) d (struct_at i)) in
      may (op.Gc o) more t (r.0, r.1, k r.0 r.1 r.2)

  array_read : (stored : StorageOf TypeTree → Type 0) (c : Bool) (y : ℕ) (o : GcOperator) (more : Code) → Next (plain (op.Gc o) more) → gc_can_trap o ≡ true
      → ((b : Answer) → execute p b act acts (plain (op.Gc o) more) ≡ read p b act acts stored array_fields (i32_type ∷ []) y 0 more)
      → ((a : Answer) (u : Store) → Reads p (act ∷ acts) s a u act c (top 1) (index 0) → GivesOperator p (act ∷ acts) s a u act (op.Gc o)) → Given (plain (op.Gc o) more)
  array_read stored c y o more next t e k =
      let under = element_under p valid results act acts s v more still s stored y (op.Gc o) next e in
      let r = reads_given c (top 1) (index 0) (top_knows 1) (λ n q d. field_there stored array_fields (i32_type ∷ []) y 0 (index 0) (op.Gc o) more next e (top 1) n q under d (array_at (index 0))) in
      may (op.Gc o) more t (r.0, r.1, k r.0 r.1 r.2)

  -- the answer has what is read elsewhere of what is written
  writes_given : (w : Value) → Knows s w → (i : ℕ) (us given : List Value) → Some_of p x s (λ a u. Writes p (act ∷ acts) s a u act w i us given)
  writes_given w h i us given = of_known p x s w h _ (λ n t o e d.
      or_trapped p x s (placed o.fields i us) (λ a u zs. (a.values ≡ given) × (a.traps ≡ false) × (u ≡ with_fields s n o zs)) (λ zs b. (giving given, with_fields s n o zs, (refl, refl, refl))))

  -- ---- casts and conversions

  -- whether the value on top passes, by its own type
  passes_given : (h : HeapType) → (k : HeapOf TypeTree) × (meant_heap p.«module» h ≡ Some k) → (c : Bool) × ((n : ℕ) → Passes p (act ∷ acts) s (record (deciding c) { made = n }) s act h)
  passes_given h k = decided (fits_decided p (top 0) (top_made 0) k.0)
    where
      decided : Decided (Fits p (top 0) (ref false k.0)) → (c : Bool) × ((n : ℕ) → Passes p (act ∷ acts) s (record (deciding c) { made = n }) s act h)
      decided (inl f) = (true, λ n. there_is p x s (meant_heap p.«module» h) k.0 (record (deciding true) { made = n }) s _ k.1 ((λ e. f), (λ g. refl)))
      decided (inr m) = (false, λ n. there_is p x s (meant_heap p.«module» h) k.0 (record (deciding false) { made = n }) s _ k.1 ((λ e. absurd (true≢false (sym e))), (λ g. absurd (m g))))

  converts : (o : GcOperator) (h k : Abstract) (more : Code) → Next (plain (op.Gc o) more) → ((b : Answer) → execute p b act acts (plain (op.Gc o) more) ≡ convert p b act acts h k more)
      → (b : Answer) → (execute p b act acts (plain (op.Gc o) more)).is_answer → (c : Bool) × Fits p (top 0) (ref true (abstract c h))
  converts o h k more next e b i =
      let m = told p valid results act acts s v b (plain (op.Gc o) more) next i in
      let q = pops_split p valid results act acts s v more b s vs _ (subst (λ (n : Move). n.needs) (e b) m.0) (subst (λ (n : Move). IsValidOutcome p results n.outcome) (e b) m.1) in
      let is = q.3.0 in
      (is.0, subst (λ w. Fits p w (ref true (abstract is.0 h))) (sym (ap (λ l. get_or l 0 nothing) q.2)) is.1)

  to_extern : (w : Value) → GoesOut w → (a : Answer) × (u : Store) × (a.traps ≡ false) × ConvertsToExtern p (act ∷ acts) s a u act w
  to_extern (ref_null c h) g = (still, s, refl, (refl, refl))
  to_extern (ref_object k t) g = let w = ref_object k t in (giving (ref_extern (length s.externs) ∷ []), with_extern s w, refl, (length s.externs, refl, get_last s.externs w, inr refl))
  to_extern (ref_i31 b) g = let w = ref_i31 b in (giving (ref_extern (length s.externs) ∷ []), with_extern s w, refl, (length s.externs, refl, get_last s.externs w, inr refl))
  to_extern (ref_host k) g = let w = ref_host k in (giving (ref_extern (length s.externs) ∷ []), with_extern s w, refl, (length s.externs, refl, get_last s.externs w, inr refl))
  to_extern (number_value n b) g = absurd g
  to_extern (ref_function i t) g = absurd g
  to_extern (ref_extern k) g = absurd g
  to_extern (ref_exn k t) g = absurd g

  to_any : (w : Value) → Knows s w → ComesIn w → (a : Answer) × (u : Store) × (a.traps ≡ false) × ConvertsToAny p (act ∷ acts) s a u act w
  to_any (ref_null c h) d g = (still, s, refl, (refl, refl))
  to_any (ref_extern k) d g = (giving (d.0 ∷ []), s, refl, there_is p x s (slice_get s.externs k) d.0 (giving (d.0 ∷ [])) s _ d.1 (refl, refl, refl))
  to_any (number_value n b) d g = absurd g
  to_any (ref_function i t) d g = absurd g
  to_any (ref_object k t) d g = absurd g
  to_any (ref_i31 b) d g = absurd g
  to_any (ref_host k) d g = absurd g
  to_any (ref_exn k t) d g = absurd g

  unboxes_given : (c : Bool) (w : Value) → Some_of p x s (λ a u. Unboxes p (act ∷ acts) s a u act c w)
  unboxes_given c (ref_i31 b) = (making (extended c 31 b), s, (refl, (refl, refl, refl)))
  unboxes_given c (number_value n b) = (trap, s, (refl, (refl, refl)))
  unboxes_given c (ref_null q h) = (trap, s, (refl, (refl, refl)))
  unboxes_given c (ref_function i t) = (trap, s, (refl, (refl, refl)))
  unboxes_given c (ref_object k t) = (trap, s, (refl, (refl, refl)))
  unboxes_given c (ref_host k) = (trap, s, (refl, (refl, refl)))
  unboxes_given c (ref_extern k) = (trap, s, (refl, (refl, refl)))
  unboxes_given c (ref_exn k t) = (trap, s, (refl, (refl, refl)))

  -- the type with which an object is made, and that to which something is cast, are there
  type_made : (y : ℕ) (of : Holding) (takes_for : Fields → List ValueType) (further : Fields → Move → Move) (o : GcOperator) (more : Code) → Next (plain (op.Gc o) more)
      → ((b : Answer) → execute p b act acts (plain (op.Gc o) more) ≡ make p b act acts of y takes_for further more) → (t : TypeTree) × (slice_get p.«module».types y ≡ Some t)
  type_made y of takes_for further o more next e = must {A = TypeTree} (slice_get p.«module».types y)
      (λ t. found (of (expanded t)) (λ fs. takes p trap (takes_for fs) vs (λ us ws. further fs (goes p trap act acts (ref_object 0 t ∷ ws) more))))
      (subst (λ (n : Move). n.is_answer → n.needs × IsValidOutcome p results n.outcome) (e trap) (told p valid results act acts s v trap (plain (op.Gc o) more) next))

  -- elements from a data segment
  of_data : (d : ℕ) (t : TypeTree) (i n : ℕ) (F : Answer → Store → List Value → Type 0) → ((ws : List Value) → Some_of p x s (λ a u. F a u ws)) → Some_of p x s (λ a u. OfData p (act ∷ acts) s a u d t i n (F a u))
  of_data d t i n F k = or_trapped p x s (field_at (expanded t) 0) _ (λ (f : FieldOf TypeTree) e. or_trapped p x s (range (data_in s d) i (n * stored_size f.storage)) (λ a u bs. F a u (elements_from f.storage n bs)) (λ bs c. k (elements_from f.storage n bs)))

  gc_given : (o : GcOperator) (more : Code) → Next (plain (op.Gc o) more) → Given (plain (op.Gc o) more)
  gc_given gc.RefEq more next = calm (op.Gc gc.RefEq) more refl (making (truth (same (top 0) (top 1)))) s refl (refl, (refl, refl, refl))
  gc_given (gc.StructNew y) more next = making_given (gc.StructNew y) more y _ refl (type_made y struct_fields operands_of (λ fs m. m) (gc.StructNew y) more next (λ b. refl)) (λ a u h. h)
  gc_given (gc.StructNewDefault y) more next = making_given (gc.StructNewDefault y) more y _ refl (type_made y struct_fields (λ fs. []) (λ fs m. asks (HaveDefaults fs) m) (gc.StructNewDefault y) more next (λ b. refl)) (λ a u h. h)
  gc_given (gc.ArrayNew y) more next = making_given (gc.ArrayNew y) more y _ refl (type_made y array_fields (λ fs. operands_of fs ++ i32_type ∷ []) (λ fs m. m) (gc.ArrayNew y) more next (λ b. refl)) (λ a u h. h)
  gc_given (gc.ArrayNewDefault y) more next = making_given (gc.ArrayNewDefault y) more y _ refl (type_made y array_fields (λ fs. i32_type ∷ []) (λ fs m. asks (HaveDefaults fs) m) (gc.ArrayNewDefault y) more next (λ b. refl)) (λ a u h. h)
  gc_given (gc.ArrayNewFixed y n) more next = making_given (gc.ArrayNewFixed y n) more y _ refl
      (type_made y array_fields (λ fs. flat_map (λ (q : ValueType). replicate n q) (operands_of fs)) (λ fs m. m) (gc.ArrayNewFixed y n) more next (λ b. refl)) (λ a u h. h)
  gc_given (gc.ArrayNewData y d) more next =
      let t = must {A = TypeTree} (slice_get p.«module».types y) _ (told p valid results act acts s v trap (plain (op.Gc (gc.ArrayNewData y d)) more) next) in
      let r = of_data d t.0 (index 1) (index 0) (λ a u ws. Makes p (act ∷ acts) s a u t.0 ws []) (λ ws. (record still { made = length s.objects }, with_object s (record { type = t.0; fields = ws }), (refl, (refl, refl, refl)))) in
      may (op.Gc (gc.ArrayNewData y d)) more refl (r.0, r.1, there_is p x s (slice_get p.«module».types y) t.0 r.0 r.1 _ t.1 r.2)
  gc_given (gc.ArrayNewElem y i) more next =
      may (op.Gc (gc.ArrayNewElem y i)) more refl (or_trapped p x s (range (segment_in s i) (index 1) (index 0)) _ (λ us e.
      let r = makes_given y (must {A = TypeTree} (slice_get p.«module».types y) _ (told p valid results act acts s v trap (plain (op.Gc (gc.ArrayNewElem y i)) more) next)) (λ q. us) us in (r.0, r.1, r.3)))
  gc_given (gc.StructGet y i) more next = struct_read IsWhole false y i (gc.StructGet y i) more next refl (λ b. refl) (λ a u h. h)
  gc_given (gc.StructGetS y i) more next = struct_read IsPacked true y i (gc.StructGetS y i) more next refl (λ b. refl) (λ a u h. h)
  gc_given (gc.StructGetU y i) more next = struct_read IsPacked false y i (gc.StructGetU y i) more next refl (λ b. refl) (λ a u h. h)
  gc_given (gc.ArrayGet y) more next = array_read IsWhole false y (gc.ArrayGet y) more next refl (λ b. refl) (λ a u h. h)
  gc_given (gc.ArrayGetS y) more next = array_read IsPacked true y (gc.ArrayGetS y) more next refl (λ b. refl) (λ a u h. h)
  gc_given (gc.ArrayGetU y) more next = array_read IsPacked false y (gc.ArrayGetU y) more next refl (λ b. refl) (λ a u h. h)
  gc_given (gc.StructSet y i) more next = may (op.Gc (gc.StructSet y i)) more refl (writes_given (top 1) (top_knows 1) i (take 1 vs) [])
  gc_given (gc.ArraySet y) more next = may (op.Gc (gc.ArraySet y)) more refl (writes_given (top 2) (top_knows 2) (index 1) (take 1 vs) [])
  gc_given (gc.ArrayFill y) more next = may (op.Gc (gc.ArrayFill y)) more refl (writes_given (top 3) (top_knows 3) (index 2) (replicate (index 0) (top 1)) [])
  gc_given gc.ArrayLen more next = may (op.Gc gc.ArrayLen) more refl (of_known p x s (top 0) (top_knows 0) _ (λ k t o e d. (making (length o.fields), s, (refl, (refl, refl, refl)))))
  gc_given (gc.ArrayCopy y z) more next = may (op.Gc (gc.ArrayCopy y z)) more refl
      (of_known p x s (top 2) (top_knows 2) _ (λ k t o e d. or_trapped p x s (range o.fields (index 1) (index 0)) _ (λ us b. writes_given (top 4) (top_knows 4) (index 3) us us)))
  gc_given (gc.ArrayInitData y d) more next = may (op.Gc (gc.ArrayInitData y d)) more refl
      (of_known p x s (top 3) (top_knows 3) _ (λ k t o e b. of_data d o.type (index 1) (index 0) (λ a u ws. WritesTo p (act ∷ acts) s a u act k o (index 2) ws [])
      (λ ws. or_trapped p x s (placed o.fields (index 2) ws) (λ a u zs. Gives p (act ∷ acts) s a u [] (with_fields s k o zs)) (λ zs c. (still, with_fields s k o zs, (refl, refl, refl))))))
  gc_given (gc.ArrayInitElem y i) more next = may (op.Gc (gc.ArrayInitElem y i)) more refl
      (or_trapped p x s (range (segment_in s i) (index 1) (index 0)) _ (λ us e. writes_given (top 3) (top_knows 3) (index 2) us us))
  gc_given (gc.RefTestNonNull h) more next =
      let r = passes_given h (must {A = HeapOf TypeTree} (meant_heap p.«module» h) _ (told p valid results act acts s v still (plain (op.Gc (gc.RefTestNonNull h)) more) next)) in
      let n = truth (if is_null (top 0) then false else r.0) in
      calm (op.Gc (gc.RefTestNonNull h)) more refl (record (deciding r.0) { made = n }) s refl (r.1 n, (refl, (refl, refl, refl)))
  gc_given (gc.RefTestNullable h) more next =
      let r = passes_given h (must {A = HeapOf TypeTree} (meant_heap p.«module» h) _ (told p valid results act acts s v still (plain (op.Gc (gc.RefTestNullable h)) more) next)) in
      let n = truth (if is_null (top 0) then true else r.0) in
      calm (op.Gc (gc.RefTestNullable h)) more refl (record (deciding r.0) { made = n }) s refl (r.1 n, (refl, (refl, refl, refl)))
  gc_given (gc.RefCastNonNull h) more next =
      let r = passes_given h (must {A = HeapOf TypeTree} (meant_heap p.«module» h) _ (told p valid results act acts s v still (plain (op.Gc (gc.RefCastNonNull h)) more) next)) in
      may (op.Gc (gc.RefCastNonNull h)) more refl (deciding r.0, s, (r.1 0, (refl, refl)))
  gc_given (gc.RefCastNullable h) more next =
      let r = passes_given h (must {A = HeapOf TypeTree} (meant_heap p.«module» h) _ (told p valid results act acts s v still (plain (op.Gc (gc.RefCastNullable h)) more) next)) in
      may (op.Gc (gc.RefCastNullable h)) more refl (deciding r.0, s, (r.1 0, (refl, refl)))
  gc_given (gc.BrOnCast n from to) more next =
      let k = must_too {A = HeapOf TypeTree} {B = HeapOf TypeTree} (meant_heap p.«module» from.heap) (meant_heap p.«module» to.heap) _ (told p valid results act acts s v still (plain (op.Gc (gc.BrOnCast n from to)) more) next) in
      let r = passes_given to.heap k in
      calm (op.Gc (gc.BrOnCast n from to)) more refl (deciding r.0) s refl (r.1 0, (refl, refl))
  gc_given (gc.BrOnCastFail n from to) more next =
      let k = must_too {A = HeapOf TypeTree} {B = HeapOf TypeTree} (meant_heap p.«module» from.heap) (meant_heap p.«module» to.heap) _ (told p valid results act acts s v still (plain (op.Gc (gc.BrOnCastFail n from to)) more) next) in
      let r = passes_given to.heap k in
      calm (op.Gc (gc.BrOnCastFail n from to)) more refl (deciding r.0) s refl (r.1 0, (refl, refl))
  gc_given gc.AnyConvertExtern more next =
      let q = gc_answered p act acts gc.AnyConvertExtern more in
      let f = converts gc.AnyConvertExtern extern any more next (λ b. refl) q.0 (q.1).is in
      let r = to_any (top 0) (top_knows 0) (external p (top 0) f.0 f.1) in
      calm (op.Gc gc.AnyConvertExtern) more refl r.0 r.1 r.2 r.3
  gc_given gc.ExternConvertAny more next =
      let q = gc_answered p act acts gc.ExternConvertAny more in
      let f = converts gc.ExternConvertAny any extern more next (λ b. refl) q.0 (q.1).is in
      let r = to_extern (top 0) (internal p (top 0) f.0 f.1) in
      calm (op.Gc gc.ExternConvertAny) more refl r.0 r.1 r.2 r.3
  gc_given gc.RefI31 more next = calm (op.Gc gc.RefI31) more refl (giving (ref_i31 (index 0 % 2 ^ 31) ∷ [])) s refl (refl, refl, refl)
  gc_given gc.I31GetS more next = may (op.Gc gc.I31GetS) more refl (unboxes_given true (top 0))
  gc_given gc.I31GetU more next = may (op.Gc gc.I31GetU) more refl (unboxes_given false (top 0))

  -- ---- constants, vectors and atomic accesses

  constant_given : (o : ConstOperator) (more : Code) → Given (plain (op.Const o) more)
  constant_given (const.I32Const n) more = calm (op.Const (const.I32Const n)) more refl (giving (number_value i32 (integer_bits 32 n) ∷ [])) s refl (refl, refl, refl)
  constant_given (const.I64Const n) more = calm (op.Const (const.I64Const n)) more refl (giving (number_value i64 (integer_bits 64 n) ∷ [])) s refl (refl, refl, refl)
  constant_given (const.F32Const b) more = calm (op.Const (const.F32Const b)) more refl (giving (number_value f32 (b.0 % 2 ^ 32) ∷ [])) s refl (refl, refl, refl)
  constant_given (const.F64Const b) more = calm (op.Const (const.F64Const b)) more refl (giving (number_value f64 (b.0 % 2 ^ 64) ∷ [])) s refl (refl, refl, refl)

  -- numbers that are computed
  abbrev computing : Op → Answer
  computing o = giving (values_for (computed (info_of o).name))

  computed_given : (o : Op) (more : Code) → Next (plain o more) → ((b : Answer) → operate p b act acts o more ≡ compute p b act acts o more)
      → ((a : Answer) (u : Store) → Outside p (act ∷ acts) s a u → GivesOperator p (act ∷ acts) s a u act o) → Given (plain o more)
  computed_given o more next e g = (
    computing o,
    s,
    g (computing o) s (outside o more next (computing o) (subst (λ (n : Move). n.is_answer) (sym (e (computing o))) (computes o more)) (values_number (computed (info_of o).name)) quiet),
    λ d. absurd ((subst Ends (sym (e (computing o))) (compute_ends p (computing o) act acts refl o more)).never d),
  )

  -- an operator on integers: its value, or a trap, and only of an operator that may trap
  numeric_given : (o : NumericOperator) (more : Code) → Next (plain (op.Numeric o) more) → (k : Option Operation) → integer_operation o ≡ k
      → Given (plain (op.Numeric o) more)
  numeric_given o more next None e = computed_given (op.Numeric o) more next (λ b. refl)
      (λ a u h. subst (λ (q : Option Operation). OrOutside p (act ∷ acts) s a u act q (Calculates p (act ∷ acts) s a u act)) (sym e) h)
  numeric_given o more next (Some r) e = valued (r.value (index 1) (index 0)) refl
    where
      F : Answer → ℕ → Type 0
      F a c = Gives p (act ∷ acts) s a s (number_value r.gives c ∷ []) s

      as_given : (a : Answer) (c : Option ℕ) → r.value (index 1) (index 0) ≡ c → OrTraps p (act ∷ acts) s a s c (F a) → GivesOperator p (act ∷ acts) s a s act (op.Numeric o)
      as_given a c d h = subst (λ (q : Option Operation). OrOutside p (act ∷ acts) s a s act q (Calculates p (act ∷ acts) s a s act)) (sym e)
          (subst (λ (q : Option ℕ). OrTraps p (act ∷ acts) s a s q (F a)) (sym d) h)

      traps_so : (t : Bool) → can_trap (op.Numeric o) ≡ t → r.value (index 1) (index 0) ≡ None → t ≡ true
      traps_so true c d = refl
      traps_so false c d = absurd (true≢false (sym ((row_is o r e).defined c (index 1) (index 0)) ∙ ap is_some d))

      valued : (c : Option ℕ) → r.value (index 1) (index 0) ≡ c → Given (plain (op.Numeric o) more)
      valued None d = (trap, s, as_given trap None d (refl, (refl, refl)), λ t. traps_so (can_trap (op.Numeric o)) refl d)
      valued (Some b) d = (
        giving (number_value r.gives b ∷ []),
        s,
        as_given (giving (number_value r.gives b ∷ [])) (Some b) d (refl, refl, refl),
        λ t. absurd ((compute_ends p (giving (number_value r.gives b ∷ [])) act acts refl (op.Numeric o) more).never t),
      )

  vector_outside : (o : SimdOperator) (more : Code) → Next (plain (op.Simd o) more) → (i : Option MemArg) → argument_of (immediates_of (op.Simd o)) ≡ i
      → (a : Answer) × Outside p (act ∷ acts) s a s × ((execute p a act acts (plain (op.Simd o) more)).outcome ≡ trapped → IsTrue (can_trap (op.Simd o)))
  vector_outside o more next None e = (
    computing (op.Simd o),
    outside (op.Simd o) more next (computing (op.Simd o)) (subst (λ (i : Option MemArg). (operate_vector p (computing (op.Simd o)) act acts i (op.Simd o) more).is_answer) (sym e) (computes (op.Simd o) more)) (values_number (computed (info_of (op.Simd o)).name)) quiet,
    λ d. absurd ((operate_ends p (computing (op.Simd o)) act acts refl (op.Simd o) more (ap is_some e)).never d),
  )
  vector_outside o more next (Some i) e = (
    trap,
    outside (op.Simd o) more next trap (subst (λ (j : Option MemArg). (operate_vector p trap act acts j (op.Simd o) more).is_answer) (sym e) ((access_traps p act acts (op.Simd o) more).is)) tt (λ d. ap is_some e),
    λ d. ap is_some e,
  )

  vector_given : (o : SimdOperator) (more : Code) → Next (plain (op.Simd o) more) → (r : Option Reach) → simd_access o ≡ r → Given (plain (op.Simd o) more)
  vector_given o more next None e =
      let k = vector_outside o more next (argument_of (immediates_of (op.Simd o))) refl in
      (k.0, s, subst (λ (q : Option Reach). OrOutside p (act ∷ acts) s k.0 s act q (Reaches p (act ∷ acts) s k.0 s act)) (sym e) k.1, k.2)
  vector_given o more next (Some r) e =
      let k = access_given r.argument r.access in
      may (op.Simd o) more (ap is_some (simd_carried o r e)) (k.0, k.1, subst (λ (q : Option Reach). OrOutside p (act ∷ acts) s k.0 k.1 act q (Reaches p (act ∷ acts) s k.0 k.1 act)) (sym e) k.2)

  -- bytes are written, if any
  replaced_given : (r : AtomicAccess) (c : Option ℕ) (ws : List Value) → Some_of p x s (λ a u. Replaces p (act ∷ acts) s a u act r c ws)
  replaced_given r None ws = (giving ws, s, (refl, refl, refl))
  replaced_given r (Some c) ws = at (is_shared_memory (slice_get p.«module».memories r.argument.memory))
    where
      F : Answer → Store → List ℕ → Type 0
      F a u cs = Gives p (act ∷ acts) s a u ws (with_memory s r.argument.memory cs)

      place : Option (List ℕ)
      place = placed (memory_in s r.argument.memory) (index (length r.takes) + r.argument.offset) (bytes_of r.size c)

      at : (b : Bool) → Some_of p x s (λ a u. Either b (Gives p (act ∷ acts) s a u ws s) (OrTraps p (act ∷ acts) s a u place (F a u)))
      at true = (giving ws, s, (refl, refl, refl))
      at false = or_trapped p x s place F (λ cs e. (giving ws, with_memory s r.argument.memory cs, (refl, refl, refl)))

  aligned_given : (r : AtomicAccess) → Some_of p x s (λ a u. Aligned p (act ∷ acts) s a u act r)
  aligned_given r = at (is_misaligned (index (length r.takes) + r.argument.offset) r.size)
    where
      F : Answer → Store → List ℕ → Type 0
      F a u bs = Replaces p (act ∷ acts) s a u act r (r.written (index 0) (index 1) (number_of bs)) (number_given r.gives (r.given (number_of bs)))

      at : (b : Bool) → Some_of p x s (λ a u. Either b (Traps p (act ∷ acts) s a u) (Exchanges p (act ∷ acts) s a u act r))
      at true = (trap, s, (refl, (refl, refl)))
      at false = read_bytes r.argument.memory (index (length r.takes) + r.argument.offset) r.size F (λ bs. replaced_given r
          (r.written (index 0) (index 1) (number_of bs)) (number_given r.gives (r.given (number_of bs))))

  exchange_given : (o : Option AtomicAccess) → is_some o ≡ true → Some_of p x s (λ a u. There p (act ∷ acts) s a u o (Aligned p (act ∷ acts) s a u act))
  exchange_given None e = absurd (true≢false (sym e))
  exchange_given (Some r) e = aligned_given r

  -- of a memory that other threads use: it traps
  others_given : (o : AtomicOperator) (more : Code) (m : MemArg) (F : Answer → Store → Type 0) → Next (plain (op.Atomic o) more)
      → can_trap (op.Atomic o) ≡ true → (operate p trap act acts (op.Atomic o) more).is_answer
      → Some_of p x s F → Some_of p x s (λ a u. ByOthers p (act ∷ acts) s a u act m (F a u))
  others_given o more m F next c i f = at (is_shared_memory (slice_get p.«module».memories m.memory))
    where
      at : (b : Bool) → Some_of p x s (λ a u. Either b (Outside p (act ∷ acts) s a u) (F a u))
      at true = (trap, s, outside (op.Atomic o) more next trap i tt (λ e. c))
      at false = f

  atomic_given : (o : AtomicOperator) (more : Code) → Next (plain (op.Atomic o) more) → Given (plain (op.Atomic o) more)
  atomic_given atomic.AtomicFence more next = calm (op.Atomic atomic.AtomicFence) more refl still s refl (refl, refl)
  atomic_given (atomic.MemoryAtomicNotify m) more next = let o = atomic.MemoryAtomicNotify m in
      may (op.Atomic o) more refl (others_given o more m (λ a u. Aligned p (act ∷ acts) s a u act (notification m)) next refl
      ((access_traps p act acts (op.Atomic o) more).is) (aligned_given (notification m)))
  atomic_given (atomic.MemoryAtomicWait32 m) more next = let o = atomic.MemoryAtomicWait32 m in
      may (op.Atomic o) more refl (others_given o more m (λ a u. Traps p (act ∷ acts) s a u) next refl ((access_traps p act acts (op.Atomic o) more).is)
      (trap, s, (refl, (refl, refl))))
  atomic_given (atomic.MemoryAtomicWait64 m) more next = let o = atomic.MemoryAtomicWait64 m in
      may (op.Atomic o) more refl (others_given o more m (λ a u. Traps p (act ∷ acts) s a u) next refl ((access_traps p act acts (op.Atomic o) more).is)
      (trap, s, (refl, (refl, refl))))
  atomic_given o more next = may (op.Atomic o) more refl (exchange_given (atomic_access o) refl)

  -- ---- all operators, and all instructions

  operator_given : (o : Op) (more : Code) → Next (plain o more) → Given (plain o more)
  operator_given (op.Control o) more next = control_given o more next
  operator_given (op.Parametric o) more next = parametric_given o more
  operator_given (op.Exception o) more next = exception_given o more next
  operator_given (op.Memory o) more next = memory_given o more next
  operator_given (op.Bulk o) more next = bulk_given o more next
  operator_given (op.Gc o) more next = gc_given o more next
  operator_given (op.Const o) more next = constant_given o more
  operator_given (op.Numeric o) more next = numeric_given o more next (integer_operation o) refl
  operator_given (op.Simd o) more next = vector_given o more next (simd_access o) refl
  operator_given (op.SimdNumeric o) more next = computed_given (op.SimdNumeric o) more next (λ b. refl) (λ a u h. h)
  operator_given (op.Atomic o) more next = atomic_given o more next
  operator_given (op.Descriptor o) more next = calm (op.Descriptor o) more refl still s refl (outside (op.Descriptor o) more next still tt tt quiet)
  operator_given (op.Shared o) more next = calm (op.Shared o) more refl still s refl (outside (op.Shared o) more next still tt tt quiet)
  operator_given (op.Continuation o) more next = calm (op.Continuation o) more refl still s refl (outside (op.Continuation o) more next still tt tt quiet)

  block_given : (o : Op) (body more : Code) → Given (nested o body more)
  block_given (op.Control (control.If bt)) body more = let a : Answer = deciding (is_true (top 0)) in
      (a, s, (refl, (refl, refl)), λ d. absurd ((block_ends p a act acts refl (op.Control (control.If bt)) body more).never d))
  block_given o body more = (still, s, (refl, refl), λ d. absurd ((block_ends p still act acts refl o body more).never d))

  code_given : (c : Code) → Next c → Given c
  code_given (close o) next = (still, s, (refl, refl), λ d. absurd ((close_ends p still act acts refl o).never d))
  code_given (plain o more) next = operator_given o more next
  code_given (nested o body more) next = block_given o body more
  code_given (turn o more) next = (still, s, (refl, refl), λ d. absurd ((turn_ends p still act acts refl o more).never d))

pub store_answers_exist : StoreAnswersExist
store_answers_exist p results [] s valid v = absurd v.state
store_answers_exist p results (act ∷ acts) s valid v = code_given p valid results act acts s v act.innermost.code refl
