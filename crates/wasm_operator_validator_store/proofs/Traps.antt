-- That no other steps trap: an answer without a trap is given, or the step reads of none.
use Rattle.std.proofs.Common.{◌≡◌, ℕ, suc, ◌+◌, ◌*◌, ◌%◌, Bool, true, false, not, IsTrue, is_some, List, [], ◌∷◌, ◌++◌, length, take, drop, replicate, get_or, Option, Some, None, if◌then◌else◌, option_map, slice_get, refl, sym, ap, subst, ◌∙◌, true≢false}
use Rattle.std.specs.Prelude.{◌⊎◌, ◌||◌, ◌&&◌}
use Rattle.std.proofs.lemmas.List.{length-replicate}
use mathlib.Core.Logic.{⊎_elim}
use Rattle.wasm_types.specs.trees.Types.{i32, array, i31, extern, any, exn, Abstract, HeapOf, StorageOf, FieldOf, InnerOf, ref, concrete, abstract}
use Rattle.wasm_types.specs.trees.Trees.{TypeTree}
use Rattle.wasm_types.specs.trees.Below.{expanded}
use Rattle.wasm_types.specs.externs.declared.memory.MemoryType.{MemoryType}
use Rattle.wasm_operators_immediates.specs.declared.memory.MemArg.{MemArg}
use Rattle.wasm_operators_enums.specs.declared.numeric.NumericOperator.{NumericOperator}
use Rattle.wasm_operators_enums.specs.declared.atomic.AtomicOperator.{AtomicOperator}
use Rattle.wasm_operators_enums.specs.declared.atomic.AtomicOperator.TheVariants as atomic
use Rattle.wasm_operators_enums.specs.declared.vector.SimdOperator.{SimdOperator}
use Rattle.wasm_operators_enums.specs.Table.{info_of}
use Rattle.wasm_operators_enums.specs.Immediates.{immediates_of}
use Rattle.wasm_operators_enums.specs.declared.control.ControlOperator.{ControlOperator}
use Rattle.wasm_operators_enums.specs.declared.control.ControlOperator.TheVariants as control
use Rattle.wasm_operators_enums.specs.declared.memory.MemoryOperator.{MemoryOperator}
use Rattle.wasm_operators_enums.specs.declared.memory.MemoryOperator.TheVariants as memory
use Rattle.wasm_operators_enums.specs.declared.constant.ConstOperator.{ConstOperator}
use Rattle.wasm_operators_enums.specs.declared.constant.ConstOperator.TheVariants as const
use Rattle.wasm_operators_enums.specs.declared.bulk.BulkOperator.{BulkOperator}
use Rattle.wasm_operators_enums.specs.declared.bulk.BulkOperator.TheVariants as bulk
use Rattle.wasm_operators_enums.specs.declared.gc.GcOperator.{GcOperator}
use Rattle.wasm_operators_enums.specs.declared.gc.GcOperator.TheVariants as gc
use Rattle.wasm_operators_enums.specs.Op as op
use Rattle.wasm_operators_enums.specs.Op.{Op, ParametricTree, ExceptionTree}
use Rattle.wasm_operators_encoding.specs.expressions.Code.{Code, close, plain, nested, turn}
use Rattle.wasm_operator_validator_rules.specs.Operands.{ValueType, stack}
use Rattle.wasm_operator_validator_rules.specs.Context.{Table, Signature}
use Rattle.wasm_operator_validator_rules.specs.InstructionTypes.{i32_type}
use Rattle.wasm_operator_validator_rules.specs.Numbers.{numbers}
use Rattle.wasm_operator_validator_soundness.specs.runs.Values.{Body, Function, Program, Value, number_value, ref_null, ref_function, ref_object, ref_i31, ref_extern, ref_exn, is_null, least_type, IsAReference, IsMade, IsAkin, Fits, AllFit}
use Rattle.wasm_operator_validator_soundness.specs.runs.States.{Exception, Activation, State, Answer}
use Rattle.wasm_operator_validator_soundness.specs.runs.Names.{Places, accessed, argument_of}
use Rattle.wasm_operator_validator_soundness.specs.runs.States.{trapped, stuck, Move, done, asks, choose, found, pops}
use Rattle.wasm_operator_validator_soundness.specs.runs.Machine.{operand_of, struct_fields, array_fields, IsWhole, IsPacked, IsArray, IsUnboxed, function_type, body_of, meant_heap, last_of, begin, invoke, call, call_reference, goes, object, object_under, read, write, cast, exchange, access, operate_vector, address, number_from, caught_at, throw_reference, operate, execute, writes as writes_field, AreStoredAlike, FromData, copies}
use Rattle.wasm_operator_validator_soundness.specs.runs.Progress.{control_can_trap, exception_can_trap, memory_can_trap, bulk_can_trap, gc_can_trap, can_trap, code_can_trap, next_can_trap}
use Rattle.wasm_operator_validator_soundness.proofs.Progress.{no_trap, control_any, caught_whatever}
use Rattle.wasm_operator_validator_store.specs.Stores.{ObjectInstance, Store, field_at, range, placed, nothing, bits_of, grown, table_in, memory_at, memory_in, data_in, with_memory, segment_in, with_table}
use Rattle.wasm_operator_validator_store.specs.Atomics.{is_misaligned, AtomicAccess, number_given, notification, atomic_access}
use Rattle.wasm_operator_validator_store.specs.Memories.{number_of, bytes_of, past, Access, reads, writes, Reach, memory_access, simd_access, number_count, stored_type, stored_size, elements_from}
use Rattle.wasm_operator_validator_store.specs.ValidStores.{Each, IsByte}
use Rattle.wasm_operator_validator_store.specs.Giving.{is_shared_memory, Either, Traps, Gives, Makes, shared, Reading, Writing, Sized, size_of, GrowsTo, OfData, Accesses, Reaches, OrOutside, Tells, Outside, OrTraps, There, OfObject, ThrowsAgain, MakesNamed, Reads, Writes, ConvertsToAny, Unboxes, GivesControl, GivesException, GivesMemory, GivesBulk, GivesGc, GivesConstant, Replaces, Exchanges, Aligned, ByOthers, GivesAtomic, GivesOperator, GivesBlock, GivesCode, WritesTo, Calculates}
use Rattle.wasm_operator_validator_store.specs.Determined.{reach_is_determined, is_own, is_own_at, is_determined}
use Rattle.wasm_operator_validator_store.specs.Traps.{object_of, stored_past, filled_past, access_past, reach_past, data_past, memory_past, elements_past, made_past, is_missing, of_fields, is_unboxed, fields_of, reads_past, writes_past, calls_other, control_traps, exception_traps, bulk_traps, gc_traps, exchange_at, exchange_past, exchange_traps, atomic_traps, traps, code_traps, OnlyTheseTrap, table_past, segment_past, elements_end, is_undefined}
use Rattle.wasm_operator_validator_store.proofs.Bytes.{range_length, range_missing, placed_missing, bytes_length, elements_length}
use Rattle.wasm_operator_validator_store.proofs.Memories.{simd_carried}
use Rattle.wasm_operator_validator_store.proofs.Same.{Same, same_convert}
use Rattle.wasm_operator_validator_store.proofs.Determined.{operator_same, code_same}
use Rattle.wasm_operator_validator_store.proofs.Ending.{Ends, done_ends, asks_ends, allows_ends, goes_ends, found_ends, pops_ends, again_ends, on, operate_ends, block_ends, close_ends, turn_ends, compute_ends}
use Rattle.wasm_operator_validator_store.specs.Integers.{Operation, integer_operation}
use Rattle.wasm_operator_validator_store.proofs.Integers.{row_is}

-- a record made without a trap
abbrev without_trap : Answer → Answer
without_trap a = record a { traps = false }

-- as of a step that comes to the same
ends_as : (m n : Move) → Same m n → Ends n → Ends m
ends_as m n e k = record { never = λ d. k.never (sym e ∙ d) }

quiet : {Q : Type 0} → true ≡ false → Q
quiet e = absurd (true≢false e)

module _ (p : Program) (act : Activation) (acts : List Activation) (s : Store) (a : Answer) (u : Store) where
  abbrev x : State
  x = act ∷ acts

  abbrev b : Answer
  b = without_trap a

  -- ---- what is given to an operator that never traps is given without a trap too

  there_too : {A : Type 0} (o : Option A) (F G : A → Type 0) → ((y : A) → F y → G y) → There p x s a u o F → There p x s b u o G
  there_too None F G f h = h
  there_too (Some y) F G f h = f y h

  named_too : (n : ℕ) (fields : TypeTree → List Value) (given : List Value) → MakesNamed p x s a u act n fields given → MakesNamed p x s b u act n fields given
  named_too n fields given h = there_too {A = TypeTree} (slice_get p.«module».types n) _ _ (λ t k. (k.0, (k.1.0, refl, k.1.2))) h

  control_quiet : (o : ControlOperator) → control_can_trap o ≡ false → GivesControl p x s a u act o → GivesControl p x s b u act o
  control_quiet (control.Call n) c h = quiet c
  control_quiet (control.ReturnCall n) c h = quiet c
  control_quiet (control.CallIndirect y n) c h = quiet c
  control_quiet (control.ReturnCallIndirect y n) c h = quiet c
  control_quiet (control.CallRef n) c h = quiet c
  control_quiet (control.ReturnCallRef n) c h = quiet c
  control_quiet o c h = h

  exception_quiet : (o : ExceptionTree) → exception_can_trap o ≡ false → GivesException p x s a u act o → GivesException p x s b u act o
  exception_quiet op.ThrowRef c h = quiet c
  exception_quiet (op.Rethrow n) c h = subst (λ (o : Option Exception). There p x s b u o (λ (e : Exception). ThrowsAgain p x s b u e.address)) (caught_whatever p act acts a b n (act.innermost ∷ act.around))
      (there_too {A = Exception} (caught_at p a act acts n (act.innermost ∷ act.around)) _ _ (λ e k. k) h)
  exception_quiet o c h = h

  memory_quiet : (o : MemoryOperator) → memory_can_trap o ≡ false → IsTrue (is_determined p s act (op.Memory o)) → GivesMemory p x s a u act o → GivesMemory p x s b u act o
  memory_quiet (memory.LocalGet n) c d h = h
  memory_quiet (memory.LocalSet n) c d h = h
  memory_quiet (memory.LocalTee n) c d h = h
  memory_quiet (memory.GlobalGet n) c d h = (h.0, refl, h.2)
  memory_quiet (memory.GlobalSet n) c d h = (h.0, refl, h.2)
  memory_quiet (memory.MemorySize n) c d h = at (is_shared_memory (slice_get p.«module».memories n)) h
    where
      at : (q : Bool) → Either q (Sized p x s a u n) (Gives p x s a u (size_of p x s a u n ∷ []) s) → Either q (Sized p x s b u n) (Gives p x s b u (size_of p x s b u n ∷ []) s)
      at true h = (h.0, h.1, (h.2.0, refl, h.2.2))
      at false h = (h.0, refl, h.2)
  memory_quiet (memory.MemoryGrow n) c d h = quiet (sym d)
  memory_quiet o c d h = quiet c

  vector_quiet : (o : SimdOperator) (r : Option Reach) → simd_access o ≡ r → can_trap (op.Simd o) ≡ false → IsTrue (reach_is_determined p r) → {Q : Type 0} → Q
  vector_quiet o None e c d = quiet (sym d)
  vector_quiet o (Some r) e c d = quiet (sym (ap is_some (simd_carried o r e)) ∙ c)

  bulk_quiet : (o : BulkOperator) → bulk_can_trap o ≡ false → IsTrue (is_determined p s act (op.Bulk o)) → GivesBulk p x s a u act o → GivesBulk p x s b u act o
  bulk_quiet (bulk.RefNull q) c d h = h
  bulk_quiet bulk.RefIsNull c d h = (h.0, (h.1.0, refl, h.1.2))
  bulk_quiet (bulk.RefFunc n) c d h = h
  bulk_quiet (bulk.TableSize n) c d h = (h.0, refl, h.2)
  bulk_quiet (bulk.ElemDrop n) c d h = (h.0, refl, h.2)
  bulk_quiet (bulk.DataDrop n) c d h = (h.0, refl, h.2)
  bulk_quiet (bulk.TableGrow n) c d h = quiet (sym d)
  bulk_quiet o c d h = quiet c

  any_too : (v : Value) → ConvertsToAny p x s a u act v → ConvertsToAny p x s b u act v
  any_too (ref_null q k) h = h
  any_too (ref_extern k) h = there_too {A = Value} (slice_get s.externs k) _ _ (λ v k. (k.0, refl, k.2)) h
  any_too v h = absurd h

  gc_quiet : (o : GcOperator) → gc_can_trap o ≡ false → IsTrue (is_determined p s act (op.Gc o)) → GivesGc p x s a u act o → GivesGc p x s b u act o
  gc_quiet gc.RefEq c d h = (h.0, (h.1.0, refl, h.1.2))
  gc_quiet (gc.StructNew n) c d h = named_too n _ _ h
  gc_quiet (gc.StructNewDefault n) c d h = named_too n _ _ h
  gc_quiet (gc.ArrayNew n) c d h = named_too n _ _ h
  gc_quiet (gc.ArrayNewDefault n) c d h = named_too n _ _ h
  gc_quiet (gc.ArrayNewFixed n k) c d h = named_too n _ _ h
  gc_quiet (gc.RefTestNonNull q) c d h = (h.0, (h.1.0, (h.1.1.0, refl, h.1.1.2)))
  gc_quiet (gc.RefTestNullable q) c d h = (h.0, (h.1.0, (h.1.1.0, refl, h.1.1.2)))
  gc_quiet (gc.BrOnCast n from to) c d h = h
  gc_quiet (gc.BrOnCastFail n from to) c d h = h
  gc_quiet gc.AnyConvertExtern c d h = any_too (get_or act.innermost.values 0 nothing) h
  gc_quiet gc.RefI31 c d h = (h.0, refl, h.2)
  gc_quiet gc.ExternConvertAny c d h = quiet (sym d)
  gc_quiet o c d h = quiet c

  constant_quiet : (o : ConstOperator) → GivesConstant p x s a u act o → GivesConstant p x s b u act o
  constant_quiet (const.I32Const n) h = (h.0, refl, h.2)
  constant_quiet (const.I64Const n) h = (h.0, refl, h.2)
  constant_quiet (const.F32Const n) h = (h.0, refl, h.2)
  constant_quiet (const.F64Const n) h = (h.0, refl, h.2)

  -- a fence
  atomic_quiet : (o : AtomicOperator) → can_trap (op.Atomic o) ≡ false → GivesAtomic p x s a u act o → GivesAtomic p x s b u act o
  atomic_quiet atomic.AtomicFence c h = h
  atomic_quiet o c h = quiet c

  -- an operator on integers that always has a value
  numeric_quiet : (o : NumericOperator) (k : Option Operation) → integer_operation o ≡ k → can_trap (op.Numeric o) ≡ false → IsTrue (is_some k)
      → OrOutside p x s a u act k (Calculates p x s a u act) → OrOutside p x s b u act k (Calculates p x s b u act)
  numeric_quiet o None e c d h = quiet (sym d)
  numeric_quiet o (Some r) e c d h = at (r.value (bits_of (get_or act.innermost.values 1 nothing)) (bits_of (get_or act.innermost.values 0 nothing)))
      ((row_is o r e).defined c (bits_of (get_or act.innermost.values 1 nothing)) (bits_of (get_or act.innermost.values 0 nothing))) h
    where
      at : (k : Option ℕ) → is_some k ≡ true → OrTraps p x s a u k (λ n. Gives p x s a u (number_value r.gives n ∷ []) s)
          → OrTraps p x s b u k (λ n. Gives p x s b u (number_value r.gives n ∷ []) s)
      at None d h = quiet (sym d)
      at (Some n) d h = (h.0, refl, h.2)

  operator_quiet : (o : Op) → can_trap o ≡ false → IsTrue (is_determined p s act o) → GivesOperator p x s a u act o → GivesOperator p x s b u act o
  operator_quiet (op.Control o) c d h = control_quiet o c h
  operator_quiet (op.Parametric op.Drop) c d h = h
  operator_quiet (op.Parametric o) c d h = h
  operator_quiet (op.Exception o) c d h = exception_quiet o c h
  operator_quiet (op.Memory o) c d h = memory_quiet o c d h
  operator_quiet (op.Simd o) c d h = vector_quiet o (simd_access o) refl c d
  operator_quiet (op.Bulk o) c d h = bulk_quiet o c d h
  operator_quiet (op.Gc o) c d h = gc_quiet o c d h
  operator_quiet (op.Const o) c d h = constant_quiet o h
  operator_quiet (op.Numeric o) c d h = numeric_quiet o (integer_operation o) refl c d h
  operator_quiet (op.Atomic o) c d h = atomic_quiet o c h
  operator_quiet o c d h = quiet (sym d)

  -- an operator that never traps, and whose answers are determined
  determined_ends : (o : Op) (more : Code) → can_trap o ≡ false → IsTrue (is_determined p s act o) → GivesOperator p x s a u act o → Ends (operate p a act acts o more)
  determined_ends o more c d h = ends_as (operate p a act acts o more) (operate p b act acts o more) ((operator_same p act acts s a b u u more o d h (operator_quiet o c d h)).0) (operate_ends p b act acts refl o more c)

  -- and numbers from outside
  outside_calm : (o : Op) (more : Code) → act.innermost.code ≡ plain o more → can_trap o ≡ false → Outside p x s a u → a.traps ≡ false
  outside_calm o more e c h = at a.traps h.3
    where
      at : (t : Bool) → (IsTrue t → IsTrue (next_can_trap x)) → t ≡ false
      at false k = refl
      at true k = absurd (true≢false (sym (k refl) ∙ (ap code_can_trap e ∙ c)))

  outside_ends : (o : Op) (more : Code) → act.innermost.code ≡ plain o more → can_trap o ≡ false → Outside p x s a u → Ends (operate p a act acts o more)
  outside_ends o more e c h = operate_ends p a act acts (outside_calm o more e c h) o more c

  -- ---- what may trap, and does not here

  -- there is an object
  abbrev IsAnObject : Value → Type 0
  IsAnObject (ref_object k t) = Unit {0}
  IsAnObject v = ⊥

  -- what is not missing is there
  or_there : {A : Type 0} (o : Option A) (F : A → Type 0) → is_missing o ≡ false → OrTraps p x s a u o F → (y : A) × F y
  or_there None F c h = quiet c
  or_there (Some y) F c h = (y, h)

  given_there : {A : Type 0} (o : Option A) (F : A → Type 0) → There p x s a u o F → (y : A) × (o ≡ Some y) × F y
  given_there None F h = absurd h
  given_there (Some y) F h = (y, refl, h)

  -- what a condition on its fields says of an object
  of_object : (o : Option ObjectInstance) (f : List Value → Bool) → of_fields (option_map (λ (q : ObjectInstance). q.fields) o) f ≡ false → (q : ObjectInstance) → o ≡ Some q → f q.fields ≡ false
  of_object o f c q e = subst (λ (z : Option ObjectInstance). of_fields (option_map (λ (r : ObjectInstance). r.fields) z) f ≡ false) e c

  reads_calm : (signed : Bool) (v : Value) (i : ℕ) → reads_past p s act v i ≡ false → Reads p x s a u act signed v i → IsAnObject v × (a.traps ≡ false)
  reads_calm signed (ref_object k t) i c h =
      let o = given_there {A = ObjectInstance} (slice_get s.objects k) _ h in
      let f = given_there {A = FieldOf TypeTree} (field_at (expanded (o.0).type) i) _ o.2 in
      let w = or_there {A = Value} (slice_get (o.0).fields i) _ (of_object (slice_get s.objects k) (λ vs. is_missing (slice_get vs i)) c o.0 o.1) f.2 in
      (tt, w.1.1)
  reads_calm signed v i c h = quiet c

  writes_calm : (v : Value) (i : ℕ) (us given : List Value) → writes_past p s act v i us ≡ false → Writes p x s a u act v i us given → IsAnObject v × (a.traps ≡ false)
  writes_calm (ref_object k t) i us given c h =
      let o = given_there {A = ObjectInstance} (slice_get s.objects k) _ h in
      let w = or_there {A = List Value} (placed (o.0).fields i us) _ (of_object (slice_get s.objects k) (λ vs. is_missing (placed vs i us)) c o.0 o.1) o.2 in
      (tt, w.1.1)
  writes_calm v i us given c h = quiet c

  length_calm : (v : Value) → of_fields (fields_of p s act v) (λ vs. false) ≡ false → OfObject p x s a u v (λ k o. Tells p x s a u (length o.fields)) → a.traps ≡ false
  length_calm (ref_object k t) c h = let o = given_there {A = ObjectInstance} (slice_get s.objects k) _ h in (o.2).1.1
  length_calm v c h = quiet c

  unboxed_calm : (signed : Bool) (v : Value) → not (is_unboxed v) ≡ false → Unboxes p x s a u act signed v → a.traps ≡ false
  unboxed_calm signed (ref_i31 c) e h = h.1.1
  unboxed_calm signed v e h = quiet e

  -- ---- memories and data segments, within bounds

  reading_calm : (y i n : ℕ) (F : List ℕ → Type 0) → past (length (memory_in s y)) i n ≡ false → ((bs : List ℕ) → F bs → a.traps ≡ false) → Reading p x s a u y i n F → a.traps ≡ false
  reading_calm y i n F c f h = at (is_shared_memory (slice_get p.«module».memories y)) h
    where
      at : (q : Bool) → Either q ((IsTrue (past (length (memory_in s y)) i n) × Traps p x s a u) ⊎ ((bs : List ℕ) × (length bs ≡ n) × Each IsByte bs × F bs)) (OrTraps p x s a u (range (memory_in s y) i n) F) → a.traps ≡ false
      at true h = ⊎_elim (λ k. quiet (sym k.0 ∙ c)) (λ k. f k.0 k.3) h
      at false h = let k = or_there {A = List ℕ} (range (memory_in s y) i n) F (range_missing (memory_in s y) i n ∙ c) h in f k.0 k.1

  writing_calm : (y i : ℕ) (bs : List ℕ) → past (length (memory_in s y)) i (length bs) ≡ false → Writing p x s a u y i bs → a.traps ≡ false
  writing_calm y i bs c h = at (is_shared_memory (slice_get p.«module».memories y)) h
    where
      at : (q : Bool) → Either q ((IsTrue (past (length (memory_in s y)) i (length bs)) × Traps p x s a u) ⊎ Gives p x s a u [] s) (OrTraps p x s a u (placed (memory_in s y) i bs) (λ cs. Gives p x s a u [] (with_memory s y cs))) → a.traps ≡ false
      at true h = ⊎_elim (λ k. quiet (sym k.0 ∙ c)) (λ k. k.1) h
      at false h = let k = or_there {A = List ℕ} (placed (memory_in s y) i bs) _ (placed_missing (memory_in s y) i bs ∙ c) h in k.1.1

  -- so many bytes are written
  writing_sized : (y i n : ℕ) (bs : List ℕ) → length bs ≡ n → past (length (memory_in s y)) i n ≡ false → Writing p x s a u y i bs → a.traps ≡ false
  writing_sized y i n bs e c h = writing_calm y i bs (ap (λ k. past (length (memory_in s y)) i k) e ∙ c) h

  access_calm : (m : MemArg) (k : Access) → access_past p s act m k ≡ false → Accesses p x s a u act m k → a.traps ≡ false
  access_calm m (reads ts n k f) c h = reading_calm m.memory (bits_of (get_or act.innermost.values (length ts) nothing) + m.offset) k _ c (λ bs g. g.1) h
  access_calm m (writes n k f) c h = writing_sized m.memory (bits_of (get_or act.innermost.values 1 nothing) + m.offset) k _ (bytes_length k (f (bits_of (get_or act.innermost.values 0 nothing)))) c h

  reach_calm : (t : Bool) (o : Option Reach) → reach_past p s act t o ≡ false → There p x s a u o (Reaches p x s a u act) → a.traps ≡ false
  reach_calm t None c h = absurd h
  reach_calm t (Some r) c h = access_calm r.argument r.access c h

  sized_calm : (n : ℕ) (F : Type 0) → (F → a.traps ≡ false) → Either (shared p x s a u n) (Sized p x s a u n) F → a.traps ≡ false
  sized_calm n F f h = at (is_shared_memory (slice_get p.«module».memories n)) h
    where
      at : (q : Bool) → Either q (Sized p x s a u n) F → a.traps ≡ false
      at true h = h.2.1
      at false h = f h

  grows_calm : (n : ℕ) (bs : Option (List ℕ)) → GrowsTo p x s a u n bs → a.traps ≡ false
  grows_calm n None h = h.1
  grows_calm n (Some bs) h = ⊎_elim (λ g. g.1) (λ g. g.1) h

  elements_calm : (d i n : ℕ) (F : List Value → Type 0) (o : Option (FieldOf TypeTree)) → elements_past p s act d o i n ≡ false → ((ws : List Value) → F ws → a.traps ≡ false)
      → OrTraps p x s a u o (λ (f : FieldOf TypeTree). OrTraps p x s a u (range (data_in s d) i (n * stored_size f.storage)) (λ bs. F (elements_from f.storage n bs))) → a.traps ≡ false
  elements_calm d i n F None c g h = quiet c
  elements_calm d i n F (Some f) c g h = let k = or_there {A = List ℕ} (range (data_in s d) i (n * stored_size f.storage)) _ (range_missing (data_in s d) i (n * stored_size f.storage) ∙ c) h in g _ k.1

  made_calm : (d i n : ℕ) (o : Option TypeTree) → made_past p s act d o i n ≡ false → There p x s a u o (λ t. OfData p x s a u d t i n (λ ws. Makes p x s a u t ws [])) → a.traps ≡ false
  made_calm d i n None c h = quiet c
  made_calm d i n (Some t) c h = elements_calm d i n (λ ws. Makes p x s a u t ws []) (field_at (expanded t) 0) c (λ ws g. g.1.1) h

  -- elements that are read and written elsewhere
  two_calm : (xs ys : List Value) (i j n : ℕ) (z : List Value → Store) → past (length xs) i n ≡ false → past (length ys) j n ≡ false
      → OrTraps p x s a u (range xs i n) (λ us. OrTraps p x s a u (placed ys j us) (λ ws. Gives p x s a u us (z ws))) → a.traps ≡ false
  two_calm xs ys i j n z c q h = found_there (range xs i n) refl (range_missing xs i n ∙ c) h
    where
      found_there : (o : Option (List Value)) → range xs i n ≡ o → is_missing o ≡ false → OrTraps p x s a u o (λ us. OrTraps p x s a u (placed ys j us) (λ ws. Gives p x s a u us (z ws))) → a.traps ≡ false
      found_there None e m h = quiet m
      found_there (Some us) e m h = let k = or_there {A = List Value} (placed ys j us) _ (placed_missing ys j us ∙ ap (λ l. past (length ys) j l) (range_length xs i n us e) ∙ q) h in k.1.1

  named_calm : (n : ℕ) (fields : TypeTree → List Value) (given : List Value) → MakesNamed p x s a u act n fields given → a.traps ≡ false
  named_calm n fields given h = let k = given_there {A = TypeTree} (slice_get p.«module».types n) _ h in k.2.1.1

  -- as many elements as are written
  written_within : (v : Value) (j n : ℕ) (us : List Value) → length us ≡ n → elements_end p s act v j n ≡ false → writes_past p s act v j us ≡ false
  written_within v j n us e c = within (fields_of p s act v) c
    where
      within : (o : Option (List Value)) → of_fields o (λ vs. past (length vs) j n) ≡ false → of_fields o (λ vs. is_missing (placed vs j us)) ≡ false
      within None c = quiet c
      within (Some vs) c = placed_missing vs j us ∙ ap (λ l. past (length vs) j l) e ∙ c

  -- elements that are read elsewhere are written
  onto_calm : (xs : List Value) (i n j : ℕ) (v : Value) → past (length xs) i n ≡ false → elements_end p s act v j n ≡ false → OrTraps p x s a u (range xs i n) (λ us. Writes p x s a u act v j us us) → IsAnObject v × (a.traps ≡ false)
  onto_calm xs i n j v c q h = found_there (range xs i n) refl (range_missing xs i n ∙ c) h
    where
      found_there : (o : Option (List Value)) → range xs i n ≡ o → is_missing o ≡ false → OrTraps p x s a u o (λ us. Writes p x s a u act v j us us) → IsAnObject v × (a.traps ≡ false)
      found_there None e m h = quiet m
      found_there (Some us) e m h = writes_calm v j us us (written_within v j n us (range_length xs i n us e) q) h

  copy_calm_at : (w v : Value) (i n j : ℕ) → elements_end p s act w i n ≡ false → elements_end p s act v j n ≡ false → OfObject p x s a u w (λ k o. OrTraps p x s a u (range o.fields i n) (λ us. Writes p x s a u act v j us us)) → IsAnObject w × (IsAnObject v × (a.traps ≡ false))
  copy_calm_at (ref_object k t) v i n j c q h =
      let o = given_there {A = ObjectInstance} (slice_get s.objects k) _ h in
      (tt, onto_calm (o.0).fields i n j v (of_object (slice_get s.objects k) (λ vs. past (length vs) i n) c o.0 o.1) q o.2)
  copy_calm_at w v i n j c q h = quiet c

  third_of_three : (vs : List Value) → IsAnObject (get_or vs 2 nothing) → IsAnObject (last_of (take 3 vs))
  third_of_three [] h = h
  third_of_three (v ∷ []) h = absurd h
  third_of_three (v ∷ w ∷ []) h = absurd h
  third_of_three (v ∷ w ∷ z ∷ vs) h = h

  fourth_of_four : (vs : List Value) → IsAnObject (get_or vs 3 nothing) → IsAnObject (last_of (take 4 vs))
  fourth_of_four [] h = h
  fourth_of_four (v ∷ []) h = absurd h
  fourth_of_four (v ∷ w ∷ []) h = absurd h
  fourth_of_four (v ∷ w ∷ z ∷ []) h = absurd h
  fourth_of_four (v ∷ w ∷ z ∷ q ∷ vs) h = h

  second_below_three : (vs : List Value) → IsAnObject (get_or vs 4 nothing) → IsAnObject (last_of (take 2 (drop 3 vs)))
  second_below_three [] h = h
  second_below_three (v ∷ []) h = absurd h
  second_below_three (v ∷ w ∷ []) h = absurd h
  second_below_three (v ∷ w ∷ z ∷ []) h = absurd h
  second_below_three (v ∷ w ∷ z ∷ q ∷ []) h = absurd h
  second_below_three (v ∷ w ∷ z ∷ q ∷ t ∷ vs) h = h

  neither : (q t : Bool) → (q || t) ≡ false → (q ≡ false) × (t ≡ false)
  neither false t e = (refl, e)
  neither true t e = quiet e

  -- an atomic access at a multiple of the width and within bounds
  replaced_calm : (r : AtomicAccess) (q : Option ℕ) (ws : List Value) → memory_past p s act r.argument.memory (exchange_at p s act r) r.size ≡ false
      → Replaces p x s a u act r q ws → a.traps ≡ false
  replaced_calm r None ws c h = h.1
  replaced_calm r (Some n) ws c h = put (is_shared_memory (slice_get p.«module».memories r.argument.memory)) h
    where
      F : List ℕ → Type 0
      F cs = Gives p x s a u ws (with_memory s r.argument.memory cs)

      put : (t : Bool) → Either t (Gives p x s a u ws s) (OrTraps p x s a u
          (placed (memory_in s r.argument.memory) (exchange_at p s act r) (bytes_of r.size n)) F) → a.traps ≡ false
      put true h = h.1
      put false h =
          let k = or_there {A = List ℕ} (placed (memory_in s r.argument.memory) (exchange_at p s act r) (bytes_of r.size n)) F
          (placed_missing (memory_in s r.argument.memory) (exchange_at p s act r) (bytes_of r.size n) ∙ ap (λ l. past
          (length (memory_in s r.argument.memory)) (exchange_at p s act r) l) (bytes_length r.size n) ∙ c) h in
          k.1.1

  aligned_calm : (r : AtomicAccess) → exchange_past p s act r ≡ false → Aligned p x s a u act r → a.traps ≡ false
  aligned_calm r c h =
      let k = neither (is_misaligned (exchange_at p s act r) r.size) (memory_past p s act r.argument.memory (exchange_at p s act r) r.size) c in
      within (is_misaligned (exchange_at p s act r) r.size) k.0 k.1 h
    where
      within : (t : Bool) → t ≡ false → memory_past p s act r.argument.memory (exchange_at p s act r) r.size ≡ false
          → Either t (Traps p x s a u) (Exchanges p x s a u act r) → a.traps ≡ false
      within true e l h = quiet e
      within false e l h = reading_calm r.argument.memory (exchange_at p s act r) r.size _ l
          (λ bs g. replaced_calm r (r.written (bits_of (get_or act.innermost.values 0 nothing)) (bits_of (get_or act.innermost.values 1 nothing))
          (number_of bs)) (number_given r.gives (r.given (number_of bs))) l g) h

  exchange_calm : (o : Option AtomicAccess) → exchange_traps p s act o ≡ false → There p x s a u o (Aligned p x s a u act) → a.traps ≡ false
  exchange_calm None c h = absurd h
  exchange_calm (Some r) c h = aligned_calm r c h

  -- threads that are woken at a memory that no other thread uses
  woken_calm : (m : MemArg) → (is_shared_memory (slice_get p.«module».memories m.memory) || exchange_past p s act (notification m)) ≡ false
      → ByOthers p x s a u act m (Aligned p x s a u act (notification m)) → a.traps ≡ false
  woken_calm m c h =
      let k = neither (is_shared_memory (slice_get p.«module».memories m.memory)) (exchange_past p s act (notification m)) c in
      own (is_shared_memory (slice_get p.«module».memories m.memory)) k.0 k.1 h
    where
      own : (t : Bool) → t ≡ false → exchange_past p s act (notification m) ≡ false → Either t (Outside p x s a u) (Aligned p x s a u act (notification m))
          → a.traps ≡ false
      own true e l h = quiet e
      own false e l h = aligned_calm (notification m) l h

  -- elements that are made of bytes are written
  stored_calm : (k : ℕ) (q : ObjectInstance) (d j i n : ℕ) → stored_past p s act d (field_at (expanded q.type) 0) (length q.fields) j i n ≡ false → OfData p x s a u d q.type i n (λ ws. WritesTo p x s a u act k q j ws []) → a.traps ≡ false
  stored_calm k q d j i n c h = by (field_at (expanded q.type) 0) c h
    where
      by : (o : Option (FieldOf TypeTree)) → stored_past p s act d o (length q.fields) j i n ≡ false
          → OrTraps p x s a u o (λ (f : FieldOf TypeTree). OrTraps p x s a u (range (data_in s d) i (n * stored_size f.storage)) (λ bs. WritesTo p x s a u act k q j (elements_from f.storage n bs) [])) → a.traps ≡ false
      by None c h = quiet c
      by (Some f) c h =
          let e = neither (data_past p s act d i (n * stored_size f.storage)) (past (length q.fields) j (number_count (stored_type f.storage) n)) c in
          let r = or_there {A = List ℕ} (range (data_in s d) i (n * stored_size f.storage)) _ (range_missing (data_in s d) i (n * stored_size f.storage) ∙ e.0) h in
          let w = or_there {A = List Value} (placed q.fields j (elements_from f.storage n r.0)) _ (placed_missing q.fields j (elements_from f.storage n r.0) ∙ ap (λ l. past (length q.fields) j l) (elements_length f.storage n r.0) ∙ e.1) r.1 in
          w.1.1

  filled_calm : (v : Value) (d j i n : ℕ) → filled_past p s act d (object_of p s act v) j i n ≡ false → OfObject p x s a u v (λ k o. OfData p x s a u d o.type i n (λ ws. WritesTo p x s a u act k o j ws [])) → IsAnObject v × (a.traps ≡ false)
  filled_calm (ref_object k t) d j i n c h =
      let o = given_there {A = ObjectInstance} (slice_get s.objects k) _ h in
      (tt, stored_calm k o.0 d j i n (subst (λ (z : Option ObjectInstance). filled_past p s act d z j i n ≡ false) o.1 c) o.2)
  filled_calm v d j i n c h = quiet c

  -- ---- what is on top

  first_of_one : (vs : List Value) → IsAnObject (get_or vs 0 nothing) → IsAnObject (last_of (take 1 vs))
  first_of_one [] h = h
  first_of_one (v ∷ vs) h = h

  second_of_two : (vs : List Value) → IsAnObject (get_or vs 1 nothing) → IsAnObject (last_of (take 2 vs))
  second_of_two [] h = h
  second_of_two (v ∷ []) h = absurd h
  second_of_two (v ∷ w ∷ vs) h = h

  -- ---- the moves
  module _ (calm : a.traps ≡ false) (more : Code) where
    abbrev Holding : Type 0
    Holding = InnerOf TypeTree → Option (List (FieldOf TypeTree))

    may_ends : (m : Move) → Ends m → Ends (choose a.traps (done trapped) m)
    may_ends m k = subst (λ t. Ends (choose t (done trapped) m)) (sym calm) k

    goes_on : (ws : List Value) → Ends (goes p a act acts ws more)
    goes_on ws = on p a act acts calm ws more

    object_ends : (of : Holding) (v : Value) (f : List (FieldOf TypeTree) → Move) → IsAnObject v → ((fs : List (FieldOf TypeTree)) → Ends (f fs)) → Ends (object p a act acts of v f)
    object_ends of (ref_object k t) f h g = found_ends {A = List (FieldOf TypeTree)} (of (expanded t)) f g
    object_ends of v f h g = absurd h

    under_ends : (of : Holding) (ns : List ValueType) (n : ℕ) (ws : List Value) (f : List (FieldOf TypeTree) → List Value → Move) → IsAnObject (last_of (take (suc (length ns)) ws)) → ((fs : List (FieldOf TypeTree)) (us : List Value) → Ends (f fs us)) → Ends (object_under p a act acts of ns n ws f)
    under_ends of ns n ws f h g = found_ends {A = TypeTree} (slice_get p.«module».types n) _ (λ t. found_ends {A = List (FieldOf TypeTree)} (of (expanded t)) _ (λ own. asks_ends _ _
        (may_ends _ (object_ends of (last_of (take (suc (length ns)) ws)) (λ fs. f fs (drop (suc (length ns)) ws)) h (λ fs. g fs (drop (suc (length ns)) ws))))))

    read_ends : (stored : StorageOf TypeTree → Type 0) (of : Holding) (ns : List ValueType) (n i : ℕ) → IsAnObject (last_of (take (suc (length ns)) act.innermost.values)) → Ends (read p a act acts stored of ns n i more)
    read_ends stored of ns n i h = under_ends of ns n act.innermost.values _ h (λ fs ws. found_ends {A = FieldOf TypeTree} (slice_get fs i) _ (λ q. asks_ends (stored q.storage) _ (allows_ends (AllFit p a.values (stack (operand_of q.storage ∷ []))) _ (goes_on (a.values ++ ws)))))

    write_ends : (of : Holding) (ns : List ValueType) (n i : ℕ) (v : Value) (ws : List Value) → IsAnObject (last_of (take (suc (length ns)) ws)) → Ends (write p a act acts of ns n i v ws more)
    write_ends of ns n i v ws h = under_ends of ns n ws _ h (λ fs us. found_ends {A = FieldOf TypeTree} (slice_get fs i) _ (λ q. asks_ends (IsTrue q.mutable) _ (asks_ends (Fits p v (operand_of q.storage)) _ (goes_on us))))

    field_set : (vs : List Value) (n i : ℕ) → IsAnObject (get_or vs 1 nothing) → Ends (pops vs (λ v ws. write p a act acts struct_fields [] n i v ws more))
    field_set [] n i h = absurd h
    field_set (v ∷ ws) n i h = write_ends struct_fields [] n i v ws (first_of_one ws h)

    element_set : (vs : List Value) (n : ℕ) → IsAnObject (get_or vs 2 nothing) → Ends (pops vs (λ v ws. write p a act acts array_fields (i32_type ∷ []) n 0 v ws more))
    element_set [] n h = absurd h
    element_set (v ∷ ws) n h = write_ends array_fields (i32_type ∷ []) n 0 v ws (second_of_two ws h)

    elements_set : (vs : List Value) (n : ℕ) → IsAnObject (get_or vs 3 nothing) → Ends (pops vs (λ c ws. asks (Fits p c i32_type) (pops ws (λ v us. write p a act acts array_fields (i32_type ∷ []) n 0 v us more))))
    elements_set [] n h = absurd h
    elements_set (c ∷ []) n h = absurd h
    elements_set (c ∷ v ∷ us) n h = asks_ends _ _ (write_ends array_fields (i32_type ∷ []) n 0 v us (second_of_two us h))

    number_ends : (q : Abstract) (is : Value → Type 0) → Ends (number_from p a act acts q is more)
    number_ends q is = pops_ends act.innermost.values _ (λ v ws. asks_ends _ _ (may_ends _ (goes_on (number_value i32 a.made ∷ ws))))

    exchanged_ends : (ts us : List ValueType) → Ends (exchange p a act acts ts us more)
    exchanged_ends ts us = asks_ends _ _ (may_ends _ (allows_ends _ _ (goes_on (a.values ++ drop (length ts) act.innermost.values))))

    memory_ends_at : (n : ℕ) (ts us : MemoryType → List ValueType) → Ends (found (slice_get p.«module».memories n) (λ (t : MemoryType). exchange p a act acts (ts t) (us t) more))
    memory_ends_at n ts us = found_ends {A = MemoryType} (slice_get p.«module».memories n) _ (λ t. exchanged_ends (ts t) (us t))

    access_ends : (o : Op) → Ends (access p a act acts o more)
    access_ends o = found_ends {A = MemArg} (argument_of (immediates_of o)) _ (λ i. found_ends {A = MemoryType} (slice_get p.«module».memories i.memory) _ (λ t. found_ends {A = Places} (accessed (info_of o).name) _ (λ n. exchanged_ends (address t.memory64 ∷ numbers n.takes) (numbers n.gives))))

    abbrev copied_over : List (FieldOf TypeTree) → List (FieldOf TypeTree) → List Value → Move
    copied_over ss fs us = found {A = FieldOf TypeTree} (slice_get ss 0) (λ q. found {A = FieldOf TypeTree} (slice_get fs 0) (λ r. writes_field r (asks (AreStoredAlike q.storage r.storage) (copies p a (operand_of q.storage) (operand_of r.storage) (goes p a act acts us more)))))

    array_copy_ends : (n m : ℕ) → IsAnObject (last_of (take 3 act.innermost.values)) → IsAnObject (last_of (take 2 (drop 3 act.innermost.values))) → Ends (operate p a act acts (op.Gc (gc.ArrayCopy n m)) more)
    array_copy_ends n m h g = found_ends {A = TypeTree} (slice_get p.«module».types m) _ (λ t. found_ends {A = List (FieldOf TypeTree)} (array_fields (expanded t)) _ (λ own. asks_ends _ _
        (may_ends _ (object_ends array_fields (last_of (take 3 act.innermost.values)) (λ ss. object_under p a act acts array_fields (i32_type ∷ []) n (drop 3 act.innermost.values) (copied_over ss)) h (λ ss.
        under_ends array_fields (i32_type ∷ []) n (drop 3 act.innermost.values) (copied_over ss) g (λ fs us. found_ends {A = FieldOf TypeTree} (slice_get ss 0) _ (λ q. found_ends {A = FieldOf TypeTree} (slice_get fs 0) _ (λ r.
        asks_ends _ _ (asks_ends _ _ (allows_ends _ _ (asks_ends _ _ (goes_on us))))))))))))

    abbrev filled_from : ℕ → List (FieldOf TypeTree) → List Value → Move
    filled_from e fs ws = found {A = ValueType} (slice_get p.«module».elements e) (λ q. found {A = FieldOf TypeTree} (slice_get fs 0) (λ r. writes_field r (copies p a q (operand_of r.storage) (goes p a act acts ws more))))

    array_init_ends : (n e : ℕ) → IsAnObject (last_of (take 4 act.innermost.values)) → Ends (operate p a act acts (op.Gc (gc.ArrayInitElem n e)) more)
    array_init_ends n e h = under_ends array_fields (i32_type ∷ i32_type ∷ i32_type ∷ []) n act.innermost.values (filled_from e) h (λ fs ws. found_ends {A = ValueType} (slice_get p.«module».elements e) _ (λ q. found_ends {A = FieldOf TypeTree} (slice_get fs 0) _ (λ r.
        asks_ends _ _ (allows_ends _ _ (asks_ends _ _ (goes_on ws))))))

    abbrev filled_by : ℕ → List (FieldOf TypeTree) → List Value → Move
    filled_by d fs ws = found {A = FieldOf TypeTree} (slice_get fs 0) (λ q. writes_field q (asks (FromData p a act acts d fs) (goes p a act acts ws more)))

    bytes_written_end : (n d : ℕ) → IsAnObject (last_of (take 4 act.innermost.values)) → Ends (operate p a act acts (op.Gc (gc.ArrayInitData n d)) more)
    bytes_written_end n d h = under_ends array_fields (i32_type ∷ i32_type ∷ i32_type ∷ []) n act.innermost.values (filled_by d) h (λ fs ws. found_ends {A = FieldOf TypeTree} (slice_get fs 0) _ (λ q. asks_ends _ _ (asks_ends _ _ (goes_on ws))))

    elements_made_ends : (n e : ℕ) → Ends (operate p a act acts (op.Gc (gc.ArrayNewElem n e)) more)
    elements_made_ends n e = found_ends {A = TypeTree} (slice_get p.«module».types n) _ (λ t. found_ends {A = List (FieldOf TypeTree)} (array_fields (expanded t)) _ (λ fs. asks_ends _ _ (may_ends _ (found_ends {A = ValueType} (slice_get p.«module».elements e) _ (λ q.
        found_ends {A = FieldOf TypeTree} (slice_get fs 0) _ (λ r. allows_ends _ _ (asks_ends _ _ (goes_on (ref_object a.made t ∷ drop 2 act.innermost.values)))))))))

    data_made_ends : (n d : ℕ) → Ends (operate p a act acts (op.Gc (gc.ArrayNewData n d)) more)
    data_made_ends n d = found_ends {A = TypeTree} (slice_get p.«module».types n) _ (λ t. found_ends {A = List (FieldOf TypeTree)} (array_fields (expanded t)) _ (λ fs. asks_ends _ _ (asks_ends _ _ (may_ends _ (goes_on (ref_object a.made t ∷ drop 2 act.innermost.values))))))

    table_ends : (n : ℕ) (ts us : Table → List ValueType) → Ends (found (slice_get p.«module».tables n) (λ (t : Table). exchange p a act acts (ts t) (us t) more))
    table_ends n ts us = found_ends {A = Table} (slice_get p.«module».tables n) _ (λ t. exchanged_ends (ts t) (us t))

  -- ---- calls, and references that are not null
  module _ (more : Code) where
    next_ends : (ws : List Value) → Ends (goes p a act acts ws more)
    next_ends ws = record { never = λ e. no_trap _ tt e }

    begin_ends : (o : Option Body) → not (is_own o) ≡ false → (t : TypeTree) (g : Signature) (args : List Value) (owed : List ValueType) (cs : List Activation) → Ends (begin p a o t g args owed cs)
    begin_ends None c t g args owed cs = quiet c
    begin_ends (Some f) c t g args owed cs = record { never = λ e. no_trap _ tt e }

    invoke_ends : (tail : Bool) (v : Value) (ws : List Value) → calls_other p s act v ≡ false → Ends (invoke p a act acts tail v ws more)
    invoke_ends tail (ref_function None t) ws c = quiet c
    invoke_ends tail (ref_function (Some i) t) ws c = found_ends {A = Signature} (function_type t) _ (λ g. asks_ends _ _ (begin_ends (body_of (slice_get p.functions i)) c t g _ _ _))
    invoke_ends tail v ws c = quiet c

    -- a function of the program's own
    pub own_invoked : (tail : Bool) (i : ℕ) (t : TypeTree) (ws : List Value) → IsTrue (is_own_at p s act (Some i)) → Ends (invoke p a act acts tail (ref_function (Some i) t) ws more)
    own_invoked tail i t ws own = invoke_ends tail (ref_function (Some i) t) ws (ap not own)

    call_ends : (tail : Bool) (n : ℕ) → not (is_own_at p s act (Some n)) ≡ false → Ends (call p a act acts tail n more)
    call_ends tail n c = found_ends {A = Function} (slice_get p.functions n) _ (λ f. invoke_ends tail (ref_function (Some n) f.type) act.innermost.values c)

    popped_call : (tail : Bool) (t : TypeTree) (vs : List Value) → calls_other p s act (get_or vs 0 nothing) ≡ false → Ends (pops vs (λ v ws. asks (Fits p v (ref true (concrete t))) (invoke p a act acts tail v ws more)))
    popped_call tail t [] c = quiet c
    popped_call tail t (v ∷ ws) c = asks_ends _ _ (invoke_ends tail v ws c)

    reference_ends : (tail : Bool) (n : ℕ) → calls_other p s act (get_or act.innermost.values 0 nothing) ≡ false → Ends (call_reference p a act acts tail n more)
    reference_ends tail n c = found_ends {A = TypeTree} (slice_get p.«module».types n) _ (λ t. popped_call tail t act.innermost.values c)

    non_null : (vs : List Value) → is_null (get_or vs 0 nothing) ≡ false → Ends (pops vs (λ v ws. asks (IsAReference v) (choose (is_null v) (done trapped) (goes p a act acts (v ∷ ws) more))))
    non_null [] c = quiet c
    non_null (v ∷ ws) c = asks_ends _ _ (subst (λ t. Ends (choose t (done trapped) (goes p a act acts (v ∷ ws) more))) (sym c) (next_ends (v ∷ ws)))

    thrown_ends : (v : Value) → is_null v ≡ false → Ends (throw_reference p a act acts v)
    thrown_ends (ref_exn k t) c = again_ends p a t (act ∷ acts)
    thrown_ends (ref_null q k) c = quiet c
    thrown_ends v c = done_ends stuck tt

    popped_thrown : (vs : List Value) → is_null (get_or vs 0 nothing) ≡ false → Ends (pops vs (λ v ws. asks (Fits p v (ref true (abstract false exn))) (throw_reference p a act acts v)))
    popped_thrown [] c = quiet c
    popped_thrown (v ∷ ws) c = asks_ends _ _ (thrown_ends v c)

    -- a null passes a cast to a type with null
    null_passes : (vs : List Value) (k : HeapOf TypeTree) → not (is_null (get_or vs 0 nothing)) ≡ false → Ends (pops vs (λ v ws. asks (IsMade p v × IsAkin (least_type v) k) (cast p a act acts true k v (λ holds. choose holds (goes p a act acts (v ∷ ws) more) (done trapped)))))
    null_passes [] k c = done_ends stuck tt
    null_passes (v ∷ ws) k c = asks_ends _ _ (allows_ends _ _ (passes (is_null v) c))
      where
        passes : (t : Bool) → not t ≡ false → Ends (choose (if t then true else a.condition) (goes p a act acts (v ∷ ws) more) (done trapped))
        passes true c = next_ends (v ∷ ws)
        passes false c = quiet c

    -- ---- operators

    control_ends : (o : ControlOperator) → control_traps p s act o ≡ false → GivesControl p x s a u act o → Ends (operate p a act acts (op.Control o) more)
    control_ends (control.Call n) c h = call_ends false n c
    control_ends (control.ReturnCall n) c h = call_ends true n c
    control_ends (control.CallRef n) c h = reference_ends false n c
    control_ends (control.ReturnCallRef n) c h = reference_ends true n c
    control_ends control.RefAsNonNull c h = non_null act.innermost.values c
    control_ends (control.CallIndirect y n) c h = quiet c
    control_ends (control.ReturnCallIndirect y n) c h = quiet c
    control_ends o c h = goes_ends _ (control_any p act acts a o more c)

    exception_ends_here : (o : ExceptionTree) → exception_traps p s act o ≡ false → GivesException p x s a u act o → Ends (operate p a act acts (op.Exception o) more)
    exception_ends_here op.ThrowRef c h = popped_thrown act.innermost.values c
    exception_ends_here o c h = determined_ends (op.Exception o) more c refl h

    abbrev at : ℕ → ℕ
    at n = bits_of (get_or act.innermost.values n nothing)

    init_calm : (d n : ℕ) → data_past p s act d (at 1) (at 0) ≡ false → memory_past p s act n (at 2) (at 0) ≡ false → OrTraps p x s a u (range (data_in s d) (at 1) (at 0)) (λ bs. Writing p x s a u n (at 2) bs) → a.traps ≡ false
    init_calm d n c q h = with_bytes_there (range (data_in s d) (at 1) (at 0)) refl (range_missing (data_in s d) (at 1) (at 0) ∙ c) h
      where
        with_bytes_there : (o : Option (List ℕ)) → range (data_in s d) (at 1) (at 0) ≡ o → is_missing o ≡ false → OrTraps p x s a u o (λ bs. Writing p x s a u n (at 2) bs) → a.traps ≡ false
        with_bytes_there None e m h = quiet m
        with_bytes_there (Some bs) e m h = writing_sized n (at 2) (at 0) bs (range_length (data_in s d) (at 1) (at 0) bs e) q h

    copy_calm : (n m : ℕ) → memory_past p s act m (at 1) (at 0) ≡ false → memory_past p s act n (at 2) (at 0) ≡ false → Reading p x s a u m (at 1) (at 0) (λ bs. Writing p x s a u n (at 2) bs) → a.traps ≡ false
    copy_calm n m c q h = by (is_shared_memory (slice_get p.«module».memories m)) h
      where
        found_bytes : (o : Option (List ℕ)) → range (memory_in s m) (at 1) (at 0) ≡ o → is_missing o ≡ false → OrTraps p x s a u o (λ bs. Writing p x s a u n (at 2) bs) → a.traps ≡ false
        found_bytes None e k h = quiet k
        found_bytes (Some bs) e k h = writing_sized n (at 2) (at 0) bs (range_length (memory_in s m) (at 1) (at 0) bs e) q h

        by : (t : Bool) → Either t ((IsTrue (past (length (memory_in s m)) (at 1) (at 0)) × Traps p x s a u) ⊎ ((bs : List ℕ) × (length bs ≡ at 0) × Each IsByte bs × Writing p x s a u n (at 2) bs)) (OrTraps p x s a u (range (memory_in s m) (at 1) (at 0)) (λ bs. Writing p x s a u n (at 2) bs)) → a.traps ≡ false
        by true h = ⊎_elim (λ k. quiet (sym k.0 ∙ c)) (λ k. writing_sized n (at 2) (at 0) k.0 k.1 q k.3) h
        by false h = found_bytes (range (memory_in s m) (at 1) (at 0)) refl (range_missing (memory_in s m) (at 1) (at 0) ∙ c) h

    bulk_ends_here : (o : BulkOperator) → act.innermost.code ≡ plain (op.Bulk o) more → bulk_traps p s act o ≡ false → GivesBulk p x s a u act o → Ends (operate p a act acts (op.Bulk o) more)
    bulk_ends_here (bulk.TableGet n) e c h = let w = or_there {A = Value} (slice_get (table_in s n) (bits_of (get_or act.innermost.values 0 nothing))) _ c h in table_ends w.1.1 more n (λ t. address t.table64 ∷ []) (λ t. t.element ∷ [])
    bulk_ends_here (bulk.TableSet n) e c h = let w = or_there {A = List Value} (placed (table_in s n) (bits_of (get_or act.innermost.values 1 nothing)) (take 1 act.innermost.values)) _ c h in table_ends w.1.1 more n (λ t. address t.table64 ∷ t.element ∷ []) (λ t. [])
    bulk_ends_here (bulk.TableFill n) e c h = let w = or_there {A = List Value} (placed (table_in s n) (bits_of (get_or act.innermost.values 2 nothing)) (replicate (bits_of (get_or act.innermost.values 0 nothing)) (get_or act.innermost.values 1 nothing))) _ c h in table_ends w.1.1 more n (λ t. address t.table64 ∷ t.element ∷ address t.table64 ∷ []) (λ t. [])
    bulk_ends_here (bulk.TableGrow n) e c h = operate_ends p a act acts (⊎_elim (λ g. g.1.1) (λ g. g.1) h) (op.Bulk (bulk.TableGrow n)) more refl
    bulk_ends_here (bulk.RefNull q) e c h = determined_ends (op.Bulk (bulk.RefNull q)) more refl refl h
    bulk_ends_here bulk.RefIsNull e c h = determined_ends (op.Bulk bulk.RefIsNull) more refl refl h
    bulk_ends_here (bulk.RefFunc n) e c h = determined_ends (op.Bulk (bulk.RefFunc n)) more refl refl h
    bulk_ends_here (bulk.TableSize n) e c h = determined_ends (op.Bulk (bulk.TableSize n)) more refl refl h
    bulk_ends_here (bulk.ElemDrop n) e c h = determined_ends (op.Bulk (bulk.ElemDrop n)) more refl refl h
    bulk_ends_here (bulk.DataDrop n) e c h = determined_ends (op.Bulk (bulk.DataDrop n)) more refl refl h
    bulk_ends_here (bulk.TableInit d n) e c h =
        let k = neither (segment_past p s act d (at 1) (at 0)) (table_past p s act n (at 2) (at 0)) c in
        let t = two_calm (segment_in s d) (table_in s n) (at 1) (at 2) (at 0) (with_table s n) k.0 k.1 h in
        found_ends {A = ValueType} (slice_get p.«module».elements d) _ (λ q. found_ends {A = Table} (slice_get p.«module».tables n) _ (λ r. asks_ends _ _ (may_ends t more _ (allows_ends _ _ (asks_ends _ _ (goes_on t more (drop 3 act.innermost.values)))))))
    bulk_ends_here (bulk.TableCopy n m) e c h =
        let k = neither (table_past p s act m (at 1) (at 0)) (table_past p s act n (at 2) (at 0)) c in
        let t = two_calm (table_in s m) (table_in s n) (at 1) (at 2) (at 0) (with_table s n) k.0 k.1 h in
        found_ends {A = Table} (slice_get p.«module».tables n) _ (λ q. found_ends {A = Table} (slice_get p.«module».tables m) _ (λ r. asks_ends _ _ (may_ends t more _ (allows_ends _ _ (asks_ends _ _ (goes_on t more (drop 3 act.innermost.values)))))))
    bulk_ends_here (bulk.MemoryInit d n) e c h =
        let k = neither (data_past p s act d (at 1) (at 0)) (memory_past p s act n (at 2) (at 0)) c in
        found_ends {A = MemoryType} (slice_get p.«module».memories n) _ (λ t. asks_ends _ _ (exchanged_ends (init_calm d n k.0 k.1 h) more (address t.memory64 ∷ i32_type ∷ i32_type ∷ []) []))
    bulk_ends_here (bulk.MemoryCopy n m) e c h =
        let k = neither (memory_past p s act m (at 1) (at 0)) (memory_past p s act n (at 2) (at 0)) c in
        found_ends {A = MemoryType} (slice_get p.«module».memories n) _ (λ t. found_ends {A = MemoryType} (slice_get p.«module».memories m) _ (λ q. exchanged_ends (copy_calm n m k.0 k.1 h) more (address t.memory64 ∷ address q.memory64 ∷ address (t.memory64 && q.memory64) ∷ []) []))
    bulk_ends_here (bulk.MemoryFill n) e c h = memory_ends_at (writing_sized n (at 2) (at 0) (replicate (at 0) (at 1 % 256)) (length-replicate {A = ℕ} (at 0) (at 1 % 256)) c h) more n (λ t. address t.memory64 ∷ i32_type ∷ address t.memory64 ∷ []) (λ t. [])
    bulk_ends_here (bulk.MemoryDiscard n) e c h = quiet c

    gc_ends_here : (o : GcOperator) → gc_traps p s act o ≡ false → GivesGc p x s a u act o → Ends (operate p a act acts (op.Gc o) more)
    gc_ends_here (gc.StructGet n i) c h = let k = reads_calm false _ i c h in read_ends k.1 more IsWhole struct_fields [] n i (first_of_one act.innermost.values k.0)
    gc_ends_here (gc.StructGetS n i) c h = let k = reads_calm true _ i c h in read_ends k.1 more IsPacked struct_fields [] n i (first_of_one act.innermost.values k.0)
    gc_ends_here (gc.StructGetU n i) c h = let k = reads_calm false _ i c h in read_ends k.1 more IsPacked struct_fields [] n i (first_of_one act.innermost.values k.0)
    gc_ends_here (gc.StructSet n i) c h = let k = writes_calm _ i _ _ c h in field_set k.1 more act.innermost.values n i k.0
    gc_ends_here (gc.ArrayGet n) c h = let k = reads_calm false _ _ c h in read_ends k.1 more IsWhole array_fields (i32_type ∷ []) n 0 (second_of_two act.innermost.values k.0)
    gc_ends_here (gc.ArrayGetS n) c h = let k = reads_calm true _ _ c h in read_ends k.1 more IsPacked array_fields (i32_type ∷ []) n 0 (second_of_two act.innermost.values k.0)
    gc_ends_here (gc.ArrayGetU n) c h = let k = reads_calm false _ _ c h in read_ends k.1 more IsPacked array_fields (i32_type ∷ []) n 0 (second_of_two act.innermost.values k.0)
    gc_ends_here (gc.ArraySet n) c h = let k = writes_calm _ _ _ _ c h in element_set k.1 more act.innermost.values n k.0
    gc_ends_here (gc.ArrayFill n) c h = let k = writes_calm _ _ _ _ c h in elements_set k.1 more act.innermost.values n k.0
    gc_ends_here gc.ArrayLen c h = number_ends (length_calm _ c h) more array IsArray
    gc_ends_here gc.I31GetS c h = number_ends (unboxed_calm true _ c h) more i31 IsUnboxed
    gc_ends_here gc.I31GetU c h = number_ends (unboxed_calm false _ c h) more i31 IsUnboxed
    gc_ends_here (gc.ArrayCopy n m) c h =
        let k = neither (elements_end p s act (get_or act.innermost.values 2 nothing) (at 1) (at 0)) (elements_end p s act (get_or act.innermost.values 4 nothing) (at 3) (at 0)) c in
        let t = copy_calm_at (get_or act.innermost.values 2 nothing) (get_or act.innermost.values 4 nothing) (at 1) (at 0) (at 3) k.0 k.1 h in
        array_copy_ends t.1.1 more n m (third_of_three act.innermost.values t.0) (second_below_three act.innermost.values t.1.0)
    gc_ends_here (gc.ArrayInitElem n e) c h =
        let k = neither (segment_past p s act e (at 1) (at 0)) (elements_end p s act (get_or act.innermost.values 3 nothing) (at 2) (at 0)) c in
        let t = onto_calm (segment_in s e) (at 1) (at 0) (at 2) (get_or act.innermost.values 3 nothing) k.0 k.1 h in
        array_init_ends t.1 more n e (fourth_of_four act.innermost.values t.0)
    gc_ends_here (gc.ArrayInitData n d) c h =
        let k = filled_calm (get_or act.innermost.values 3 nothing) d (at 2) (at 1) (at 0) c h in
        bytes_written_end k.1 more n d (fourth_of_four act.innermost.values k.0)
    gc_ends_here (gc.ArrayNewElem n e) c h = let k = or_there {A = List Value} (range (segment_in s e) (at 1) (at 0)) _ (range_missing (segment_in s e) (at 1) (at 0) ∙ c) h in elements_made_ends (named_calm n _ _ k.1) more n e
    gc_ends_here (gc.ArrayNewData n d) c h = data_made_ends (made_calm d _ _ (slice_get p.«module».types n) c h) more n d
    gc_ends_here (gc.RefCastNullable q) c h = found_ends {A = HeapOf TypeTree} (meant_heap p.«module» q) _ (λ k. null_passes act.innermost.values k c)
    gc_ends_here gc.ExternConvertAny c h = ends_as (operate p a act acts (op.Gc gc.ExternConvertAny) more) (operate p b act acts (op.Gc gc.ExternConvertAny) more) (same_convert p a b act acts any extern more refl) (operate_ends p b act acts refl (op.Gc gc.ExternConvertAny) more refl)
    gc_ends_here gc.RefEq c h = determined_ends (op.Gc gc.RefEq) more refl refl h
    gc_ends_here (gc.StructNew n) c h = determined_ends (op.Gc (gc.StructNew n)) more refl refl h
    gc_ends_here (gc.StructNewDefault n) c h = determined_ends (op.Gc (gc.StructNewDefault n)) more refl refl h
    gc_ends_here (gc.ArrayNew n) c h = determined_ends (op.Gc (gc.ArrayNew n)) more refl refl h
    gc_ends_here (gc.ArrayNewDefault n) c h = determined_ends (op.Gc (gc.ArrayNewDefault n)) more refl refl h
    gc_ends_here (gc.ArrayNewFixed n k) c h = determined_ends (op.Gc (gc.ArrayNewFixed n k)) more refl refl h
    gc_ends_here (gc.RefTestNonNull q) c h = determined_ends (op.Gc (gc.RefTestNonNull q)) more refl refl h
    gc_ends_here (gc.RefTestNullable q) c h = determined_ends (op.Gc (gc.RefTestNullable q)) more refl refl h
    gc_ends_here (gc.BrOnCast n from to) c h = determined_ends (op.Gc (gc.BrOnCast n from to)) more refl refl h
    gc_ends_here (gc.BrOnCastFail n from to) c h = determined_ends (op.Gc (gc.BrOnCastFail n from to)) more refl refl h
    gc_ends_here gc.AnyConvertExtern c h = determined_ends (op.Gc gc.AnyConvertExtern) more refl refl h
    gc_ends_here gc.RefI31 c h = determined_ends (op.Gc gc.RefI31) more refl refl h
    gc_ends_here o c h = quiet c

    memory_ends_here : (o : MemoryOperator) → act.innermost.code ≡ plain (op.Memory o) more → traps p s act (op.Memory o) ≡ false → GivesMemory p x s a u act o → Ends (operate p a act acts (op.Memory o) more)
    memory_ends_here (memory.LocalGet n) e c h = determined_ends (op.Memory (memory.LocalGet n)) more refl refl h
    memory_ends_here (memory.LocalSet n) e c h = determined_ends (op.Memory (memory.LocalSet n)) more refl refl h
    memory_ends_here (memory.LocalTee n) e c h = determined_ends (op.Memory (memory.LocalTee n)) more refl refl h
    memory_ends_here (memory.GlobalGet n) e c h = determined_ends (op.Memory (memory.GlobalGet n)) more refl refl h
    memory_ends_here (memory.GlobalSet n) e c h = determined_ends (op.Memory (memory.GlobalSet n)) more refl refl h
    memory_ends_here (memory.MemorySize n) e c h = operate_ends p a act acts (sized_calm n _ (λ g. g.1) h) (op.Memory (memory.MemorySize n)) more refl
    memory_ends_here (memory.MemoryGrow n) e c h = operate_ends p a act acts (sized_calm n _ (grows_calm n (grown (memory_at s n) (at 0))) h) (op.Memory (memory.MemoryGrow n)) more refl
    memory_ends_here o e c h = access_ends (reach_calm false (memory_access o) c h) more (op.Memory o)

    vector_ends_here : (o : SimdOperator) (r : Option Reach) → simd_access o ≡ r → act.innermost.code ≡ plain (op.Simd o) more → reach_past p s act (can_trap (op.Simd o)) r ≡ false → OrOutside p x s a u act r (Reaches p x s a u act) → Ends (operate p a act acts (op.Simd o) more)
    vector_ends_here o None q e c h = outside_ends (op.Simd o) more e c h
    vector_ends_here o (Some r) q e c h = subst (λ (i : Option MemArg). Ends (operate_vector p a act acts i (op.Simd o) more)) (sym (simd_carried o r q)) (access_ends (access_calm r.argument r.access c h) more (op.Simd o))

    atomic_ends_here : (o : AtomicOperator) → atomic_traps p s act o ≡ false → GivesAtomic p x s a u act o → Ends (operate p a act acts (op.Atomic o) more)
    atomic_ends_here atomic.AtomicFence c h = determined_ends (op.Atomic atomic.AtomicFence) more refl refl h
    atomic_ends_here (atomic.MemoryAtomicNotify m) c h = access_ends (woken_calm m c h) more (op.Atomic (atomic.MemoryAtomicNotify m))
    atomic_ends_here (atomic.MemoryAtomicWait32 m) c h = quiet c
    atomic_ends_here (atomic.MemoryAtomicWait64 m) c h = quiet c
    atomic_ends_here o c h = access_ends (exchange_calm (atomic_access o) c h) more (op.Atomic o)

    numeric_ends_here : (o : NumericOperator) (k : Option Operation) → act.innermost.code ≡ plain (op.Numeric o) more
        → is_undefined p s act (can_trap (op.Numeric o)) k ≡ false → OrOutside p x s a u act k (Calculates p x s a u act)
        → Ends (operate p a act acts (op.Numeric o) more)
    numeric_ends_here o None e c h = outside_ends (op.Numeric o) more e c h
    numeric_ends_here o (Some r) e c h = compute_ends p a act acts
        (or_there {A = ℕ} (r.value (bits_of (get_or act.innermost.values 1 nothing)) (bits_of (get_or act.innermost.values 0 nothing))) _ c h).1.1
        (op.Numeric o) more

    operator_ends : (o : Op) → act.innermost.code ≡ plain o more → traps p s act o ≡ false → GivesOperator p x s a u act o → Ends (operate p a act acts o more)
    operator_ends (op.Control o) e c h = control_ends o c h
    operator_ends (op.Parametric o) e c h = determined_ends (op.Parametric o) more refl refl h
    operator_ends (op.Exception o) e c h = exception_ends_here o c h
    operator_ends (op.Memory o) e c h = memory_ends_here o e c h
    operator_ends (op.Bulk o) e c h = bulk_ends_here o e c h
    operator_ends (op.Gc o) e c h = gc_ends_here o c h
    operator_ends (op.Const o) e c h = determined_ends (op.Const o) more refl refl h
    operator_ends (op.Simd o) e c h = vector_ends_here o (simd_access o) refl e c h
    operator_ends (op.Numeric o) e c h = numeric_ends_here o (integer_operation o) e c h
    operator_ends (op.Atomic o) e c h = atomic_ends_here o c h
    operator_ends o e c h = outside_ends o more e c h

  -- ---- all instructions

  block_quiet : (o : Op) → GivesBlock p x s a u act o → GivesBlock p x s b u act o
  block_quiet (op.Control (control.If bt)) h = h
  block_quiet o h = h

  code_trapped : (c : Code) → act.innermost.code ≡ c → GivesCode p x s a u act c → (execute p a act acts c).outcome ≡ trapped → IsTrue (code_traps p s act c)
  code_trapped (plain o more) e h d = at (traps p s act o) refl
    where
      at : (t : Bool) → traps p s act o ≡ t → t ≡ true
      at true c = refl
      at false c = absurd ((operator_ends more o e c h).never d)
  code_trapped (nested o body more) e h d = absurd ((ends_as (execute p a act acts (nested o body more)) (execute p b act acts (nested o body more)) ((code_same p act acts s a b u u (nested o body more) refl h (block_quiet o h)).0) (block_ends p b act acts refl o body more)).never d)
  code_trapped (close o) e h d = absurd ((ends_as (execute p a act acts (close o)) (execute p b act acts (close o)) ((code_same p act acts s a b u u (close o) refl h h).0) (close_ends p b act acts refl o)).never d)
  code_trapped (turn o more) e h d = absurd ((ends_as (execute p a act acts (turn o more)) (execute p b act acts (turn o more)) ((code_same p act acts s a b u u (turn o more) refl h h).0) (turn_ends p b act acts refl o more)).never d)

pub only_these_trap : OnlyTheseTrap
only_these_trap p [] s a u h d = absurd h
only_these_trap p (act ∷ acts) s a u h d = code_trapped p act acts s a u act.innermost.code refl h d
