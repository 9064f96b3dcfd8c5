-- A step under an answer without a trap does not trap, if its operator never does.
use Rattle.std.proofs.Common.{◌≡◌, ℕ, zero, suc, Bool, true, false, List, [], ◌∷◌, ◌++◌, map, length, take, drop, Option, Some, None, is_some, if◌then◌else◌, IsTrue, slice_get, sym, subst, true≢false, not, ◌&&◌, replicate}
use Rattle.std.specs.Prelude.{flat_map}
use Rattle.wasm_types.specs.trees.Types.{i32, ref, any, extern, abstract, i31, Abstract, InnerOf, FieldOf}
use Rattle.wasm_types.specs.trees.Trees.{TypeTree}
use Rattle.wasm_types.specs.trees.Below.{expanded}
use Rattle.wasm_types.specs.values.Reference.{Reference}
use Rattle.wasm_types.specs.values.declared.heap.HeapType.{HeapType}
use Rattle.wasm_operators_immediates.specs.declared.handlers.Catch.{Catch}
use Rattle.wasm_operators_immediates.specs.declared.memory.MemArg.{MemArg}
use Rattle.wasm_operators_enums.specs.declared.memory.MemoryOperator.{MemoryOperator}
use Rattle.wasm_operators_enums.specs.declared.memory.MemoryOperator.TheVariants as memory
use Rattle.wasm_operators_enums.specs.declared.bulk.BulkOperator.{BulkOperator}
use Rattle.wasm_operators_enums.specs.declared.bulk.BulkOperator.TheVariants as bulk
use Rattle.wasm_operators_enums.specs.declared.atomic.AtomicOperator.{AtomicOperator}
use Rattle.wasm_operators_enums.specs.declared.atomic.AtomicOperator.TheVariants as atomic
use Rattle.wasm_operators_enums.specs.declared.gc.GcOperator.{GcOperator}
use Rattle.wasm_operators_enums.specs.declared.gc.GcOperator.TheVariants as gc
use Rattle.wasm_operators_enums.specs.Table.{info_of}
use Rattle.wasm_operators_enums.specs.Immediates.{immediates_of}
use Rattle.wasm_operators_enums.specs.Op as op
use Rattle.wasm_operators_enums.specs.Op.{Op, ExceptionTree}
use Rattle.wasm_operators_encoding.specs.expressions.Code.{Code, close, nested, turn}
use Rattle.wasm_operator_validator_rules.specs.Operands.{ValueType, stack, known}
use Rattle.wasm_operator_validator_rules.specs.InstructionTypes.{i32_type}
use Rattle.wasm_operator_validator_rules.specs.Numbers.{numbers}
use Rattle.wasm_operator_validator_soundness.specs.runs.Values.{Program, Value, number_value, ref_function, ref_object, IsAReference, is_null, Fits, AllFit, null_of}
use Rattle.wasm_operator_validator_soundness.specs.runs.States.{Handlers, no_handlers, table, clauses, Label, Activation, branch_type, Answer, Outcome, trapped, thrown, stuck, Move, done, refused, asks, allows, choose, found, pops}
use Rattle.wasm_operator_validator_soundness.specs.runs.Names.{computed, argument_of}
use Rattle.wasm_operator_validator_soundness.specs.runs.Machine.{address, meant_heap, HaveDefaults, IsData, Clause, clause_at, function_type, takes, is_for, caught_by, catch_by, turn_to, handle, leave_labels, unwind, throw_again}
use Rattle.wasm_operator_validator_soundness.specs.runs.Machine.{operands_of, struct_fields, array_fields, label_at, goes, exchange, compute, branch, caught_at, operate_exception, operate_memory, operate_bulk, operate_atomic, make, cast_top, cast_from, IsOf, null_in, convert, operate_gc, operate_vector, operate, execute}
use Rattle.wasm_operator_validator_soundness.specs.runs.Progress.{exception_can_trap, memory_can_trap, bulk_can_trap, gc_can_trap, atomic_can_trap, can_trap}
use Rattle.wasm_operator_validator_soundness.proofs.Progress.{NoTrap, no_trap, Goes, jump_goes, branch_goes, enter_goes, control_any, parametric_goes, set_goes, end_goes}

-- The step does not trap. It is a record, so that the parts of a step can be found from its type.
pub record Ends (m : Move) : Type 0 where
  pub never : m.outcome ≡ trapped → ⊥

pub goes_ends : (m : Move) → Goes false m → Ends m
goes_ends m k = record { never = λ e. true≢false (sym (k.ends e)) }

pub done_ends : (o : Outcome) → NoTrap o → Ends (done o)
done_ends o n = record { never = no_trap o n }

refused_ends : Ends refused
refused_ends = record { never = λ e. no_trap stuck tt e }

pub asks_ends : (P : Type 0) (m : Move) → Ends m → Ends (asks P m)
asks_ends P m k = record { never = k.never }

pub allows_ends : (P : Type 0) (m : Move) → Ends m → Ends (allows P m)
allows_ends P m k = record { never = k.never }

pub choose_ends : (b : Bool) (m n : Move) → Ends m → Ends n → Ends (choose b m n)
choose_ends true m n k l = k
choose_ends false m n k l = l

pub found_ends : {A : Type 0} (o : Option A) (f : A → Move) → ((x : A) → Ends (f x)) → Ends (found o f)
found_ends None f k = done_ends stuck tt
found_ends (Some x) f k = k x

pub pops_ends : (vs : List Value) (f : Value → List Value → Move) → ((v : Value) (ws : List Value) → Ends (f v ws)) → Ends (pops vs f)
pops_ends [] f k = done_ends stuck tt
pops_ends (v ∷ vs) f k = k v vs

module _ (p : Program) (a : Answer) where
  takes_ends : (ts : List ValueType) (vs : List Value) (f : List Value → List Value → Move) → ((us ws : List Value) → Ends (f us ws)) → Ends (takes p a ts vs f)
  takes_ends ts vs f k = asks_ends (AllFit p (take (length ts) vs) (stack ts)) _ (k (take (length ts) vs) (drop (length ts) vs))

  -- ---- exceptions, whichever clause catches them

  module _ (t : TypeTree) (vs : List Value) where
    for_ends : (tag : Option ℕ) (m : Move) → Ends m → Ends (is_for p a t vs tag m)
    for_ends None m k = k
    for_ends (Some x) m k = found_ends (slice_get p.«module».tags x) _ (λ u. allows_ends (u ≡ t) m k)

    catch_ends : (o : Option Catch) (act : Activation) (ls : List Label) (acts : List Activation) → Ends (catch_by p a t vs o act ls acts)
    catch_ends None act ls acts = refused_ends
    catch_ends (Some c) act ls acts = let h = caught_by p a t vs c in
        for_ends h.tag _ (found_ends (slice_get (map branch_type ls) h.label) _ (λ ts. asks_ends (AllFit p h.values (stack ts)) _ (goes_ends _ (jump_goes p a false h.label act ls h.values acts))))

    clause_ends : (o : Option Clause) (act : Activation) (l : Label) (ls : List Label) (acts : List Activation) → Ends (turn_to p a t vs o act l ls acts)
    clause_ends None act l ls acts = refused_ends
    clause_ends (Some c) act l ls acts = for_ends c.tag _ (record { never = λ e. no_trap _ tt e })

    handle_ends : (h : Handlers) (act : Activation) (l : Label) (ls : List Label) (acts : List Activation) → Ends (handle p a t vs h act l ls acts)
    handle_ends no_handlers act l ls acts = refused_ends
    handle_ends (table cs) act l ls acts = catch_ends (slice_get cs a.index) act ls acts
    handle_ends (clauses c) act l ls acts = clause_ends (clause_at c a.index) act l ls acts

    leave_ends : (act : Activation) (ls : List Label) (n : ℕ) (acts : List Activation) (further : ℕ → Move) → ((k : ℕ) → Ends (further k)) → Ends (leave_labels p a t vs act ls n acts further)
    leave_ends act [] n acts further k = k n
    leave_ends act (l ∷ ls) zero acts further k = handle_ends l.handlers act l ls acts
    leave_ends act (l ∷ ls) (suc n) acts further k = leave_ends act ls n acts further k

    unwind_ends : (acts : List Activation) (n : ℕ) → Ends (unwind p a t vs acts n)
    unwind_ends [] n = done_ends (thrown t vs) tt
    unwind_ends (act ∷ acts) n = leave_ends act (act.innermost ∷ act.around) n acts (unwind p a t vs acts) (unwind_ends acts)

  pub again_ends : (t : TypeTree) (acts : List Activation) → Ends (throw_again p a t acts)
  again_ends t acts = found_ends (function_type t) _ (λ b. allows_ends (AllFit p a.values (stack b.params)) _ (unwind_ends t a.values acts a.leaves))

  -- ---- operators that never trap

  module _ (act : Activation) (acts : List Activation) (calm : a.traps ≡ false) where
    pub on : (ws : List Value) (more : Code) → Ends (goes p a act acts ws more)
    on ws more = record { never = λ e. no_trap _ tt e }

    branch_ends : (n : ℕ) (ws : List Value) → Ends (branch p a act acts n ws)
    branch_ends n ws = goes_ends _ (branch_goes p act acts false a n ws)

    exchange_ends : (ts us : List ValueType) (more : Code) → Ends (exchange p a act acts ts us more)
    exchange_ends ts us more = takes_ends ts act.innermost.values _ (λ xs ws.
        subst (λ (b : Bool). Ends (choose b (done trapped) (allows (AllFit p a.values (stack us)) (goes p a act acts (a.values ++ ws) more)))) (sym calm)
        (allows_ends (AllFit p a.values (stack us)) _ (on (a.values ++ ws) more)))

    pub compute_ends : (o : Op) (more : Code) → Ends (compute p a act acts o more)
    compute_ends o more = found_ends (computed (info_of o).name) _ (λ n. exchange_ends (numbers n.takes) (numbers n.gives) more)

    exception_ends : (o : ExceptionTree) → exception_can_trap o ≡ false → Ends (operate_exception p a act acts o)
    exception_ends (op.Throw x) c = found_ends (slice_get p.«module».tags x) _ (λ t. found_ends (function_type t) _ (λ b.
        takes_ends b.params act.innermost.values _ (λ us ws. unwind_ends t us (act ∷ acts) a.leaves)))
    exception_ends op.ThrowRef c = absurd (true≢false c)
    exception_ends (op.Rethrow n) c = found_ends (caught_at p a act acts n (act.innermost ∷ act.around)) _ (λ e. again_ends e.type (act ∷ acts))
    exception_ends o c = done_ends stuck tt

    memory_ends : (o : MemoryOperator) (more : Code) → memory_can_trap o ≡ false → Ends (operate_memory p a act acts o more)
    memory_ends (memory.LocalGet x) more c = found_ends (slice_get act.locals x) _ (λ o. found_ends o _ (λ v. on (v ∷ act.innermost.values) more))
    memory_ends (memory.LocalSet x) more c = pops_ends act.innermost.values _ (λ v ws. goes_ends _ (set_goes p act acts false a x v ws more))
    memory_ends (memory.LocalTee x) more c = pops_ends act.innermost.values _ (λ v ws. goes_ends _ (set_goes p act acts false a x v (v ∷ ws) more))
    memory_ends (memory.GlobalGet x) more c = found_ends (slice_get p.«module».globals x) _ (λ t. exchange_ends [] (t.content ∷ []) more)
    memory_ends (memory.GlobalSet x) more c = found_ends (slice_get p.«module».globals x) _ (λ t. asks_ends (IsTrue t.mutable) _ (exchange_ends (t.content ∷ []) [] more))
    memory_ends (memory.MemorySize x) more c = found_ends (slice_get p.«module».memories x) _ (λ t. exchange_ends [] (address t.memory64 ∷ []) more)
    memory_ends (memory.MemoryGrow x) more c = found_ends (slice_get p.«module».memories x) _ (λ t. exchange_ends (address t.memory64 ∷ []) (address t.memory64 ∷ []) more)
    memory_ends o more c = absurd (true≢false c)

    bulk_ends : (o : BulkOperator) (more : Code) → bulk_can_trap o ≡ false → Ends (operate_bulk p a act acts o more)
    bulk_ends (bulk.RefNull h) more c = found_ends (meant_heap p.«module» h) _ (λ k. on (null_of k ∷ act.innermost.values) more)
    bulk_ends bulk.RefIsNull more c = pops_ends act.innermost.values _ (λ v ws. asks_ends (IsAReference v) _ (on (number_value i32 a.made ∷ ws) more))
    bulk_ends (bulk.RefFunc x) more c = found_ends (slice_get p.functions x) _ (λ f. on (ref_function (Some x) f.type ∷ act.innermost.values) more)
    bulk_ends (bulk.TableSize x) more c = found_ends (slice_get p.«module».tables x) _ (λ t. exchange_ends [] (address t.table64 ∷ []) more)
    bulk_ends (bulk.TableGrow x) more c = found_ends (slice_get p.«module».tables x) _ (λ t. exchange_ends (t.element ∷ address t.table64 ∷ []) (address t.table64 ∷ []) more)
    bulk_ends (bulk.ElemDrop e) more c = found_ends (slice_get p.«module».elements e) _ (λ s. on act.innermost.values more)
    bulk_ends (bulk.DataDrop d) more c = asks_ends (IsData p.«module».data_count d) _ (on act.innermost.values more)
    bulk_ends o more c = absurd (true≢false c)

    -- ---- objects

    makes_ends : (of : InnerOf TypeTree → Option (List (FieldOf TypeTree))) (x : ℕ) (takes_for : List (FieldOf TypeTree) → List ValueType) (further : List (FieldOf TypeTree) → Move → Move) (more : Code)
        → ((fs : List (FieldOf TypeTree)) (m : Move) → Ends m → Ends (further fs m)) → Ends (make p a act acts of x takes_for further more)
    makes_ends of x takes_for further more k = found_ends (slice_get p.«module».types x) _ (λ t. found_ends (of (expanded t)) _ (λ fs.
        takes_ends (takes_for fs) act.innermost.values _ (λ us ws. k fs _ (on (ref_object a.made t ∷ ws) more))))

    cast_top_ends : (n : Bool) (h : HeapType) (f : Bool → Value → List Value → Move) → ((b : Bool) (v : Value) (ws : List Value) → Ends (f b v ws)) → Ends (cast_top p a act acts n h f)
    cast_top_ends n h f g = found_ends (meant_heap p.«module» h) _ (λ k. pops_ends act.innermost.values _ (λ v ws. asks_ends _ _ (allows_ends (IsTrue (a.condition && not (is_null v)) → Fits p v (ref false k)) _ (g (if is_null v then n else a.condition) v ws))))

    cast_from_ends : (from to : Reference) (f : Bool → Value → List Value → Move) → ((b : Bool) (v : Value) (ws : List Value) → Ends (f b v ws)) → Ends (cast_from p a act acts from to f)
    cast_from_ends from to f g = found_ends (meant_heap p.«module» from.heap) _ (λ h. found_ends (meant_heap p.«module» to.heap) _ (λ k.
        pops_ends act.innermost.values _ (λ v ws. asks_ends _ _ (allows_ends (IsTrue (a.condition && not (is_null v)) → Fits p v (ref false k)) _ (g (if is_null v then to.nullable else a.condition) v ws)))))

    convert_ends : (h k : Abstract) (more : Code) → Ends (convert p a act acts h k more)
    convert_ends h k more = pops_ends act.innermost.values _ (λ v ws. asks_ends (IsOf p a act acts h v) _
        (choose_ends (is_null v) _ _ (on (null_in p a act acts k v ∷ ws) more) (allows_ends ((c : Bool) → Fits p v (ref true (abstract c h)) → AllFit p a.values (known (ref false (abstract c k)) ∷ [])) _ (on (a.values ++ ws) more))))

    gc_ends : (o : GcOperator) (more : Code) → gc_can_trap o ≡ false → Ends (operate_gc p a act acts o more)
    gc_ends gc.RefEq more c = pops_ends act.innermost.values _ (λ v ws. pops_ends ws _ (λ w us. asks_ends _ _ (on (number_value i32 a.made ∷ us) more)))
    gc_ends (gc.StructNew x) more c = makes_ends struct_fields x operands_of (λ fs m. m) more (λ fs m k. k)
    gc_ends (gc.StructNewDefault x) more c = makes_ends struct_fields x (λ fs. []) (λ fs m. asks (HaveDefaults fs) m) more (λ fs m k. asks_ends (HaveDefaults fs) m k)
    gc_ends (gc.ArrayNew x) more c = makes_ends array_fields x (λ fs. operands_of fs ++ i32_type ∷ []) (λ fs m. m) more (λ fs m k. k)
    gc_ends (gc.ArrayNewDefault x) more c = makes_ends array_fields x (λ fs. i32_type ∷ []) (λ fs m. asks (HaveDefaults fs) m) more (λ fs m k. asks_ends (HaveDefaults fs) m k)
    gc_ends (gc.ArrayNewFixed x n) more c = makes_ends array_fields x (λ fs. flat_map (λ (u : ValueType). replicate n u) (operands_of fs)) (λ fs m. m) more (λ fs m k. k)
    gc_ends (gc.RefTestNonNull h) more c = cast_top_ends false h _ (λ b v ws. on (number_value i32 a.made ∷ ws) more)
    gc_ends (gc.RefTestNullable h) more c = cast_top_ends true h _ (λ b v ws. on (number_value i32 a.made ∷ ws) more)
    gc_ends (gc.BrOnCast n from to) more c = cast_from_ends from to _ (λ b v ws. choose_ends b _ _ (branch_ends n (v ∷ ws)) (on (v ∷ ws) more))
    gc_ends (gc.BrOnCastFail n from to) more c = cast_from_ends from to _ (λ b v ws. choose_ends b _ _ (on (v ∷ ws) more) (branch_ends n (v ∷ ws)))
    gc_ends gc.AnyConvertExtern more c = convert_ends extern any more
    gc_ends gc.ExternConvertAny more c = convert_ends any extern more
    gc_ends gc.RefI31 more c = exchange_ends (i32_type ∷ []) (ref false (abstract false i31) ∷ []) more
    gc_ends o more c = absurd (true≢false c)

    vector_ends : (i : Option MemArg) (o : Op) (more : Code) → is_some i ≡ false → Ends (operate_vector p a act acts i o more)
    vector_ends None o more c = compute_ends o more
    vector_ends (Some i) o more c = absurd (true≢false c)

    atomic_ends : (o : AtomicOperator) (more : Code) → atomic_can_trap o ≡ false → Ends (operate_atomic p a act acts o more)
    atomic_ends atomic.AtomicFence more c = on act.innermost.values more
    atomic_ends o more c = absurd (true≢false c)

    pub operate_ends : (o : Op) (more : Code) → can_trap o ≡ false → Ends (operate p a act acts o more)
    operate_ends (op.Control o) more c = goes_ends _ (control_any p act acts a o more c)
    operate_ends (op.Parametric o) more c = goes_ends _ (parametric_goes p act acts a o more)
    operate_ends (op.Exception o) more c = exception_ends o c
    operate_ends (op.Memory o) more c = memory_ends o more c
    operate_ends (op.Bulk o) more c = bulk_ends o more c
    operate_ends (op.Gc o) more c = gc_ends o more c
    operate_ends (op.Const o) more c = compute_ends (op.Const o) more
    operate_ends (op.Numeric o) more c = compute_ends (op.Numeric o) more
    operate_ends (op.Simd o) more c = vector_ends (argument_of (immediates_of (op.Simd o))) (op.Simd o) more c
    operate_ends (op.SimdNumeric o) more c = compute_ends (op.SimdNumeric o) more
    operate_ends (op.Atomic o) more c = atomic_ends o more c
    operate_ends o more c = done_ends stuck tt

    -- blocks and ends
    pub block_ends : (o : Op) (body more : Code) → Ends (execute p a act acts (nested o body more))
    block_ends o body more = goes_ends _ (enter_goes p act acts false a o body more)

    pub close_ends : (o : Op) → Ends (execute p a act acts (close o))
    close_ends (op.Exception (op.Delegate n)) = found_ends (label_at p a act acts (suc n)) _ (λ ts. goes_ends _ (end_goes p act acts a))
    close_ends o = goes_ends _ (end_goes p act acts a)

    pub turn_ends : (o : Op) (more : Code) → Ends (execute p a act acts (turn o more))
    turn_ends o more = goes_ends _ (end_goes p act acts a)
