-- Some answer is there at each state in which all fits.
use Rattle.std.proofs.Common.{◌≡◌, ℕ, zero, suc, List, [], ◌∷◌, ◌++◌, map, reverse, Option, Some, None, is_some, Bool, true, false, IsTrue, not, ◌&&◌, if◌then◌else◌, get_or, slice_get, slice_set, length, take, drop, refl, sym, subst, ◌∙◌, true≢false, replicate}
use Rattle.std.specs.Prelude.{flat_map}
use Rattle.wasm_types.specs.trees.Types.{Number, i32, i64, Abstract, any, extern, array, i31, HeapOf, abstract, concrete, ref, InnerOf, StorageOf, FieldOf}
use Rattle.wasm_types.specs.trees.Trees.{TypeTree}
use Rattle.wasm_types.specs.trees.Below.{expanded}
use Rattle.wasm_types.specs.trees.AbstractOrder.{same}
use Rattle.wasm_types.specs.values.Reference.{Reference}
use Rattle.wasm_types.specs.externs.declared.memory.MemoryType.{MemoryType}
use Rattle.wasm_types.specs.values.declared.heap.HeapType.{HeapType}
use Rattle.wasm_operators_immediates.specs.declared.block.BlockType.{BlockType}
use Rattle.wasm_operators_immediates.specs.declared.memory.MemArg.{MemArg}
use Rattle.wasm_operators_enums.specs.declared.control.ControlOperator.{ControlOperator}
use Rattle.wasm_operators_enums.specs.declared.control.ControlOperator.TheVariants as control
use Rattle.wasm_operators_enums.specs.declared.memory.MemoryOperator.{MemoryOperator}
use Rattle.wasm_operators_enums.specs.declared.memory.MemoryOperator.TheVariants as memory
use Rattle.wasm_operators_enums.specs.declared.bulk.BulkOperator.{BulkOperator}
use Rattle.wasm_operators_enums.specs.declared.bulk.BulkOperator.TheVariants as bulk
use Rattle.wasm_operators_enums.specs.declared.atomic.AtomicOperator.{AtomicOperator}
use Rattle.wasm_operators_enums.specs.declared.atomic.AtomicOperator.TheVariants as atomic
use Rattle.wasm_operators_enums.specs.declared.gc.GcOperator.{GcOperator}
use Rattle.wasm_operators_enums.specs.declared.gc.GcOperator.TheVariants as gc
use Rattle.wasm_operators_enums.specs.Table.{info_of}
use Rattle.wasm_operators_enums.specs.Immediates.{immediates_of}
use Rattle.wasm_operators_enums.specs.Op as op
use Rattle.wasm_operators_enums.specs.Op.{Op, ParametricTree, ExceptionTree}
use Rattle.wasm_operators_encoding.specs.expressions.Code.{Code, close, plain, nested, turn}
use Rattle.wasm_operator_validator_rules.specs.Operands.{ValueType, Operand, known, AllBelow, all_known, stack}
use Rattle.wasm_operator_validator_rules.specs.Context.{Global, Table, Signature}
use Rattle.wasm_operator_validator_rules.specs.Row.{GroupRow}
use Rattle.wasm_operator_validator_rules.specs.InstructionTypes.{i32_type}
use Rattle.wasm_operator_validator_rules.specs.Numbers.{numbers}
use Rattle.wasm_operator_validator_rules.specs.Exceptions.{ExceptionRow, exception}
use Rattle.wasm_operator_validator_rules.specs.Typed.{Typed}
use Rattle.wasm_operator_validator_soundness.specs.runs.Values.{Body, Program, Value, number_value, ref_null, ref_function, ref_object, ref_i31, ref_host, ref_extern, ref_exn, least_type, null_of, is_null, Fits, AllFit, IsAReference, IsNumberValue}
use Rattle.wasm_operator_validator_soundness.specs.runs.States.{Continuation, behind, again, Exception, Label, Activation, Answer, Outcome, next, returned, trapped, thrown, stuck, Move, done, asks, allows, choose, found, pops, Handlers, is_clause, no_handlers, table, clauses}
use Rattle.wasm_operator_validator_soundness.specs.runs.Names.{Places, computed, accessed, argument_of}
use Rattle.wasm_operator_validator_soundness.specs.runs.Machine.{operand_of, operands_of, struct_fields, array_fields, IsWhole, IsPacked, AreStoredAlike, writes, copies, stores_from, within, either_part, meant, IsData, IsArray, IsUnboxed, FromData, block_signature, address, function_type, takes, gives, may_trap, hand_back, come_out, land, jump, leave_labels, unwind, throw_again, begin, body_of, named, HaveDefaults, begun, going, meant_heap}
use Rattle.wasm_operator_validator_soundness.specs.runs.Machine.{label_at, goes, exchange, compute, access, opens, enter, branch, branch_if, invoke, call, call_reference, call_indirect, operate_control}
use Rattle.wasm_operator_validator_soundness.specs.runs.Machine.{throw_reference, caught_at, operate_exception, select, operate_parametric, set_local, operate_memory, operate_bulk, operate_atomic}
use Rattle.wasm_operator_validator_soundness.specs.runs.Machine.{object_under, make, read, write, cast, cast_top, cast_from, IsOf, number_from, null_in, convert, operate_gc, operate_vector, operate, end, execute}
use Rattle.wasm_operator_validator_soundness.specs.runs.Notes.{plainly}
use Rattle.wasm_operator_validator_soundness.specs.runs.ValidStates.{IsThrown}
use Rattle.wasm_operator_validator_soundness.specs.runs.Soundness.{IsValidProgram, evaluated}
use Rattle.wasm_operator_validator_soundness.specs.runs.Progress.{control_can_trap, numeric_can_trap, exception_can_trap, memory_can_trap, bulk_can_trap, gc_can_trap, atomic_can_trap, can_trap, code_can_trap, GlobalsHaveValues, AnswersExist, StatesAreAnswered, ConstantsAreAnswered}
use Rattle.wasm_operator_validator_soundness.proofs.RunsFitting.{fits_reversed}
use Rattle.wasm_operator_validator_soundness.proofs.RunsInvariant.{here}
use Rattle.wasm_operator_validator_soundness.proofs.Options.{as_function_is}
use Rattle.wasm_operator_validator_soundness.proofs.Thrown.{value_of, arguments_of}
use Rattle.wasm_operator_validator_soundness.proofs.Unshared.{internal_whole, external_whole}
use Rattle.wasm_operator_validator_soundness.proofs.Standing.{values_under, Here}
use Rattle.wasm_operator_validator_soundness.proofs.Throwing.{caught_there}
use Rattle.wasm_operator_validator_soundness.proofs.RunsSteps.{here_of, plain_valid, runs_stay_valid, starts_valid, constants_valid}

-- ---- answers

-- a trap, if there may be one; and no trap, with these values
abbrev pub trap : Answer
trap = record { values = []; held = ref_null false any; condition = false; index = 0; traps = true; throws = None; leaves = 0; made = 0 }

abbrev pub giving : List Value → Answer
giving vs = record { values = vs; held = ref_null false any; condition = false; index = 0; traps = false; throws = None; leaves = 0; made = 0 }

-- an exception with these values leaves so many labels
abbrev leaving : List Value → ℕ → Answer
leaving vs n = record { values = vs; held = ref_null false any; condition = false; index = 0; traps = false; throws = None; leaves = n; made = 0 }

-- ---- steps that are put together

abbrev pub NoTrap : Outcome → Type 0
NoTrap trapped = ⊥
NoTrap o = Unit {0}

pub no_trap : (o : Outcome) → NoTrap o → o ≡ trapped → ⊥
no_trap o n e = subst NoTrap e n

-- The answer is one, and the step traps only if it may. It is a record, so that the parts of a step can be found from its type.
pub record Goes (b : Bool) (m : Move) : Type 0 where
  pub is : m.is_answer
  pub ends : m.outcome ≡ trapped → IsTrue b

pub done_goes : (b : Bool) (o : Outcome) → NoTrap o → Goes b (done o)
done_goes b o n = record { is = tt; ends = λ e. absurd (no_trap o n e) }

trap_goes : Goes true (done trapped)
trap_goes = record { is = tt; ends = λ e. refl }

pub asks_goes : (b : Bool) (P : Type 0) (m : Move) → Goes b m → Goes b (asks P m)
asks_goes b P m k = record { is = k.is; ends = k.ends }

pub allows_goes : (b : Bool) (P : Type 0) (m : Move) → P → Goes b m → Goes b (allows P m)
allows_goes b P m x k = record { is = (x, k.is); ends = k.ends }

pub choose_goes : (b c : Bool) (m n : Move) → (c ≡ true → Goes b m) → (c ≡ false → Goes b n) → Goes b (choose c m n)
choose_goes b true m n k l = k refl
choose_goes b false m n k l = l refl

pub found_goes : {A : Type 0} (b : Bool) (o : Option A) (f : A → Move) → ((x : A) → o ≡ Some x → Goes b (f x)) → Goes b (found o f)
found_goes b None f k = done_goes b stuck tt
found_goes b (Some x) f k = k x refl

pub pops_goes : (b : Bool) (vs : List Value) (f : Value → List Value → Move) → ((v : Value) (ws : List Value) → Goes b (f v ws)) → Goes b (pops vs f)
pops_goes b [] f k = done_goes b stuck tt
pops_goes b (v ∷ vs) f k = k v vs

module _ (p : Program) (a : Answer) where
  pub takes_goes : (b : Bool) (ts : List ValueType) (vs : List Value) (f : List Value → List Value → Move) → ((us ws : List Value) → Goes b (f us ws)) → Goes b (takes p a ts vs f)
  takes_goes b ts vs f k = asks_goes b (AllFit p (take (length ts) vs) (stack ts)) _ (k (take (length ts) vs) (drop (length ts) vs))

  -- ---- leaving labels and activations

  pub back_goes : (b : Bool) (owed : List ValueType) (vs : List Value) (acts : List Activation) → Goes b (hand_back p a owed vs acts)
  back_goes b owed vs [] = asks_goes b (AllFit p vs (stack owed)) (done (returned vs)) (done_goes b (returned vs) tt)
  back_goes b owed vs (c ∷ cs) =
      asks_goes b (AllFit p vs (stack owed)) _ (done_goes b (next (record c { innermost = record c.innermost { values = vs ++ c.innermost.values } } ∷ cs)) tt)

  pub out_goes : (b : Bool) (act : Activation) (ls : List Label) (vs : List Value) (acts : List Activation) → Goes b (come_out p a act ls vs acts)
  out_goes b act [] vs acts = back_goes b act.owed vs acts
  out_goes b act (l ∷ ls) vs acts = done_goes b (next (record act { innermost = record l { values = vs ++ l.values }; around = ls } ∷ acts)) tt

  land_goes : (b : Bool) (c : Continuation) (act : Activation) (l : Label) (ls : List Label) (vs : List Value) (acts : List Activation) → Goes b (land p a c act l ls vs acts)
  land_goes b behind act l ls vs acts = out_goes b act ls vs acts
  land_goes b (again body) act l ls vs acts = record { is = tt; ends = λ e. absurd (no_trap _ tt e) }

  pub jump_goes : (b : Bool) (n : ℕ) (act : Activation) (ls : List Label) (vs : List Value) (acts : List Activation) → Goes b (jump p a n act ls vs acts)
  jump_goes b n act [] vs acts = done_goes b stuck tt
  jump_goes b zero act (l ∷ ls) vs acts = land_goes b l.continuation act l ls vs acts
  jump_goes b (suc n) act (l ∷ ls) vs acts = jump_goes b n act ls vs acts

-- ---- an exception that no clause catches

abbrev past : List Label → ℕ → ℕ
past [] n = n
past (l ∷ ls) n = suc (past ls n)

abbrev past_all : List Activation → ℕ
past_all [] = 0
past_all (act ∷ acts) = past (act.innermost ∷ act.around) (past_all acts)

module _ (p : Program) (a : Answer) (t : TypeTree) (vs : List Value) where
  leaves_goes : (act : Activation) (ls : List Label) (n : ℕ) (acts : List Activation) (further : ℕ → Move) → Goes false (further n)
      → Goes false (leave_labels p a t vs act ls (past ls n) acts further)
  leaves_goes act [] n acts further k = k
  leaves_goes act (l ∷ ls) n acts further k = leaves_goes act ls n acts further k

  unwind_goes : (acts : List Activation) → Goes false (unwind p a t vs acts (past_all acts))
  unwind_goes [] = done_goes false (thrown t vs) tt
  unwind_goes (act ∷ acts) = leaves_goes act (act.innermost ∷ act.around) (past_all acts) acts (unwind p a t vs acts) (unwind_goes acts)

-- one whose tag has values for its parameters, thrown again
again_goes : (p : Program) (t : TypeTree) (acts : List Activation) → IsThrown t → (a : Answer) × Goes false (throw_again p a t acts)
again_goes p t acts h = with_signature (function_type t) refl
  where
    with_signature : (o : Option Signature) → function_type t ≡ o → (a : Answer) × Goes false (throw_again p a t acts)
    with_signature None e = (trap, subst (λ (o : Option Signature). Goes false (found o (λ b. gives p trap b.params (λ us. unwind p trap t us acts 0)))) (sym e) (done_goes false stuck tt))
    with_signature (Some b) e =
        let vs = arguments_of p t h b (as_function_is (expanded t) b e) in
        let a : Answer = leaving vs.0 (past_all acts) in (
          a,
          subst (λ (o : Option Signature). Goes false (found o (λ c. gives p a c.params (λ us. unwind p a t us acts (past_all acts))))) (sym e)
              (allows_goes false (AllFit p vs.0 (stack b.params)) _ vs.1 (unwind_goes p a t vs.0 acts)),
        )

-- ---- numbers

abbrev pub zero_each : List Number → List Value
zero_each [] = []
zero_each (n ∷ ns) = number_value n 0 ∷ zero_each ns

-- the last on top
abbrev pub zeros : List Number → List Value
zeros ns = reverse (zero_each ns)

zero_each_fits : (p : Program) (ns : List Number) → AllFit p (zero_each ns) (all_known (numbers ns))
zero_each_fits p [] = tt
zero_each_fits p (n ∷ ns) = ((tt, refl), zero_each_fits p ns)

pub zeros_fit : (p : Program) (ns : List Number) → AllFit p (zeros ns) (stack (numbers ns))
zeros_fit p ns = fits_reversed p (zero_each ns) (all_known (numbers ns)) (zero_each_fits p ns)

abbrev pub zero_for : Bool → Value
zero_for true = number_value i64 0
zero_for false = number_value i32 0

pub zero_fits : (p : Program) (b : Bool) → AllFit p (zero_for b ∷ []) (stack (address b ∷ []))
zero_fits p true = ((tt, refl), tt)
zero_fits p false = ((tt, refl), tt)

module _ (p : Program) (act : Activation) (acts : List Activation) where
  -- ---- what goes and comes

  pub goes_on : (b : Bool) (a : Answer) (ws : List Value) (more : Code) → Goes b (goes p a act acts ws more)
  goes_on b a ws more = record { is = tt; ends = λ e. absurd (no_trap _ tt e) }

  exchange_traps : (ts us : List ValueType) (more : Code) → Goes true (exchange p trap act acts ts us more)
  exchange_traps ts us more = takes_goes p trap true ts act.innermost.values _ (λ xs ws. trap_goes)

  pub exchange_gives : (b : Bool) (vs : List Value) (ts us : List ValueType) (more : Code) → AllFit p vs (stack us) → Goes b (exchange p (giving vs) act acts ts us more)
  exchange_gives b vs ts us more f =
      takes_goes p (giving vs) b ts act.innermost.values _ (λ xs ws. allows_goes b (AllFit p vs (stack us)) _ f (goes_on b (giving vs) (vs ++ ws) more))

  abbrev Answered : Bool → (Answer → Move) → Type 0
  Answered b f = (a : Answer) × Goes b (f a)

  -- a step on numbers that are given by a name
  compute_answered : (b : Bool) (o : Op) (more : Code) → Answered b (λ a. compute p a act acts o more)
  compute_answered b o more = by_name (computed (info_of o).name)
    where
      by_name : (c : Option Places) → Answered b (λ a. found c (λ n. exchange p a act acts (numbers n.takes) (numbers n.gives) more))
      by_name None = (trap, done_goes b stuck tt)
      by_name (Some n) = (giving (zeros n.gives), exchange_gives b (zeros n.gives) (numbers n.takes) (numbers n.gives) more (zeros_fit p n.gives))

  pub access_traps : (o : Op) (more : Code) → Goes true (access p trap act acts o more)
  access_traps o more = found_goes true (argument_of (immediates_of o)) _ (λ i e.
      found_goes true (slice_get p.«module».memories i.memory) _ (λ t f. found_goes true (accessed (info_of o).name) _ (λ n g. exchange_traps (address t.memory64 ∷ numbers n.takes) (numbers n.gives) more)))

  -- ---- blocks and branches

  opens_goes : (b : Bool) (a : Answer) (bt : BlockType) (c : Continuation) (h : Handlers) (body : Code) (ws : List Value) (more : Code) → Goes b (opens p a act acts bt c h body ws more)
  opens_goes b a bt c h body ws more = found_goes b (block_signature p.«module» bt) _ (λ s e.
      takes_goes p a b s.params ws _ (λ args us. done_goes b (next (within p a act acts s c h body args us more ∷ acts)) tt))

  pub enter_goes : (b : Bool) (a : Answer) (o : Op) (body more : Code) → Goes b (enter p a act acts o body more)
  enter_goes b a (op.Control (control.Block bt)) body more = opens_goes b a bt behind no_handlers body act.innermost.values more
  enter_goes b a (op.Control (control.Loop bt)) body more = opens_goes b a bt (again body) no_handlers body act.innermost.values more
  enter_goes b a (op.Control (control.If bt)) body more = pops_goes b act.innermost.values _ (λ c ws.
      asks_goes b (Fits p c i32_type) _ (opens_goes b a bt behind no_handlers (either_part a.condition body) ws more))
  enter_goes b a (op.Exception (op.Try bt)) body more = opens_goes b a bt behind (clauses body) body act.innermost.values more
  enter_goes b a (op.Exception (op.TryTable t)) body more = opens_goes b a t.ty behind (table t.catches) body act.innermost.values more
  enter_goes b a o body more = done_goes b stuck tt

  pub branch_goes : (b : Bool) (a : Answer) (n : ℕ) (ws : List Value) → Goes b (branch p a act acts n ws)
  branch_goes b a n ws = found_goes b (label_at p a act acts n) _ (λ ts e. takes_goes p a b ts ws _ (λ xs us. jump_goes p a b n act (act.innermost ∷ act.around) xs acts))

  branch_if_goes : (b : Bool) (a : Answer) (c : Bool) (n : ℕ) (ws us : List Value) (more : Code) → Goes b (branch_if p a act acts c n ws us more)
  branch_if_goes b a c n ws us more = found_goes b (label_at p a act acts n) _ (λ ts e. takes_goes p a b ts ws _ (λ xs rest.
      choose_goes b c _ _ (λ y. jump_goes p a b n act (act.innermost ∷ act.around) xs acts) (λ y. goes_on b a us more)))

  -- a block's instructions, or a part of them, end
  pub end_goes : (a : Answer) → Goes false (end p a act acts)
  end_goes a = asks_goes false (AllFit p act.innermost.values (stack act.innermost.block.results)) _ (out_goes p a false act act.around act.innermost.values acts)

  -- ---- calls, which the host lets trap

  begins : (o : Option Body) (t : TypeTree) (s : Signature) (args : List Value) (owed : List ValueType) (above : List Activation) → Goes true (begin p trap o t s args owed above)
  begins None t s args owed above = trap_goes
  begins (Some f) t s args owed above = done_goes true (next (begun t s f args owed ∷ above)) tt

  invokes : (tail : Bool) (v : Value) (ws : List Value) (more : Code) → Goes true (invoke p trap act acts tail v ws more)
  invokes tail (ref_function i t) ws more = found_goes true (function_type t) _ (λ s e.
      takes_goes p trap true s.params ws _ (λ args us.
      begins (body_of (named p trap i)) t s args (if tail then act.owed else s.results) (if tail then acts else going p trap act acts us more ∷ acts)))
  invokes tail (ref_null c h) ws more = trap_goes
  invokes tail (number_value n b) ws more = done_goes true stuck tt
  invokes tail (ref_object k t) ws more = done_goes true stuck tt
  invokes tail (ref_i31 b) ws more = done_goes true stuck tt
  invokes tail (ref_host k) ws more = done_goes true stuck tt
  invokes tail (ref_extern k) ws more = done_goes true stuck tt
  invokes tail (ref_exn k t) ws more = done_goes true stuck tt

  pub calls : (tail : Bool) (x : ℕ) (more : Code) → Goes true (call p trap act acts tail x more)
  calls tail x more = found_goes true (slice_get p.functions x) _ (λ f e. invokes tail (ref_function (Some x) f.type) act.innermost.values more)

  pub calls_reference : (tail : Bool) (x : ℕ) (more : Code) → Goes true (call_reference p trap act acts tail x more)
  calls_reference tail x more = found_goes true (slice_get p.«module».types x) _ (λ t e.
      pops_goes true act.innermost.values _ (λ v ws. asks_goes true (Fits p v (ref true (concrete t))) _ (invokes tail v ws more)))

  calls_indirect : (tail : Bool) (y x : ℕ) (more : Code) → Goes true (call_indirect p trap act acts tail y x more)
  calls_indirect tail y x more = found_goes true (slice_get p.«module».tables x) _ (λ t e.
      found_goes true (slice_get p.«module».types y) _ (λ u f. takes_goes p trap true (address t.table64 ∷ []) act.innermost.values _ (λ c ws. trap_goes)))

  -- control operators that never trap, under any answer
  pub control_any : (a : Answer) (o : ControlOperator) (more : Code) → control_can_trap o ≡ false → Goes false (operate_control p a act acts o more)
  control_any a control.Nop more c = goes_on false a act.innermost.values more
  control_any a (control.Br n) more c = branch_goes false a n act.innermost.values
  control_any a (control.BrIf n) more c = pops_goes false act.innermost.values _ (λ v ws. asks_goes false (Fits p v i32_type) _ (branch_if_goes false a a.condition n ws ws more))
  control_any a (control.BrTable t) more c = pops_goes false act.innermost.values _ (λ v ws.
      asks_goes false (Fits p v i32_type) _ (branch_goes false a (get_or t.targets a.index t.default) ws))
  control_any a control.Return more c = takes_goes p a false act.results act.innermost.values _ (λ us ws. back_goes p a false act.owed us acts)
  control_any a (control.BrOnNull n) more c = pops_goes false act.innermost.values _ (λ v ws.
      asks_goes false (IsAReference v) _ (branch_if_goes false a (is_null v) n ws (v ∷ ws) more))
  control_any a (control.BrOnNonNull n) more c = pops_goes false act.innermost.values _ (λ v ws.
      asks_goes false (IsAReference v) _ (choose_goes false (is_null v) _ _ (λ e. goes_on false a ws more) (λ e. branch_goes false a n (v ∷ ws))))
  control_any a control.Unreachable more c = absurd (true≢false c)
  control_any a (control.Call x) more c = absurd (true≢false c)
  control_any a (control.ReturnCall x) more c = absurd (true≢false c)
  control_any a (control.CallIndirect y x) more c = absurd (true≢false c)
  control_any a (control.ReturnCallIndirect y x) more c = absurd (true≢false c)
  control_any a (control.CallRef x) more c = absurd (true≢false c)
  control_any a (control.ReturnCallRef x) more c = absurd (true≢false c)
  control_any a control.RefAsNonNull more c = absurd (true≢false c)
  control_any a o more c = done_goes false stuck tt

  control_goes : (o : ControlOperator) (more : Code) → Goes (control_can_trap o) (operate_control p trap act acts o more)
  control_goes control.Unreachable more = trap_goes
  control_goes (control.Call x) more = calls false x more
  control_goes (control.ReturnCall x) more = calls true x more
  control_goes (control.CallIndirect y x) more = calls_indirect false y x more
  control_goes (control.ReturnCallIndirect y x) more = calls_indirect true y x more
  control_goes (control.CallRef x) more = calls_reference false x more
  control_goes (control.ReturnCallRef x) more = calls_reference true x more
  control_goes control.RefAsNonNull more = pops_goes true act.innermost.values _ (λ v ws.
      asks_goes true (IsAReference v) _ (choose_goes true (is_null v) _ _ (λ e. trap_goes) (λ e. goes_on true trap (v ∷ ws) more)))
  control_goes o more = control_any trap o more refl

  -- ---- parametric instructions, locals and globals

  select_goes : (b : Bool) (a : Answer) (t : ValueType) (more : Code) → Goes b (select p a act acts t more)
  select_goes b a t more = pops_goes b act.innermost.values _ (λ c ws. asks_goes b (Fits p c i32_type) _
      (pops_goes b ws _ (λ w us. pops_goes b us _ (λ v rest. asks_goes b (Fits p v t × Fits p w t) _ (goes_on b a ((if a.condition then v else w) ∷ rest) more)))))

  pub parametric_goes : (a : Answer) (o : ParametricTree) (more : Code) → Goes false (operate_parametric p a act acts o more)
  parametric_goes a op.Drop more = pops_goes false act.innermost.values _ (λ v ws. goes_on false a ws more)
  parametric_goes a op.Select more = pops_goes false act.innermost.values _ (λ c ws. pops_goes false ws _ (λ w us.
      asks_goes false (IsNumberValue w) _ (select_goes false a (least_type w) more)))
  parametric_goes a (op.TypedSelect t) more = found_goes false (meant p.«module» t) _ (λ u e. select_goes false a u more)
  parametric_goes a o more = done_goes false stuck tt

  pub set_goes : (b : Bool) (a : Answer) (x : ℕ) (v : Value) (ws : List Value) (more : Code) → Goes b (set_local p a act acts x v ws more)
  set_goes b a x v ws more = found_goes b (slice_get act.types x) _ (λ t e. asks_goes b (Fits p v t) _
      (done_goes b (next (record (going p a act acts ws more) { locals = slice_set act.locals x (Some v) } ∷ acts)) tt))

  memory_answered : GlobalsHaveValues p → (o : MemoryOperator) (more : Code) → Answered (memory_can_trap o) (λ a. operate_memory p a act acts o more)
  memory_answered g (memory.LocalGet x) more = (trap, found_goes false (slice_get act.locals x) _ (λ o e. found_goes false o _ (λ v f. goes_on false trap (v ∷ act.innermost.values) more)))
  memory_answered g (memory.LocalSet x) more = (trap, pops_goes false act.innermost.values _ (λ v ws. set_goes false trap x v ws more))
  memory_answered g (memory.LocalTee x) more = (trap, pops_goes false act.innermost.values _ (λ v ws. set_goes false trap x v (v ∷ ws) more))
  memory_answered g (memory.GlobalGet x) more = global (slice_get p.«module».globals x) refl
    where
      global : (o : Option Global) → slice_get p.«module».globals x ≡ o → Answered false (λ a. found o (λ t. exchange p a act acts [] (t.content ∷ []) more))
      global None e = (trap, done_goes false stuck tt)
      global (Some t) e = let v = value_of p t.content (g x t e) in (giving (v.0 ∷ []), exchange_gives false (v.0 ∷ []) [] (t.content ∷ []) more (v.1, tt))
  memory_answered g (memory.GlobalSet x) more = (giving [], found_goes false (slice_get p.«module».globals x) _ (λ t e. asks_goes false (IsTrue t.mutable) _ (exchange_gives false [] (t.content ∷ []) [] more tt)))
  memory_answered g (memory.MemorySize x) more = sized (slice_get p.«module».memories x)
    where
      sized : (o : Option MemoryType) → Answered false (λ a. found o (λ t. exchange p a act acts [] (address t.memory64 ∷ []) more))
      sized None = (trap, done_goes false stuck tt)
      sized (Some t) = (giving (zero_for t.memory64 ∷ []), exchange_gives false (zero_for t.memory64 ∷ []) [] (address t.memory64 ∷ []) more (zero_fits p t.memory64))
  memory_answered g (memory.MemoryGrow x) more = grown (slice_get p.«module».memories x)
    where
      grown : (o : Option MemoryType) → Answered false (λ a. found o (λ t. exchange p a act acts (address t.memory64 ∷ []) (address t.memory64 ∷ []) more))
      grown None = (trap, done_goes false stuck tt)
      grown (Some t) = (giving (zero_for t.memory64 ∷ []), exchange_gives false (zero_for t.memory64 ∷ []) (address t.memory64 ∷ []) (address t.memory64 ∷ []) more (zero_fits p t.memory64))
  memory_answered g o more = (trap, access_traps (op.Memory o) more)

  -- ---- references, tables and memories

  bulk_answered : (o : BulkOperator) (more : Code) → Answered (bulk_can_trap o) (λ a. operate_bulk p a act acts o more)
  bulk_answered (bulk.RefNull h) more = (trap, found_goes false (meant_heap p.«module» h) _ (λ k e. goes_on false trap (null_of k ∷ act.innermost.values) more))
  bulk_answered bulk.RefIsNull more = (trap, pops_goes false act.innermost.values _ (λ v ws. asks_goes false (IsAReference v) _ (goes_on false trap (number_value i32 0 ∷ ws) more)))
  bulk_answered (bulk.RefFunc x) more = (trap, found_goes false (slice_get p.functions x) _ (λ f e. goes_on false trap (ref_function (Some x) f.type ∷ act.innermost.values) more))
  bulk_answered (bulk.TableSize x) more = sized (slice_get p.«module».tables x)
    where
      sized : (o : Option Table) → Answered false (λ a. found o (λ t. exchange p a act acts [] (address t.table64 ∷ []) more))
      sized None = (trap, done_goes false stuck tt)
      sized (Some t) = (giving (zero_for t.table64 ∷ []), exchange_gives false (zero_for t.table64 ∷ []) [] (address t.table64 ∷ []) more (zero_fits p t.table64))
  bulk_answered (bulk.TableGrow x) more = grown (slice_get p.«module».tables x)
    where
      grown : (o : Option Table) → Answered false (λ a. found o (λ t. exchange p a act acts (t.element ∷ address t.table64 ∷ []) (address t.table64 ∷ []) more))
      grown None = (trap, done_goes false stuck tt)
      grown (Some t) = (giving (zero_for t.table64 ∷ []), exchange_gives false (zero_for t.table64 ∷ []) (t.element ∷ address t.table64 ∷ []) (address t.table64 ∷ []) more (zero_fits p t.table64))
  bulk_answered (bulk.ElemDrop e) more = (trap, found_goes false (slice_get p.«module».elements e) _ (λ s f. goes_on false trap act.innermost.values more))
  bulk_answered (bulk.DataDrop d) more = (trap, asks_goes false (IsData p.«module».data_count d) _ (goes_on false trap act.innermost.values more))
  bulk_answered (bulk.TableInit e x) more = (
    trap,
    found_goes true (slice_get p.«module».elements e) _ (λ s f. found_goes true (slice_get p.«module».tables x) _ (λ t g.
        takes_goes p trap true (address t.table64 ∷ i32_type ∷ i32_type ∷ []) act.innermost.values _ (λ us ws. trap_goes))),
  )
  bulk_answered (bulk.TableCopy x y) more = (
    trap,
    found_goes true (slice_get p.«module».tables x) _ (λ t f. found_goes true (slice_get p.«module».tables y) _ (λ s g.
        takes_goes p trap true (address t.table64 ∷ address s.table64 ∷ address (t.table64 && s.table64) ∷ []) act.innermost.values _ (λ us ws. trap_goes))),
  )
  bulk_answered (bulk.TableGet x) more = (trap, found_goes true (slice_get p.«module».tables x) _ (λ t e. exchange_traps (address t.table64 ∷ []) (t.element ∷ []) more))
  bulk_answered (bulk.TableSet x) more = (trap, found_goes true (slice_get p.«module».tables x) _ (λ t e. exchange_traps (address t.table64 ∷ t.element ∷ []) [] more))
  bulk_answered (bulk.TableFill x) more = (trap, found_goes true (slice_get p.«module».tables x) _ (λ t e. exchange_traps (address t.table64 ∷ t.element ∷ address t.table64 ∷ []) [] more))
  bulk_answered (bulk.MemoryInit d x) more = (
    trap,
    found_goes true (slice_get p.«module».memories x) _ (λ t e.
        asks_goes true (IsData p.«module».data_count d) _ (exchange_traps (address t.memory64 ∷ i32_type ∷ i32_type ∷ []) [] more)),
  )
  bulk_answered (bulk.MemoryCopy x y) more = (
    trap,
    found_goes true (slice_get p.«module».memories x) _ (λ t e. found_goes true (slice_get p.«module».memories y) _ (λ s f.
        exchange_traps (address t.memory64 ∷ address s.memory64 ∷ address (t.memory64 && s.memory64) ∷ []) [] more)),
  )
  bulk_answered (bulk.MemoryFill x) more = (trap, found_goes true (slice_get p.«module».memories x) _ (λ t e. exchange_traps (address t.memory64 ∷ i32_type ∷ address t.memory64 ∷ []) [] more))
  bulk_answered (bulk.MemoryDiscard x) more = (trap, found_goes true (slice_get p.«module».memories x) _ (λ t e. exchange_traps (address t.memory64 ∷ address t.memory64 ∷ []) [] more))

  -- ---- objects and casts

  -- an object under numbers, which may be null or too short
  under_traps : (of : InnerOf TypeTree → Option (List (FieldOf TypeTree))) (ns : List ValueType) (x : ℕ) (ws : List Value) (f : List (FieldOf TypeTree) → List Value → Move)
      → Goes true (object_under p trap act acts of ns x ws f)
  under_traps of ns x ws f = found_goes true (slice_get p.«module».types x) _ (λ t e. found_goes true (of (expanded t)) _ (λ own d.
      takes_goes p trap true (ref true (concrete t) ∷ ns) ws _ (λ us rest. trap_goes)))

  reads : (stored : StorageOf TypeTree → Type 0) (of : InnerOf TypeTree → Option (List (FieldOf TypeTree))) (ns : List ValueType) (x i : ℕ) (more : Code) → Goes true (read p trap act acts stored of ns x i more)
  reads stored of ns x i more = under_traps of ns x act.innermost.values
      (λ fs ws. found (slice_get fs i) (λ (f : FieldOf TypeTree). asks (stored f.storage) (gives p trap (operand_of f.storage ∷ []) (λ rs. goes p trap act acts (rs ++ ws) more))))

  written : (of : InnerOf TypeTree → Option (List (FieldOf TypeTree))) (ns : List ValueType) (x i : ℕ) (v : Value) (us : List Value) (more : Code) → Goes true (write p trap act acts of ns x i v us more)
  written of ns x i v us more = under_traps of ns x us
      (λ fs ws. found (slice_get fs i) (λ (f : FieldOf TypeTree). writes f (asks (Fits p v (operand_of f.storage)) (goes p trap act acts ws more))))

  makes : (b : Bool) (a : Answer) (of : InnerOf TypeTree → Option (List (FieldOf TypeTree))) (x : ℕ) (takes_for : List (FieldOf TypeTree) → List ValueType)
      (further : List (FieldOf TypeTree) → Move → Move) (more : Code) → ((fs : List (FieldOf TypeTree)) (m : Move) → Goes b m → Goes b (further fs m))
      → Goes b (make p a act acts of x takes_for further more)
  makes b a of x takes_for further more k = found_goes b (slice_get p.«module».types x) _ (λ t e. found_goes b (of (expanded t)) _ (λ fs d.
      takes_goes p a b (takes_for fs) act.innermost.values _ (λ us ws. k fs _ (goes_on b a (ref_object a.made t ∷ ws) more))))

  -- an answer by which a cast fails, except of null
  cast_goes : (b n : Bool) (k : HeapOf TypeTree) (v : Value) (f : Bool → Move) → ((c : Bool) → Goes b (f c)) → Goes b (cast p trap act acts n k v f)
  cast_goes b n k v f g = allows_goes b (IsTrue (false && not (is_null v)) → Fits p v (ref false k)) _ (λ e. absurd (true≢false (sym e))) (g (if is_null v then n else false))

  cast_top_goes : (b n : Bool) (h : HeapType) (f : Bool → Value → List Value → Move) → ((c : Bool) (v : Value) (ws : List Value) → Goes b (f c v ws)) → Goes b (cast_top p trap act acts n h f)
  cast_top_goes b n h f g = found_goes b (meant_heap p.«module» h) _ (λ k e. pops_goes b act.innermost.values _ (λ v ws.
      asks_goes b _ _ (cast_goes b n k v (λ c. f c v ws) (λ c. g c v ws))))

  cast_from_goes : (b : Bool) (from to : Reference) (f : Bool → Value → List Value → Move) → ((c : Bool) (v : Value) (ws : List Value) → Goes b (f c v ws)) → Goes b (cast_from p trap act acts from to f)
  cast_from_goes b from to f g = found_goes b (meant_heap p.«module» from.heap) _ (λ h d. found_goes b (meant_heap p.«module» to.heap) _ (λ k e.
      pops_goes b act.innermost.values _ (λ v ws. asks_goes b _ _ (cast_goes b to.nullable k v (λ c. f c v ws) (λ c. g c v ws)))))

  number_traps : (h : Abstract) (is : Value → Type 0) (more : Code) → Goes true (number_from p trap act acts h is more)
  number_traps h is more = pops_goes true act.innermost.values _ (λ v ws. asks_goes true (IsOf p trap act acts h v × is v) _ trap_goes)

  -- what a conversion gives for what is not null
  convert_goes : (h k : Abstract) (u : Value) (more : Code)
      → ((v : Value) (s : Bool) → is_null v ≡ false → Fits p v (ref true (abstract s h)) → AllFit p (u ∷ []) (known (ref false (abstract s k)) ∷ []))
      → Goes false (convert p (giving (u ∷ [])) act acts h k more)
  convert_goes h k u more fit = let a : Answer = giving (u ∷ []) in
      pops_goes false act.innermost.values _ (λ v ws. asks_goes false (IsOf p a act acts h v) _
      (choose_goes false (is_null v) _ _ (λ e. goes_on false a (null_in p a act acts k v ∷ ws) more)
      (λ e. allows_goes false ((s : Bool) → Fits p v (ref true (abstract s h)) → AllFit p (u ∷ []) (known (ref false (abstract s k)) ∷ [])) _ (λ s f. fit v s e f)
      (goes_on false a (u ∷ ws) more))))

  pub gc_answered : (o : GcOperator) (more : Code) → Answered (gc_can_trap o) (λ a. operate_gc p a act acts o more)
  gc_answered gc.RefEq more = (trap, pops_goes false act.innermost.values _ (λ v ws. pops_goes false ws _ (λ w us. asks_goes false _ _ (goes_on false trap (number_value i32 0 ∷ us) more))))
  gc_answered (gc.StructNew x) more = (trap, makes false trap struct_fields x operands_of (λ fs m. m) more (λ fs m k. k))
  gc_answered (gc.StructNewDefault x) more = (trap, makes false trap struct_fields x (λ fs. []) (λ fs m. asks (HaveDefaults fs) m) more (λ fs m k. asks_goes false (HaveDefaults fs) m k))
  gc_answered (gc.StructGet x i) more = (trap, reads IsWhole struct_fields [] x i more)
  gc_answered (gc.StructGetS x i) more = (trap, reads IsPacked struct_fields [] x i more)
  gc_answered (gc.StructGetU x i) more = (trap, reads IsPacked struct_fields [] x i more)
  gc_answered (gc.StructSet x i) more = (trap, pops_goes true act.innermost.values _ (λ v ws. written struct_fields [] x i v ws more))
  gc_answered (gc.ArrayNew x) more = (trap, makes false trap array_fields x (λ fs. operands_of fs ++ i32_type ∷ []) (λ fs m. m) more (λ fs m k. k))
  gc_answered (gc.ArrayNewDefault x) more = (trap, makes false trap array_fields x (λ fs. i32_type ∷ []) (λ fs m. asks (HaveDefaults fs) m) more (λ fs m k. asks_goes false (HaveDefaults fs) m k))
  gc_answered (gc.ArrayNewFixed x n) more = (trap, makes false trap array_fields x (λ fs. flat_map (λ (u : ValueType). replicate n u) (operands_of fs)) (λ fs m. m) more (λ fs m k. k))
  gc_answered (gc.ArrayNewData x d) more = (
    trap,
    makes true trap array_fields x (λ fs. i32_type ∷ i32_type ∷ []) (λ fs m. asks (FromData p trap act acts d fs) (may_trap p trap m)) more
        (λ fs m k. asks_goes true (FromData p trap act acts d fs) _ trap_goes),
  )
  gc_answered (gc.ArrayNewElem x e) more = (trap, makes true trap array_fields x (λ fs. i32_type ∷ i32_type ∷ []) (λ fs m. may_trap p trap (stores_from p trap act acts e fs (λ f n. n) m)) more (λ fs m k. trap_goes))
  gc_answered (gc.ArrayGet x) more = (trap, reads IsWhole array_fields (i32_type ∷ []) x 0 more)
  gc_answered (gc.ArrayGetS x) more = (trap, reads IsPacked array_fields (i32_type ∷ []) x 0 more)
  gc_answered (gc.ArrayGetU x) more = (trap, reads IsPacked array_fields (i32_type ∷ []) x 0 more)
  gc_answered (gc.ArraySet x) more = (trap, pops_goes true act.innermost.values _ (λ v ws. written array_fields (i32_type ∷ []) x 0 v ws more))
  gc_answered gc.ArrayLen more = (trap, number_traps array IsArray more)
  gc_answered (gc.ArrayFill x) more = (trap, pops_goes true act.innermost.values _ (λ n ws. asks_goes true (Fits p n i32_type) _ (pops_goes true ws _ (λ v us. written array_fields (i32_type ∷ []) x 0 v us more))))
  gc_answered (gc.ArrayCopy x y) more = (
    trap,
    under_traps array_fields (i32_type ∷ i32_type ∷ []) y act.innermost.values (λ ss ws. object_under p trap act acts array_fields (i32_type ∷ []) x ws (λ fs us.
        found (slice_get ss 0) (λ (s : FieldOf TypeTree). found (slice_get fs 0) (λ (f : FieldOf TypeTree). writes f (asks (AreStoredAlike s.storage f.storage)
        (copies p trap (operand_of s.storage) (operand_of f.storage) (goes p trap act acts us more))))))),
  )
  gc_answered (gc.ArrayInitData x d) more = (
    trap,
    under_traps array_fields (i32_type ∷ i32_type ∷ i32_type ∷ []) x act.innermost.values
        (λ fs ws. found (slice_get fs 0) (λ (f : FieldOf TypeTree). writes f (asks (FromData p trap act acts d fs) (goes p trap act acts ws more)))),
  )
  gc_answered (gc.ArrayInitElem x e) more = (
    trap,
    under_traps array_fields (i32_type ∷ i32_type ∷ i32_type ∷ []) x act.innermost.values
        (λ fs ws. stores_from p trap act acts e fs writes (goes p trap act acts ws more)),
  )
  gc_answered (gc.RefTestNonNull h) more = (trap, cast_top_goes false false h _ (λ c v ws. goes_on false trap (number_value i32 0 ∷ ws) more))
  gc_answered (gc.RefTestNullable h) more = (trap, cast_top_goes false true h _ (λ c v ws. goes_on false trap (number_value i32 0 ∷ ws) more))
  gc_answered (gc.RefCastNonNull h) more = (trap, cast_top_goes true false h _ (λ c v ws. choose_goes true c _ _ (λ e. goes_on true trap (v ∷ ws) more) (λ e. trap_goes)))
  gc_answered (gc.RefCastNullable h) more = (trap, cast_top_goes true true h _ (λ c v ws. choose_goes true c _ _ (λ e. goes_on true trap (v ∷ ws) more) (λ e. trap_goes)))
  gc_answered (gc.BrOnCast n from to) more = (
    trap,
    cast_from_goes false from to _ (λ c v ws.
        choose_goes false c _ _ (λ e. branch_goes false trap n (v ∷ ws)) (λ e. goes_on false trap (v ∷ ws) more)),
  )
  gc_answered (gc.BrOnCastFail n from to) more = (
    trap,
    cast_from_goes false from to _ (λ c v ws.
        choose_goes false c _ _ (λ e. goes_on false trap (v ∷ ws) more) (λ e. branch_goes false trap n (v ∷ ws))),
  )
  gc_answered gc.AnyConvertExtern more = (giving (ref_host 0 ∷ []), convert_goes extern any (ref_host 0) more (λ v s e f. ((tt, (tt, (external_whole p v s e f, same))), tt)))
  gc_answered gc.ExternConvertAny more = (giving (ref_extern 0 ∷ []), convert_goes any extern (ref_extern 0) more (λ v s e f. ((tt, (tt, (internal_whole p v s e f, same))), tt)))
  gc_answered gc.RefI31 more = (giving (ref_i31 0 ∷ []), exchange_gives false (ref_i31 0 ∷ []) (i32_type ∷ []) (ref false (abstract false i31) ∷ []) more ((tt, (tt, (refl, same))), tt))
  gc_answered gc.I31GetS more = (trap, number_traps i31 IsUnboxed more)
  gc_answered gc.I31GetU more = (trap, number_traps i31 IsUnboxed more)

  -- ---- vectors and atomic accesses

  vector_answered : (i : Option MemArg) (o : Op) (more : Code) → Answered (is_some i) (λ a. operate_vector p a act acts i o more)
  vector_answered None o more = compute_answered false o more
  vector_answered (Some i) o more = (trap, access_traps o more)

  atomic_answered : (o : AtomicOperator) (more : Code) → Answered (atomic_can_trap o) (λ a. operate_atomic p a act acts o more)
  atomic_answered atomic.AtomicFence more = (trap, goes_on false trap act.innermost.values more)
  atomic_answered o more = (trap, access_traps (op.Atomic o) more)

  -- ---- exceptions

  -- what a label caught does not depend on the answer
  pub caught_whatever : (a c : Answer) (n : ℕ) (ls : List Label) → caught_at p a act acts n ls ≡ caught_at p c act acts n ls
  caught_whatever a c n [] = refl
  caught_whatever a c zero (l ∷ ls) = refl
  caught_whatever a c (suc n) (l ∷ ls) = caught_whatever a c n ls

  reference_answered : (v : Value) → Fits p v (exception true) → Answered true (λ a. throw_reference p a act acts v)
  reference_answered (ref_exn k t) f = let r = again_goes p t (act ∷ acts) f.0 in (r.0, record { is = r.1.is; ends = λ e. refl })
  reference_answered (ref_null c h) f = (trap, trap_goes)
  reference_answered (number_value n b) f = (trap, done_goes true stuck tt)
  reference_answered (ref_function i t) f = (trap, done_goes true stuck tt)
  reference_answered (ref_object k t) f = (trap, done_goes true stuck tt)
  reference_answered (ref_i31 b) f = (trap, done_goes true stuck tt)
  reference_answered (ref_host k) f = (trap, done_goes true stuck tt)
  reference_answered (ref_extern k) f = (trap, done_goes true stuck tt)

  thrown_answered : (vs : List Value) (rest : List Operand) → AllFit p vs (known (exception true) ∷ rest)
      → Answered true (λ a. pops vs (λ v ws. asks (Fits p v (exception true)) (throw_reference p a act acts v)))
  thrown_answered [] rest f = absurd f
  thrown_answered (v ∷ vs) rest f = let r = reference_answered v f.0 in (r.0, asks_goes true (Fits p v (exception true)) _ r.1)

module _ (p : Program) (valid : IsValidProgram p) (globals : GlobalsHaveValues p) (final : List ValueType) (act : Activation) (acts : List Activation) (h : Here plainly p final act acts) where
  rethrow_answered : (n : ℕ) → slice_get (is_clause act.innermost ∷ map is_clause act.around) n ≡ Some true → Answered p act acts false (λ a. operate_exception p a act acts (op.Rethrow n))
  rethrow_answered n r =
      let ls = act.innermost ∷ act.around in
      let c = caught_there plainly p (plain_valid p valid) final trap act acts h n act.innermost act.around (stack act.innermost.block.results) (Some h.root) h.caught h.around r in
      let k = again_goes p c.0.type (act ∷ acts) c.2 in
      (k.0, subst (λ (o : Option Exception). Goes false (found o (λ e. throw_again p k.0 e.type (act ∷ acts)))) (sym (caught_whatever p act acts k.0 trap n ls ∙ c.1)) k.1)

  exception_answered : (o : ExceptionTree) (popped pushed rest : List Operand) → ExceptionRow (here p trap act acts) o popped pushed → AllBelow h.operands (reverse popped ++ rest)
      → Answered p act acts (exception_can_trap o) (λ a. operate_exception p a act acts o)
  exception_answered (op.Throw x) popped pushed rest r b = let a : Answer = leaving [] (past_all (act ∷ acts)) in (
    a,
    found_goes false (slice_get p.«module».tags x) _ (λ t e. found_goes false (function_type t) _ (λ s f.
        takes_goes p a false s.params act.innermost.values _ (λ us ws. unwind_goes p a t us (act ∷ acts)))),
  )
  exception_answered op.ThrowRef popped pushed rest r b =
      thrown_answered p act acts act.innermost.values (reverse r.0 ++ rest) (values_under plainly p (plain_valid p valid) final trap act acts h r.0 (exception true ∷ []) popped rest b r.1)
  exception_answered (op.Rethrow n) popped pushed rest r b = rethrow_answered n r
  exception_answered o popped pushed rest r b = absurd r

  operate_answered : (o : Op) (more : Code) (popped pushed rest : List Operand) → GroupRow (here p trap act acts) h.set o popped pushed → AllBelow h.operands (reverse popped ++ rest)
      → Answered p act acts (can_trap o) (λ a. operate p a act acts o more)
  operate_answered (op.Control o) more popped pushed rest r b = (trap, control_goes p act acts o more)
  operate_answered (op.Parametric o) more popped pushed rest r b = (trap, parametric_goes p act acts trap o more)
  operate_answered (op.Exception o) more popped pushed rest r b = exception_answered o popped pushed rest r b
  operate_answered (op.Memory o) more popped pushed rest r b = memory_answered p act acts globals o more
  operate_answered (op.Bulk o) more popped pushed rest r b = bulk_answered p act acts o more
  operate_answered (op.Gc o) more popped pushed rest r b = gc_answered p act acts o more
  operate_answered (op.Const o) more popped pushed rest r b = compute_answered p act acts false (op.Const o) more
  operate_answered (op.Numeric o) more popped pushed rest r b = compute_answered p act acts (numeric_can_trap o) (op.Numeric o) more
  operate_answered (op.Simd o) more popped pushed rest r b = vector_answered p act acts (argument_of (immediates_of (op.Simd o))) (op.Simd o) more
  operate_answered (op.SimdNumeric o) more popped pushed rest r b = compute_answered p act acts false (op.SimdNumeric o) more
  operate_answered (op.Atomic o) more popped pushed rest r b = atomic_answered p act acts o more
  operate_answered o more popped pushed rest r b = (trap, done_goes false stuck tt)

  execute_answered : (c : Code) → Typed (here p trap act acts) (record { kind = h.kind; block = act.innermost.block; before = h.before }) h.set c h.operands
      → Answered p act acts (code_can_trap c) (λ a. execute p a act acts c)
  execute_answered (close (op.Exception (op.Delegate n))) t = (trap, found_goes false (label_at p trap act acts (suc n)) _ (λ ts e. end_goes p act acts trap))
  execute_answered (close o) t = (trap, end_goes p act acts trap)
  execute_answered (plain o more) t = operate_answered o more t.1.0 t.1.1 t.1.2 t.1.3.1 t.1.4
  execute_answered (nested o body more) t = (trap, enter_goes p act acts false trap o body more)
  execute_answered (turn o more) t = (trap, end_goes p act acts trap)

pub states_answered : StatesAreAnswered
states_answered p final [] v g w = absurd w
states_answered p final (act ∷ acts) v g w =
    let r = execute_answered p v g final act acts (here_of plainly p final act acts w) act.innermost.code w.0.labels.0.typed in
    (r.0, r.1.is, r.1.ends)

pub answers_exist : AnswersExist
answers_exist p s results v g i answers t r = states_answered p results t v g (runs_stay_valid p results s answers t v (starts_valid p s results v i) r)

pub constants_answered : ConstantsAreAnswered
constants_answered p u c v g b answers t r = states_answered p (u ∷ []) t v g (runs_stay_valid p (u ∷ []) (evaluated u c) answers t v (constants_valid p u c v b) r)
