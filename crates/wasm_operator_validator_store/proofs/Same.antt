-- What a step comes to under two answers, as far as they agree in what the step reads.
use Rattle.std.proofs.Common.{◌≡◌, ℕ, zero, suc, Bool, true, false, IsTrue, List, [], ◌∷◌, ◌++◌, map, Option, Some, None, if◌then◌else◌, slice_get, refl, sym, ap, subst, ◌∙◌, true≢false}
use Rattle.wasm_types.specs.trees.Types.{i32, Abstract, StorageOf, FieldOf, HeapOf}
use Rattle.wasm_types.specs.trees.Trees.{TypeTree}
use Rattle.wasm_types.specs.trees.Below.{expanded}
use Rattle.wasm_types.specs.values.Reference.{Reference}
use Rattle.wasm_types.specs.values.declared.heap.HeapType.{HeapType}
use Rattle.wasm_operators_immediates.specs.declared.block.BlockType.{BlockType}
use Rattle.wasm_operators_immediates.specs.declared.handlers.Catch.{Catch}
use Rattle.wasm_operators_immediates.specs.declared.handlers.Catch.TheVariants as catch
use Rattle.wasm_operators_encoding.specs.expressions.Code.{Code}
use Rattle.wasm_operator_validator_rules.specs.Operands.{ValueType}
use Rattle.wasm_operator_validator_rules.specs.Context.{Signature}
use Rattle.wasm_operator_validator_soundness.specs.runs.Values.{Body, Function, Program, Value, number_value, ref_null, ref_function, ref_object, ref_exn, is_null, Fits}
use Rattle.wasm_operator_validator_soundness.specs.runs.States.{Continuation, behind, again, Handlers, no_handlers, table, clauses, Label, Activation, branch_type, Answer}
use Rattle.wasm_operator_validator_soundness.specs.runs.States.{next, trapped, Move, done, asks, choose, found, pops}
use Rattle.wasm_operator_validator_soundness.specs.runs.Machine.{Clause, Handing, operand_of, writes, function_type, body_of, block_signature, meant_heap, clause_at, gives, hand_back, come_out, land, jump, is_for, caught_by, hand_on, catch_by, turn_to, handle, leave_labels, unwind, throw_again, begin, label_at, goes, exchange, opens, branch, branch_if, invoke, call, object, object_under, read, write, make, cast_top, cast_from, number_from, null_in, convert, select}
use Rattle.wasm_operator_validator_store.specs.Stores.{Store}
use Rattle.wasm_operator_validator_store.specs.Determined.{is_own, is_own_at, calls_own}

-- they come to the same
abbrev pub Same : Move → Move → Type 0
Same m n = m.outcome ≡ n.outcome

-- ---- parts of a step

pub same_found : {A : Type 0} (o : Option A) (f g : A → Move) → ((x : A) → Same (f x) (g x)) → Same (found o f) (found o g)
same_found None f g h = refl
same_found (Some x) f g h = h x

pub same_pops : (vs : List Value) (f g : Value → List Value → Move) → ((v : Value) (ws : List Value) → Same (f v ws) (g v ws)) → Same (pops vs f) (pops vs g)
same_pops [] f g h = refl
same_pops (v ∷ vs) f g h = h v vs

pub same_choose : (c d : Bool) (m n k l : Move) → c ≡ d → Same m k → Same n l → Same (choose c m n) (choose d k l)
same_choose true true m n k l e f g = f
same_choose false false m n k l e f g = g
same_choose true false m n k l e f g = absurd (true≢false e)
same_choose false true m n k l e f g = absurd (true≢false (sym e))

-- a trap, or else
pub same_may : (c d : Bool) (m n : Move) → c ≡ d → (c ≡ false → Same m n) → Same (choose c (done trapped) m) (choose d (done trapped) n)
same_may true true m n e f = refl
same_may false false m n e f = f refl
same_may true false m n e f = absurd (true≢false e)
same_may false true m n e f = absurd (true≢false (sym e))

pub trapped_anyway : (c d : Bool) (m n : Move) → m.outcome ≡ trapped → n.outcome ≡ trapped → Same (choose c (done trapped) m) (choose d (done trapped) n)
trapped_anyway true true m n e f = refl
trapped_anyway true false m n e f = sym f
trapped_anyway false true m n e f = e
trapped_anyway false false m n e f = e ∙ sym f

module _ (p : Program) (a b : Answer) where
  -- ---- branches

  same_back : (owed : List ValueType) (vs : List Value) (acts : List Activation) → Same (hand_back p a owed vs acts) (hand_back p b owed vs acts)
  same_back owed vs [] = refl
  same_back owed vs (c ∷ cs) = refl

  pub same_out : (act : Activation) (ls : List Label) (vs : List Value) (acts : List Activation) → Same (come_out p a act ls vs acts) (come_out p b act ls vs acts)
  same_out act [] vs acts = same_back act.owed vs acts
  same_out act (l ∷ ls) vs acts = refl

  pub same_land : (c : Continuation) (act : Activation) (l : Label) (ls : List Label) (vs : List Value) (acts : List Activation) → Same (land p a c act l ls vs acts) (land p b c act l ls vs acts)
  same_land behind act l ls vs acts = same_out act ls vs acts
  same_land (again body) act l ls vs acts = refl

  pub same_jump : (n : ℕ) (act : Activation) (ls : List Label) (vs : List Value) (acts : List Activation) → Same (jump p a n act ls vs acts) (jump p b n act ls vs acts)
  same_jump n act [] vs acts = refl
  same_jump zero act (l ∷ ls) vs acts = same_land l.continuation act l ls vs acts
  same_jump (suc n) act (l ∷ ls) vs acts = same_jump n act ls vs acts

  pub same_return : (owed : List ValueType) (vs : List Value) (acts : List Activation) → Same (hand_back p a owed vs acts) (hand_back p b owed vs acts)
  same_return owed vs acts = same_back owed vs acts

  -- ---- exceptions: which clause is meant, and the address
  module _ (index : a.index ≡ b.index) (made : a.made ≡ b.made) where
    module _ (t : TypeTree) (vs : List Value) where
      same_for : (o : Option ℕ) (m n : Move) → Same m n → Same (is_for p a t vs o m) (is_for p b t vs o n)
      same_for None m n e = e
      same_for (Some x) m n e = same_found {A = TypeTree} (slice_get p.«module».tags x) _ _ (λ u. e)

      same_handed : (h : Handing) (act : Activation) (ls : List Label) (acts : List Activation) → Same (hand_on p a t vs h act ls acts) (hand_on p b t vs h act ls acts)
      same_handed h act ls acts = same_for h.tag _ _ (same_found {A = List ValueType} (slice_get (map branch_type ls) h.label) _ _ (λ ts. same_jump h.label act ls h.values acts))

      caught_same : (c : Catch) → caught_by p a t vs c ≡ caught_by p b t vs c
      caught_same (catch.One x l) = refl
      caught_same (catch.OneRef x l) = ap (λ k. let h : Handing = record { tag = Some x; values = ref_exn k t ∷ vs; label = l } in h) made
      caught_same (catch.All l) = refl
      caught_same (catch.AllRef l) = ap (λ k. let h : Handing = record { tag = None; values = ref_exn k t ∷ []; label = l } in h) made

      same_catch : (c : Option Catch) (act : Activation) (ls : List Label) (acts : List Activation) → Same (catch_by p a t vs c act ls acts) (catch_by p b t vs c act ls acts)
      same_catch None act ls acts = refl
      same_catch (Some c) act ls acts = subst (λ h. Same (hand_on p a t vs (caught_by p a t vs c) act ls acts) (hand_on p b t vs h act ls acts)) (caught_same c) (same_handed (caught_by p a t vs c) act ls acts)

      turned : (g : Option ℕ) (k : Code) (act : Activation) (l : Label) (ls : List Label) (acts : List Activation) → let c : Clause = record { tag = g; code = k } in Same (turn_to p a t vs (Some c) act l ls acts) (turn_to p b t vs (Some c) act l ls acts)
      turned None k act l ls acts = ap (λ m. next (record act {
        innermost = record l { code = k; values = []; continuation = behind; handlers = no_handlers; caught = Some (record { address = m; type = t }) };
        around = ls;
      } ∷ acts)) made
      turned (Some x) k act l ls acts = same_found {A = TypeTree} (slice_get p.«module».tags x) _ _ (λ u. ap (λ m. next (record act {
        innermost = record l { code = k; values = vs; continuation = behind; handlers = no_handlers; caught = Some (record { address = m; type = t }) };
        around = ls;
      } ∷ acts)) made)

      same_turn : (c : Option Clause) (act : Activation) (l : Label) (ls : List Label) (acts : List Activation) → Same (turn_to p a t vs c act l ls acts) (turn_to p b t vs c act l ls acts)
      same_turn None act l ls acts = refl
      same_turn (Some c) act l ls acts = turned c.tag c.code act l ls acts

      same_handle : (h : Handlers) (act : Activation) (l : Label) (ls : List Label) (acts : List Activation) → Same (handle p a t vs h act l ls acts) (handle p b t vs h act l ls acts)
      same_handle no_handlers act l ls acts = refl
      same_handle (table cs) act l ls acts = subst (λ i. Same (catch_by p a t vs (slice_get cs a.index) act ls acts) (catch_by p b t vs (slice_get cs i) act ls acts)) index (same_catch (slice_get cs a.index) act ls acts)
      same_handle (clauses c) act l ls acts = subst (λ i. Same (turn_to p a t vs (clause_at c a.index) act l ls acts) (turn_to p b t vs (clause_at c i) act l ls acts)) index (same_turn (clause_at c a.index) act l ls acts)

      same_leave : (act : Activation) (ls : List Label) (n : ℕ) (acts : List Activation) (f g : ℕ → Move) → ((k : ℕ) → Same (f k) (g k)) → Same (leave_labels p a t vs act ls n acts f) (leave_labels p b t vs act ls n acts g)
      same_leave act [] n acts f g h = h n
      same_leave act (l ∷ ls) zero acts f g h = same_handle l.handlers act l ls acts
      same_leave act (l ∷ ls) (suc n) acts f g h = same_leave act ls n acts f g h

      pub same_unwind : (acts : List Activation) (n : ℕ) → Same (unwind p a t vs acts n) (unwind p b t vs acts n)
      same_unwind [] n = refl
      same_unwind (act ∷ acts) n = same_leave act (act.innermost ∷ act.around) n acts (unwind p a t vs acts) (unwind p b t vs acts) (same_unwind acts)

    pub same_throw : (t : TypeTree) (vs : List Value) (acts : List Activation) → a.leaves ≡ b.leaves → Same (unwind p a t vs acts a.leaves) (unwind p b t vs acts b.leaves)
    same_throw t vs acts e = subst (λ n. Same (unwind p a t vs acts a.leaves) (unwind p b t vs acts n)) e (same_unwind t vs acts a.leaves)

    pub same_again : (t : TypeTree) (acts : List Activation) → a.leaves ≡ b.leaves → a.values ≡ b.values → Same (throw_again p a t acts) (throw_again p b t acts)
    same_again t acts e v = same_found {A = Signature} (function_type t) _ _ (λ g. subst (λ vs. Same (unwind p a t a.values acts a.leaves) (unwind p b t vs acts b.leaves)) v (same_throw t a.values acts e))

  module _ (act : Activation) (acts : List Activation) where
    -- ---- values that go and come

    came : a.values ≡ b.values → (ws : List Value) (more : Code) → Same (goes p a act acts (a.values ++ ws) more) (goes p b act acts (b.values ++ ws) more)
    came e ws more = ap (λ us. (goes p a act acts (us ++ ws) more).outcome) e

    pub same_exchange : (ts us : List ValueType) (more : Code) → a.values ≡ b.values → a.traps ≡ b.traps → Same (exchange p a act acts ts us more) (exchange p b act acts ts us more)
    same_exchange ts us more e f = same_may a.traps b.traps _ _ f (λ n. came e _ more)

    -- ---- blocks, branches and calls

    pub same_opens : (bt : BlockType) (c : Continuation) (h : Handlers) (body : Code) (ws : List Value) (more : Code) → Same (opens p a act acts bt c h body ws more) (opens p b act acts bt c h body ws more)
    same_opens bt c h body ws more = same_found {A = Signature} (block_signature p.«module» bt) _ _ (λ g. refl)

    pub same_branch : (n : ℕ) (ws : List Value) → Same (branch p a act acts n ws) (branch p b act acts n ws)
    same_branch n ws = same_found {A = List ValueType} (label_at p a act acts n) _ _ (λ ts. same_jump n act (act.innermost ∷ act.around) _ acts)

    pub same_branch_if : (c d : Bool) → c ≡ d → (n : ℕ) (ws us : List Value) (more : Code) → Same (branch_if p a act acts c n ws us more) (branch_if p b act acts d n ws us more)
    same_branch_if c d e n ws us more = same_found {A = List ValueType} (label_at p a act acts n) _ _ (λ ts. same_choose c d _ _ _ _ e (same_jump n act (act.innermost ∷ act.around) _ acts) refl)

    same_begin : (o : Option Body) → IsTrue (is_own o) → (t : TypeTree) (g : Signature) (args : List Value) (owed : List ValueType) (cs : List Activation) → Same (begin p a o t g args owed cs) (begin p b o t g args owed cs)
    same_begin None h t g args owed cs = absurd (true≢false (sym h))
    same_begin (Some f) h t g args owed cs = refl

    module _ (s : Store) where
      pub same_invoke : (tail : Bool) (v : Value) (ws : List Value) (more : Code) → IsTrue (calls_own p s act v) → Same (invoke p a act acts tail v ws more) (invoke p b act acts tail v ws more)
      same_invoke tail (ref_function None t) ws more h = absurd (true≢false (sym h))
      same_invoke tail (ref_function (Some x) t) ws more h = same_found {A = Signature} (function_type t) _ _ (λ g. same_begin (body_of (slice_get p.functions x)) h t g _ _ _)
      same_invoke tail (ref_null c k) ws more h = refl
      same_invoke tail v ws more h = absurd (true≢false (sym h))

      pub same_call : (tail : Bool) (x : ℕ) (more : Code) → IsTrue (is_own_at p s act (Some x)) → Same (call p a act acts tail x more) (call p b act acts tail x more)
      same_call tail x more h = same_found {A = Function} (slice_get p.functions x) _ _ (λ f. same_invoke tail (ref_function (Some x) f.type) act.innermost.values more h)

    -- ---- objects and casts

    same_object : (of : _) (v : Value) (f g : List (FieldOf TypeTree) → Move) → ((fs : List (FieldOf TypeTree)) → Same (f fs) (g fs)) → Same (object p a act acts of v f) (object p b act acts of v g)
    same_object of (ref_object k t) f g h = same_found {A = List (FieldOf TypeTree)} (of (expanded t)) f g h
    same_object of (ref_null s h) f g i = refl
    same_object of v f g h = refl

    pub same_under : (of : _) (ns : List ValueType) (x : ℕ) (ws : List Value) (f g : List (FieldOf TypeTree) → List Value → Move) → a.traps ≡ b.traps → ((fs : List (FieldOf TypeTree)) (us : List Value) → Same (f fs us) (g fs us))
        → Same (object_under p a act acts of ns x ws f) (object_under p b act acts of ns x ws g)
    same_under of ns x ws f g e h = same_found {A = TypeTree} (slice_get p.«module».types x) _ _ (λ t. same_found {A = List (FieldOf TypeTree)} (of (expanded t)) _ _ (λ own.
        same_may a.traps b.traps _ _ e (λ n. same_object of _ _ _ (λ fs. h fs _))))

    abbrev given : (StorageOf TypeTree → Type 0) → Answer → Code → List Value → FieldOf TypeTree → Move
    given stored c more ws q = asks (stored q.storage) (gives p c (operand_of q.storage ∷ []) (λ rs. goes p c act acts (rs ++ ws) more))

    abbrev been_read : (StorageOf TypeTree → Type 0) → Answer → ℕ → Code → List (FieldOf TypeTree) → List Value → Move
    been_read stored c i more fs ws = found {A = FieldOf TypeTree} (slice_get fs i) (given stored c more ws)

    pub same_read : (stored : StorageOf TypeTree → Type 0) (of : _) (ns : List ValueType) (x i : ℕ) (more : Code) → a.values ≡ b.values → a.traps ≡ b.traps → Same (read p a act acts stored of ns x i more) (read p b act acts stored of ns x i more)
    same_read stored of ns x i more e f = same_under of ns x act.innermost.values (been_read stored a i more) (been_read stored b i more) f
        (λ fs ws. same_found {A = FieldOf TypeTree} (slice_get fs i) (given stored a more ws) (given stored b more ws) (λ q. came e ws more))

    abbrev written : Answer → ℕ → Value → Code → List (FieldOf TypeTree) → List Value → Move
    written c i v more fs ws = found {A = FieldOf TypeTree} (slice_get fs i) (λ (q : FieldOf TypeTree). writes q (asks (Fits p v (operand_of q.storage)) (goes p c act acts ws more)))

    pub same_write : (of : _) (ns : List ValueType) (x i : ℕ) (v : Value) (us : List Value) (more : Code) → a.traps ≡ b.traps → Same (write p a act acts of ns x i v us more) (write p b act acts of ns x i v us more)
    same_write of ns x i v us more f = same_under of ns x us (written a i v more) (written b i v more) f (λ fs ws. same_found {A = FieldOf TypeTree} (slice_get fs i) (λ q. writes q (asks (Fits p v (operand_of q.storage)) (goes p a act acts ws more))) (λ q. writes q (asks (Fits p v (operand_of q.storage)) (goes p b act acts ws more))) (λ q. refl))

    pub same_make : (of : _) (x : ℕ) (ts : List (FieldOf TypeTree) → List ValueType) (f g : List (FieldOf TypeTree) → Move → Move) (more : Code)
        → ((fs : List (FieldOf TypeTree)) (t : TypeTree) (ws : List Value) → Same (f fs (goes p a act acts (ref_object a.made t ∷ ws) more)) (g fs (goes p b act acts (ref_object b.made t ∷ ws) more)))
        → Same (make p a act acts of x ts f more) (make p b act acts of x ts g more)
    same_make of x ts f g more h = same_found {A = TypeTree} (slice_get p.«module».types x) _ _ (λ t. same_found {A = List (FieldOf TypeTree)} (of (expanded t)) _ _ (λ fs. h fs t _))

    pub same_cast_top : (n : Bool) (h : HeapType) (f g : Bool → Value → List Value → Move) → a.condition ≡ b.condition → ((c : Bool) (v : Value) (ws : List Value) → Same (f c v ws) (g c v ws)) → Same (cast_top p a act acts n h f) (cast_top p b act acts n h g)
    same_cast_top n h f g e i = same_found {A = HeapOf TypeTree} (meant_heap p.«module» h) _ _ (λ k. same_pops act.innermost.values _ _ (λ v ws.
        subst (λ d. Same (f (if is_null v then n else a.condition) v ws) (g (if is_null v then n else d) v ws)) e (i (if is_null v then n else a.condition) v ws)))

    pub same_cast_from : (from to : Reference) (f g : Bool → Value → List Value → Move) → a.condition ≡ b.condition → ((c : Bool) (v : Value) (ws : List Value) → Same (f c v ws) (g c v ws)) → Same (cast_from p a act acts from to f) (cast_from p b act acts from to g)
    same_cast_from from to f g e i = same_found {A = HeapOf TypeTree} (meant_heap p.«module» from.heap) _ _ (λ h. same_found {A = HeapOf TypeTree} (meant_heap p.«module» to.heap) _ _ (λ k. same_pops act.innermost.values _ _ (λ v ws.
        subst (λ d. Same (f (if is_null v then to.nullable else a.condition) v ws) (g (if is_null v then to.nullable else d) v ws)) e (i (if is_null v then to.nullable else a.condition) v ws))))

    -- a number is made
    pub same_number : (ws : List Value) (more : Code) → a.made ≡ b.made → Same (goes p a act acts (number_value i32 a.made ∷ ws) more) (goes p b act acts (number_value i32 b.made ∷ ws) more)
    same_number ws more e = ap (λ k. (goes p a act acts (number_value i32 k ∷ ws) more).outcome) e

    pub same_named : (t : TypeTree) (ws : List Value) (more : Code) → a.made ≡ b.made → Same (goes p a act acts (ref_object a.made t ∷ ws) more) (goes p b act acts (ref_object b.made t ∷ ws) more)
    same_named t ws more e = ap (λ k. (goes p a act acts (ref_object k t ∷ ws) more).outcome) e

    pub same_number_from : (h : Abstract) (is : Value → Type 0) (more : Code) → a.traps ≡ b.traps → (a.traps ≡ false → a.made ≡ b.made) → Same (number_from p a act acts h is more) (number_from p b act acts h is more)
    same_number_from h is more e f = same_pops act.innermost.values _ _ (λ v ws. same_may a.traps b.traps _ _ e (λ n. same_number ws more (f n)))

    null_same : (k : Abstract) (v : Value) → null_in p a act acts k v ≡ null_in p b act acts k v
    null_same k (ref_null s h) = refl
    null_same k v = refl

    pub same_convert : (h k : Abstract) (more : Code) → a.values ≡ b.values → Same (convert p a act acts h k more) (convert p b act acts h k more)
    same_convert h k more e = same_pops act.innermost.values _ _ (λ v ws. same_choose (is_null v) (is_null v) _ _ _ _ refl (ap (λ w. (goes p a act acts (w ∷ ws) more).outcome) (null_same k v)) (came e ws more))

    pub same_select : (t : ValueType) (more : Code) → a.condition ≡ b.condition → Same (select p a act acts t more) (select p b act acts t more)
    same_select t more e = same_pops act.innermost.values _ _ (λ c ws. same_pops ws _ _ (λ w us. same_pops us _ _ (λ v rest. ap (λ d. (goes p a act acts ((if d then v else w) ∷ rest) more).outcome) e)))
