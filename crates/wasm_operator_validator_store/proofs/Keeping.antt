-- Where each value of a state is such a one, and so is each value of the answer and whatever is made, each value of what a step comes to is such
-- a one too: the machine brings in no others.
use Rattle.std.proofs.Common.{◌≡◌, ℕ, zero, suc, Bool, true, false, List, [], ◌∷◌, ◌++◌, Option, Some, None, refl, length, map, reverse, slice_get}
use Rattle.wasm_types.specs.trees.Types.{number, Number, ref, Abstract, HeapOf, abstract, concrete, exact}
use Rattle.wasm_types.specs.trees.Trees.{TypeTree}
use Rattle.wasm_operators_immediates.specs.declared.handlers.Catch.{Catch}
use Rattle.wasm_operators_immediates.specs.declared.handlers.Catch.TheVariants as catch
use Rattle.wasm_operator_validator_rules.specs.Operands.{ValueType}
use Rattle.wasm_operator_validator_rules.specs.Context.{Signature}
use Rattle.wasm_operator_validator_soundness.specs.runs.Values.{Body, Program, Value, number_value, ref_null, ref_function, ref_exn, null_of, default_of}
use Rattle.wasm_operator_validator_soundness.specs.runs.States.{Continuation, behind, again, Handlers, no_handlers, table, clauses, Label, Activation, Answer, branch_type}
use Rattle.wasm_operator_validator_soundness.specs.runs.States.{Outcome, next, returned, trapped, thrown, Move, done, stop, refused, asks, allows, choose, found, pops}
use Rattle.wasm_operator_validator_soundness.specs.runs.Machine.{Clause, clause_at, begun}
use Rattle.wasm_operator_validator_soundness.specs.runs.Machine.{takes, gives, may_trap, hand_back, come_out, land, jump, is_for, caught_by, tag_values, catch_by, turn_to, handle, leave_labels, unwind, throw_again, by_host, begin}
use Rattle.wasm_operator_validator_store.specs.ValidStores.{Each, HasLocal, HasLabel, HasState, HasOutcome}
use Rattle.wasm_operator_validator_store.proofs.Lists.{each_take, each_drop, each_append, each_reverse_onto}

-- what holds of each value that names nothing in a store
pub record IsPlain (K : Value → Type 0) : Type 0 where
  pub zeros : (n : Number) → K (number_value n 0)
  pub nulls : (c : Bool) (h : Abstract) → K (ref_null c h)
  pub functions : (i : Option ℕ) (t : TypeTree) → K (ref_function i t)

-- what comes of a step; it is a record, so that the step is found from its type
pub record Keeps (K : Value → Type 0) (m : Move) : Type 0 where
  pub keeps : HasOutcome K m.outcome

module _ (K : Value → Type 0) (simple : IsPlain K) where
  -- ---- ways to put steps together

  pub done_keeps : (o : Outcome) → HasOutcome K o → Keeps K (done o)
  done_keeps o h = record { keeps = h }

  pub stop_keeps : Keeps K stop
  stop_keeps = record { keeps = tt }

  pub refused_keeps : Keeps K refused
  refused_keeps = record { keeps = tt }

  pub asks_keeps : (P : Type 0) (m : Move) → Keeps K m → Keeps K (asks P m)
  asks_keeps P m h = record { keeps = h.keeps }

  pub allows_keeps : (P : Type 0) (m : Move) → Keeps K m → Keeps K (allows P m)
  allows_keeps P m h = record { keeps = h.keeps }

  pub choose_keeps : (b : Bool) (m n : Move) → (b ≡ true → Keeps K m) → (b ≡ false → Keeps K n) → Keeps K (choose b m n)
  choose_keeps true m n h k = h refl
  choose_keeps false m n h k = k refl

  pub found_keeps : {A : Type 0} (o : Option A) (f : A → Move) → ((x : A) → o ≡ Some x → Keeps K (f x)) → Keeps K (found o f)
  found_keeps None f h = stop_keeps
  found_keeps (Some x) f h = h x refl

  pub pops_keeps : (vs : List Value) (f : Value → List Value → Move) → Each K vs → ((v : Value) (ws : List Value) → K v → Each K ws → Keeps K (f v ws)) → Keeps K (pops vs f)
  pops_keeps [] f h k = stop_keeps
  pops_keeps (v ∷ vs) f h k = k v vs h.0 h.1

  -- ---- nulls and defaults

  pub null_kept : (h : HeapOf TypeTree) → K (null_of h)
  null_kept (abstract c h) = simple.nulls c h
  null_kept (concrete t) = simple.nulls _ _
  null_kept (exact t) = simple.nulls _ _

  pub default_kept : (t : ValueType) → HasLocal K (default_of t)
  default_kept (number n) = simple.zeros n
  default_kept (ref true h) = null_kept h
  default_kept (ref false h) = tt

  pub defaults_kept : (ts : List ValueType) → Each (HasLocal K) (map default_of ts)
  defaults_kept [] = tt
  defaults_kept (t ∷ ts) = (default_kept t, defaults_kept ts)

  pub somes_kept : (vs : List Value) → Each K vs → Each (HasLocal K) (map Some vs)
  somes_kept [] h = tt
  somes_kept (v ∷ vs) h = (h.0, somes_kept vs h.1)

  -- ---- steps under an answer
  module _ (p : Program) (a : Answer) (answered : Each K a.values) where
    pub takes_keeps : (ts : List ValueType) (vs : List Value) (f : List Value → List Value → Move) → Each K vs
        → ((us ws : List Value) → Each K us → Each K ws → Keeps K (f us ws)) → Keeps K (takes p a ts vs f)
    takes_keeps ts vs f h k = asks_keeps _ _ (k _ _ (each_take K (length ts) vs h) (each_drop K (length ts) vs h))

    pub gives_keeps : (ts : List ValueType) (f : List Value → Move) → ((us : List Value) → Each K us → Keeps K (f us)) → Keeps K (gives p a ts f)
    gives_keeps ts f k = allows_keeps _ _ (k a.values answered)

    pub may_trap_keeps : (m : Move) → Keeps K m → Keeps K (may_trap p a m)
    may_trap_keeps m k = choose_keeps a.traps (done trapped) m (λ e. done_keeps trapped tt) (λ e. k)

    pub hand_back_keeps : (owed : List ValueType) (vs : List Value) (acts : List Activation) → Each K vs → HasState K acts → Keeps K (hand_back p a owed vs acts)
    hand_back_keeps owed vs [] h s = asks_keeps _ _ (done_keeps (returned vs) h)
    hand_back_keeps owed vs (c ∷ cs) h s = asks_keeps _ _ (done_keeps (next (record c { innermost = record c.innermost { values = vs ++ c.innermost.values } } ∷ cs)) (
      record {
        locals = s.0.locals;
        innermost = record { values = each_append K vs c.innermost.values h s.0.innermost.values; caught = s.0.innermost.caught };
        around = s.0.around;
      },
      s.1,
    ))

    -- the parts of an activation that is left
    pub come_out_keeps : (act : Activation) (ls : List Label) (vs : List Value) (acts : List Activation) → Each (HasLocal K) act.locals → Each (HasLabel K) ls → Each K vs → HasState K acts
        → Keeps K (come_out p a act ls vs acts)
    come_out_keeps act [] vs acts o l h s = hand_back_keeps act.owed vs acts h s
    come_out_keeps act (l ∷ ls) vs acts o k h s = done_keeps (next (record act { innermost = record l { values = vs ++ l.values }; around = ls } ∷ acts)) (
      record {
        locals = o;
        innermost = record { values = each_append K vs l.values h k.0.values; caught = k.0.caught };
        around = k.1;
      },
      s,
    )

    pub land_keeps : (c : Continuation) (act : Activation) (l : Label) (ls : List Label) (vs : List Value) (acts : List Activation) → Each (HasLocal K) act.locals → Each (HasLabel K) ls → Each K vs
        → HasState K acts → Keeps K (land p a c act l ls vs acts)
    land_keeps behind act l ls vs acts o k h s = come_out_keeps act ls vs acts o k h s
    land_keeps (again body) act l ls vs acts o k h s = done_keeps (next (record act { innermost = record l { code = body; values = vs; handlers = no_handlers; caught = None }; around = ls } ∷ acts)) (
      record { locals = o; innermost = record { values = h; caught = tt }; around = k },
      s,
    )

    pub jump_keeps : (n : ℕ) (act : Activation) (ls : List Label) (vs : List Value) (acts : List Activation) → Each (HasLocal K) act.locals → Each (HasLabel K) ls → Each K vs → HasState K acts
        → Keeps K (jump p a n act ls vs acts)
    jump_keeps n act [] vs acts o k h s = stop_keeps
    jump_keeps zero act (l ∷ ls) vs acts o k h s = land_keeps l.continuation act l ls vs acts o k.1 h s
    jump_keeps (suc n) act (l ∷ ls) vs acts o k h s = jump_keeps n act ls vs acts o k.1 h s

    -- ---- exceptions, where the one at the answer's address is such a value
    module _ (t : TypeTree) (vs : List Value) (made : K (ref_exn a.made t)) (held : Each K vs) where
      pub is_for_keeps : (o : Option ℕ) (m : Move) → Keeps K m → Keeps K (is_for p a t vs o m)
      is_for_keeps None m k = k
      is_for_keeps (Some x) m k = found_keeps (slice_get p.«module».tags x) _ (λ u e. allows_keeps _ m k)

      pub caught_values : (c : Catch) → Each K (caught_by p a t vs c).values
      caught_values (catch.One x l) = held
      caught_values (catch.OneRef x l) = (made, held)
      caught_values (catch.All l) = tt
      caught_values (catch.AllRef l) = (made, tt)

      pub tag_values_kept : (o : Option ℕ) → Each K (tag_values p a t vs o)
      tag_values_kept None = tt
      tag_values_kept (Some x) = held

      pub catch_keeps : (o : Option Catch) (act : Activation) (ls : List Label) (acts : List Activation) → Each (HasLocal K) act.locals → Each (HasLabel K) ls → HasState K acts
          → Keeps K (catch_by p a t vs o act ls acts)
      catch_keeps None act ls acts o k s = refused_keeps
      catch_keeps (Some c) act ls acts o k s = is_for_keeps (caught_by p a t vs c).tag _
          (found_keeps (slice_get (map branch_type ls) (caught_by p a t vs c).label) _ (λ ts e.
          asks_keeps _ _ (jump_keeps (caught_by p a t vs c).label act ls (caught_by p a t vs c).values acts o k (caught_values c) s)))

      pub turn_keeps : (o : Option Clause) (act : Activation) (l : Label) (ls : List Label) (acts : List Activation) → Each (HasLocal K) act.locals → Each (HasLabel K) ls → HasState K acts
          → Keeps K (turn_to p a t vs o act l ls acts)
      turn_keeps None act l ls acts o k s = refused_keeps
      turn_keeps (Some c) act l ls acts o k s = is_for_keeps c.tag _ (done_keeps (next (record act {
        innermost = record l {
          code = c.code;
          values = tag_values p a t vs c.tag;
          continuation = behind;
          handlers = no_handlers;
          caught = Some (record { address = a.made; type = t });
        };
        around = ls;
      } ∷ acts)) (
        record { locals = o; innermost = record { values = tag_values_kept c.tag; caught = made }; around = k },
        s,
      ))

      pub handle_keeps : (h : Handlers) (act : Activation) (l : Label) (ls : List Label) (acts : List Activation) → Each (HasLocal K) act.locals → Each (HasLabel K) ls → HasState K acts
          → Keeps K (handle p a t vs h act l ls acts)
      handle_keeps no_handlers act l ls acts o k s = refused_keeps
      handle_keeps (table cs) act l ls acts o k s = catch_keeps (slice_get cs a.index) act ls acts o k s
      handle_keeps (clauses c) act l ls acts o k s = turn_keeps (clause_at c a.index) act l ls acts o k s

      pub leave_keeps : (act : Activation) (ls : List Label) (n : ℕ) (acts : List Activation) (further : ℕ → Move) → Each (HasLocal K) act.locals → Each (HasLabel K) ls → HasState K acts
          → ((m : ℕ) → Keeps K (further m)) → Keeps K (leave_labels p a t vs act ls n acts further)
      leave_keeps act [] n acts further o k s f = f n
      leave_keeps act (l ∷ ls) zero acts further o k s f = handle_keeps l.handlers act l ls acts o k.1 s
      leave_keeps act (l ∷ ls) (suc n) acts further o k s f = leave_keeps act ls n acts further o k.1 s f

      pub unwind_keeps : (acts : List Activation) (n : ℕ) → HasState K acts → Keeps K (unwind p a t vs acts n)
      unwind_keeps [] n s = done_keeps (thrown t vs) held
      unwind_keeps (act ∷ acts) n s =
          leave_keeps act (act.innermost ∷ act.around) n acts (unwind p a t vs acts) s.0.locals (s.0.innermost, s.0.around) s.1 (λ m. unwind_keeps acts m s.1)

    pub again_keeps : (t : TypeTree) (acts : List Activation) → K (ref_exn a.made t) → HasState K acts → Keeps K (throw_again p a t acts)
    again_keeps t acts made s = found_keeps {A = Signature} _ _ (λ (b : Signature) e. gives_keeps b.params _ (λ us i. unwind_keeps t us made i acts a.leaves s))

    -- ---- calls

    pub by_host_keeps : (o : Option TypeTree) (results owed : List ValueType) (acts : List Activation) → ((t : TypeTree) → o ≡ Some t → K (ref_exn a.made t)) → HasState K acts
        → Keeps K (by_host p a o results owed acts)
    by_host_keeps None results owed acts made s = may_trap_keeps _ (gives_keeps results _ (λ us i. hand_back_keeps owed us acts i s))
    by_host_keeps (Some t) results owed acts made s = allows_keeps _ _ (again_keeps t acts (made t refl) s)

    pub begin_keeps : (o : Option Body) (t : TypeTree) (b : Signature) (args : List Value) (owed : List ValueType) (acts : List Activation)
        → (o ≡ None → (u : TypeTree) → a.throws ≡ Some u → K (ref_exn a.made u)) → Each K args → HasState K acts → Keeps K (begin p a o t b args owed acts)
    begin_keeps None t b args owed acts made h s = by_host_keeps a.throws b.results owed acts (made refl) s
    begin_keeps (Some f) t b args owed acts made h s = done_keeps (next (begun t b f args owed ∷ acts)) (
      record {
        locals = each_append (HasLocal K) (map Some (reverse args)) (map default_of f.locals) (somes_kept (reverse args) (each_reverse_onto K args [] h tt)) (defaults_kept f.locals);
        innermost = record { values = tt; caught = tt };
        around = tt;
      },
      s,
    )
