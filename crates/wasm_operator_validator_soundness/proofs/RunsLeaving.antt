-- Values, branches and exceptions that leave labels and activations; functions that begin.
use Rattle.std.proofs.Common.{◌≡◌, ◌<◌, ℕ, zero, suc, List, [], ◌∷◌, ◌++◌, length, map, reverse, Option, Some, None, Bool, true, false, IsTrue, refl, sym, ap, subst, ◌∙◌, slice_get, inl, inr, arith, true≢false}
use Rattle.std.specs.Prelude.{All, ◌⊎◌, if◌then◌else◌, nat_lt}
use Rattle.std.proofs.lemmas.Bool.{ltb-true}
use Rattle.std.proofs.lemmas.List.{reverse-reverse}
use Rattle.std.proofs.lemmas.List.Elements.{All-head, All-tail, All-contains}
use Rattle.wasm_types.specs.trees.Types.{Abstract, func, extern, any, none, noextern, nofunc, eq, struct, array, i31, exn, noexn, cont, nocont, HeapOf, abstract, concrete, exact, number, ref}
use Rattle.wasm_types.specs.trees.Types.{InnerOf, function, array_of, struct_of, continuation}
use Rattle.wasm_types.specs.trees.Trees.{TypeTree}
use Rattle.wasm_types.specs.trees.Each.{EachHeap, EachValue}
use Rattle.wasm_types.specs.trees.AbstractOrder.{AbstractBelow, same, eq_any, i31_any, struct_any, array_any, none_any, i31_eq, struct_eq}
use Rattle.wasm_types.specs.trees.AbstractOrder.{array_eq, none_eq, none_i31, none_struct, none_array, nofunc_func, noextern_extern, noexn_exn, nocont_cont}
use Rattle.wasm_types.specs.trees.Below.{expanded, is_shared, abstract_above, bottom_of, IsAboveAbstract}
use Rattle.wasm_types.specs.trees.Chains.{IsSound, LinksMatch}
use Rattle.wasm_types.specs.trees.ValidGroup.{IsFunction}
use Rattle.wasm_types.specs.trees.laws.Valid.{valid_groups_are_sound}
use Rattle.wasm_operators_immediates.specs.declared.frames.FrameKind.{FrameKind}
use Rattle.wasm_operators_immediates.specs.declared.frames.FrameKind.TheVariants as frames
use Rattle.wasm_operators_immediates.specs.declared.handlers.Catch.{Catch}
use Rattle.wasm_operators_immediates.specs.declared.handlers.Catch.TheVariants as catch
use Rattle.wasm_operators_enums.specs.declared.control.ControlOperator.TheVariants as control
use Rattle.wasm_operators_enums.specs.declared.role.Effect.TheVariants as effects
use Rattle.wasm_operators_enums.specs.Roles.{role_of, effect}
use Rattle.wasm_operators_enums.specs.Op as op
use Rattle.wasm_operators_enums.specs.Op.{Op}
use Rattle.wasm_operators_encoding.specs.expressions.Code.{Code, close, plain, nested, turn, IsIn}
use Rattle.wasm_operator_validator_rules.specs.Operands.{ValueType, Operand, AllBelow, all_known, stack}
use Rattle.wasm_operator_validator_rules.specs.Context.{Context, Initialised, Signature, IsFunctionType, initialised_at_first, is_defaulted}
use Rattle.wasm_operator_validator_rules.specs.Row.{after}
use Rattle.wasm_operator_validator_rules.specs.Named.{as_function}
use Rattle.wasm_operator_validator_rules.specs.Exceptions.{exception, Catches, EachCatches}
use Rattle.wasm_operator_validator_soundness.specs.runs.Notes.{Notes, over_operator, over_block, into_part, IsAlong}
use Rattle.wasm_operator_validator_soundness.specs.runs.Places.{body_first, body_inside, body_frame, IsValidBodyBy, HasBodyBy}
use Rattle.wasm_operator_validator_soundness.specs.runs.Values.{Body, Program, IsStandardType, Value, number_value, ref_exn, bottom_under, IsMade, Fits, AllFit, null_of, default_of}
use Rattle.wasm_operator_validator_soundness.specs.runs.States.{Continuation, behind, again, Handlers, no_handlers, table, clauses, Label, Activation, State, taken_by, branch_type, is_clause, Answer}
use Rattle.wasm_operator_validator_soundness.specs.runs.States.{next, returned, thrown, Move, done, asks, allows}
use Rattle.wasm_operator_validator_soundness.specs.runs.Machine.{function_type, Clause, clause_at, begun, gives, hand_back, come_out, land, jump}
use Rattle.wasm_operator_validator_soundness.specs.runs.Machine.{is_for, caught_by, tag_values, catch_by, turn_to, handle, leave_labels, unwind, throw_again, by_host, begin}
use Rattle.wasm_operator_validator_soundness.proofs.RunsFitting.{all_below, fits_joined, fits_reversed, stack_more, both_reversed}
use Rattle.wasm_operator_validator_soundness.specs.runs.ValidStates.{AreSet, LocalFits, LocalsFit, IsThrown, Around, around_of, at, among, frame_of, LoopsBack, HandlersFit, LabelsAwait}
use Rattle.wasm_operator_validator_soundness.proofs.RunsInvariant.{none_is_some, some_same, further}
use Rattle.wasm_operator_validator_soundness.specs.runs.ValidStates.{ActivationAwaits, AllAwait}
use Rattle.wasm_operator_validator_soundness.proofs.RunsInvariant.{IsOkay}
use Rattle.wasm_operator_validator_soundness.proofs.Combining.{done_okay, refused_okay, asks_okay, allows_okay, found_okay, gives_okay, may_trap_okay}

-- ---- types

pub standard_is_sound : (t : TypeTree) → IsStandardType t → IsSound t
standard_is_sound t s = All-contains IsSound (s.types) t (valid_groups_are_sound s.settings s.groups s.types s.valid).sound s.has_it

pub standard_links : (t : TypeTree) → IsStandardType t → LinksMatch t
standard_links t s = All-contains LinksMatch (s.types) t (valid_groups_are_sound s.settings s.groups s.types s.valid).links s.has_it

by_inner : (t : TypeTree) (x : InnerOf TypeTree) → IsFunction x → expanded t ≡ x → (b : Signature) × IsFunctionType t b
by_inner t (function ps rs) i e = (record { params = ps; results = rs }, e)
by_inner t (array_of f) i e = absurd i
by_inner t (struct_of fs) i e = absurd i
by_inner t (continuation f) i e = absurd i

pub has_signature : (t : TypeTree) → IsFunction (expanded t) → (b : Signature) × IsFunctionType t b
has_signature t i = by_inner t (expanded t) i refl

pub signature_is : (t : TypeTree) (b : Signature) → IsFunctionType t b → function_type t ≡ Some b
signature_is t b e = ap as_function e

pub one_signature : (t : TypeTree) (b c : Signature) → IsFunctionType t b → IsFunctionType t c → b ≡ c
one_signature t b c e f = some_same b c (sym (signature_is t b e) ∙ signature_is t c f)

-- ---- the clauses of an older `try` are typed

-- what a clause for a tag, or for all, hands on
abbrev pub HandsOn : Program → Option ℕ → List ValueType → Type 0
HandsOn p None ts = ts ≡ []
HandsOn p (Some x) ts = (t : TypeTree) × (slice_get p.«module».tags x ≡ Some t) × IsFunctionType t (record { params = ts; results = [] })

pub record ClauseTyped (N : Notes) (p : Program) (w : Around) (labels : List (List ValueType)) (catches : List Bool) (b : Signature) (before : Initialised) (root : N.Note) (c : Clause) : Type 0 where
  pub kind : FrameKind
  pub carries : List ValueType
  pub hands_on : HandsOn p c.tag carries
  pub inside : IsIn kind c.code
  pub place : N.Note
  pub along : IsAlong N root place
  pub typed : N.Holds place (at p w labels (true ∷ catches)) (frame_of p w kind b before) before c.code (stack carries)

-- a frame whose parts are clauses
abbrev IsTrying : FrameKind → Type 0
IsTrying frames.LegacyTry = Unit {0}
IsTrying frames.LegacyCatch = Unit {0}
IsTrying frames.LegacyCatchAll = Unit {0}
IsTrying k = ⊥

turned_same : (j k : FrameKind) → Some (effects.Turns j) ≡ Some (effects.Turns k) → j ≡ k
turned_same j k e = cc

no_else : (k j : FrameKind) → IsTrying k → effect (role_of (op.Control control.Else)) k ≡ Some (effects.Turns j) → ⊥
no_else frames.LegacyTry j i e = none_is_some (effects.Turns j) e
no_else frames.LegacyCatch j i e = none_is_some (effects.Turns j) e
no_else frames.LegacyCatchAll j i e = none_is_some (effects.Turns j) e
no_else k j i e = absurd i

to_catch : (x : ℕ) (k j : FrameKind) → effect (role_of (op.Exception (op.Catch x))) k ≡ Some (effects.Turns j) → frames.LegacyCatch ≡ j
to_catch x frames.LegacyTry j e = turned_same frames.LegacyCatch j e
to_catch x frames.LegacyCatch j e = turned_same frames.LegacyCatch j e
to_catch x k j e = absurd (none_is_some (effects.Turns j) e)

to_catch_all : (k j : FrameKind) → effect (role_of (op.Exception op.CatchAll)) k ≡ Some (effects.Turns j) → frames.LegacyCatchAll ≡ j
to_catch_all frames.LegacyTry j e = turned_same frames.LegacyCatchAll j e
to_catch_all frames.LegacyCatch j e = turned_same frames.LegacyCatchAll j e
to_catch_all k j e = absurd (none_is_some (effects.Turns j) e)

module _ (N : Notes) (p : Program) (w : Around) (labels : List (List ValueType)) (catches : List Bool) (b : Signature) (before : Initialised) (root : N.Note) where
  abbrev ClauseIs : Clause → Type 0
  ClauseIs c = ClauseTyped N p w labels catches b before root c

  -- a clause of code that is typed at a place
  pub clause_typed : (m : Bool) (k : FrameKind) → IsTrying k → (set : Initialised) (c : Code) (s : List Operand) (n : ℕ) (cl : Clause) (here : N.Note) → IsAlong N root here
      → IsIn k c → N.Holds here (at p w labels (m ∷ catches)) (frame_of p w k b before) set c s → clause_at c n ≡ Some cl → ClauseIs cl
  clause_typed m k i set (close o) s n cl here l q t e = absurd (none_is_some cl e)
  clause_typed m k i set (plain o more) s n cl here l q t e =
      let y = N.opened here (at p w labels (m ∷ catches)) (frame_of p w k b before) set (plain o more) s t in
      clause_typed m k i (after o set) more y.0 n cl (N.next here) (further N root here over_operator l) q.1 y.2 e
  clause_typed m k i set (nested o body more) s n cl here l q t e =
      let y = N.opened here (at p w labels (m ∷ catches)) (frame_of p w k b before) set (nested o body more) s t in
      clause_typed m k i set more (stack (y.1).results ++ y.2) n cl (N.past here) (further N root here over_block l) q.3 y.6 e
  clause_typed m k i set (turn (op.Control control.Else) more) s n cl here l q t e = absurd (no_else k q.0 i q.1)
  clause_typed m k i set (turn (op.Exception (op.Catch x)) more) s zero cl here l q t e =
      let y = N.opened here (at p w labels (m ∷ catches)) (frame_of p w k b before) set (turn (op.Exception (op.Catch x)) more) s t in
      subst (λ (d : Clause). ClauseIs d) (some_same (record { tag = Some x; code = more }) cl e)
      (record { kind = frames.LegacyCatch; carries = y.0; hands_on = y.1.1; inside = subst (λ (j : FrameKind). IsIn j more) (sym (to_catch x k q.0 q.1)) q.2; place = N.turned here; along = further N root here into_part l; typed = y.3 })
  clause_typed m k i set (turn (op.Exception op.CatchAll) more) s zero cl here l q t e =
      let y = N.opened here (at p w labels (m ∷ catches)) (frame_of p w k b before) set (turn (op.Exception op.CatchAll) more) s t in
      subst (λ (d : Clause). ClauseIs d) (some_same (record { tag = None; code = more }) cl e)
      (record { kind = frames.LegacyCatchAll; carries = y.0; hands_on = y.1.1; inside = subst (λ (j : FrameKind). IsIn j more) (sym (to_catch_all k q.0 q.1)) q.2; place = N.turned here; along = further N root here into_part l; typed = y.3 })
  clause_typed m k i set (turn (op.Exception (op.Catch x)) more) s (suc n) cl here l q t e =
      let y = N.opened here (at p w labels (m ∷ catches)) (frame_of p w k b before) set (turn (op.Exception (op.Catch x)) more) s t in
      clause_typed true frames.LegacyCatch tt before more (stack y.0) n cl (N.turned here) (further N root here into_part l) (subst (λ (j : FrameKind). IsIn j more) (sym (to_catch x k q.0 q.1)) q.2) y.3 e
  clause_typed m k i set (turn (op.Exception op.CatchAll) more) s (suc n) cl here l q t e =
      let y = N.opened here (at p w labels (m ∷ catches)) (frame_of p w k b before) set (turn (op.Exception op.CatchAll) more) s t in
      clause_typed true frames.LegacyCatchAll tt before more (stack y.0) n cl (N.turned here) (further N root here into_part l) (subst (λ (j : FrameKind). IsIn j more) (sym (to_catch_all k q.0 q.1)) q.2) y.3 e
  clause_typed m k i set (turn o more) s n cl here l q t e =
      let y = N.opened here (at p w labels (m ∷ catches)) (frame_of p w k b before) set (turn o more) s t in
      absurd y.1

-- ---- leaving labels

module _ (N : Notes) (p : Program) (final : List ValueType) (a : Answer) where
  abbrev Okay : Move → Type 0
  Okay m = IsOkay N p final m

  -- what the activation within is owed comes to those below
  pub hand_back_okay : (owed : List ValueType) (vs : List Value) (acts : List Activation) → AllFit p vs (stack owed) → AllAwait N p final acts (stack owed) → Okay (hand_back p a owed vs acts)
  hand_back_okay owed vs [] f w = asks_okay N p final (AllFit p vs (stack owed)) (done (returned vs)) f (done_okay N p final (returned vs) (w vs f))
  hand_back_okay owed vs (c ∷ cs) f w =
      let k = w.2.labels.0 in
      let s : State = record c { innermost = record c.innermost { values = vs ++ c.innermost.values } } ∷ cs in
      asks_okay N p final (AllFit p vs (stack owed)) (done (next s)) f
      (done_okay N p final (next s) (
        record {
          locals = w.2.locals;
          results = w.2.results;
          labels = (
            record {
              root = k.root;
              place = k.place;
              along = k.along;
              around = k.around;
              kind = k.kind;
              inside = k.inside;
              before = k.before;
              set = k.set;
              are_set = k.are_set;
              operands = w.0 ++ k.operands;
              fit = fits_joined p vs c.innermost.values w.0 k.operands (w.1 vs f) k.fit;
              typed = k.typed;
              loops = k.loops;
              handlers = k.handlers;
              caught = k.caught;
            },
            w.2.labels.1,
          );
        },
        w.3,
      ))

  module _ (act : Activation) (acts : List Activation) (locals : LocalsFit p act.locals act.types)
      (results : (vs : List Value) → AllFit p vs (stack act.results) → AllFit p vs (stack act.owed)) (below : AllAwait N p final acts (stack act.owed)) where
    abbrev w : Around
    w = around_of act

    abbrev LabelsWait : List Label → List Operand → Option N.Note → Type 0
    LabelsWait ls given inner = LabelsAwait N p w act.locals act.owed ls given inner

    pub come_out_okay : (ls : List Label) (vs : List Value) (given : List Operand) (inner : Option N.Note) → AllFit p vs given → LabelsWait ls given inner → Okay (come_out p a act ls vs acts)
    come_out_okay [] vs given inner f k = hand_back_okay act.owed vs acts (k.1 vs f) below
    come_out_okay (l ∷ ls) vs given inner f k = done_okay N p final (next (record act { innermost = record l { values = vs ++ l.values }; around = ls } ∷ acts)) (
      record {
        locals = locals;
        results = results;
        labels = (
          record {
            root = k.0.root;
            place = k.0.place;
            along = k.0.along;
            around = tt;
            kind = k.0.kind;
            inside = k.0.inside;
            before = k.0.before;
            set = k.0.set;
            are_set = k.0.are_set;
            operands = given ++ k.0.operands;
            fit = fits_joined p vs l.values given k.0.operands f k.0.fit;
            typed = k.0.typed;
            loops = k.0.loops;
            handlers = k.0.handlers;
            caught = k.0.caught;
          },
          k.1,
        );
      },
      below,
    )

    land_okay : (c : Continuation) (l : Label) (ls : List Label) (vs : List Value) (root : N.Note) → l.continuation ≡ c → AllFit p vs (stack (taken_by c l.block))
        → LoopsBack N p w act.locals root c l.block ls → LabelsWait ls (stack l.block.results) (Some root) → Okay (land p a c act l ls vs acts)
    land_okay behind l ls vs root e f t k = come_out_okay ls vs (stack l.block.results) (Some root) f k
    land_okay (again body) l ls vs root e f t k = done_okay N p final (next (record act { innermost = record l { code = body; values = vs; handlers = no_handlers; caught = None }; around = ls } ∷ acts)) (
      record {
        locals = locals;
        results = results;
        labels = (
          record {
            root = root;
            place = root;
            along = ([], refl);
            around = tt;
            kind = t.0;
            inside = t.1;
            before = t.2;
            set = t.3;
            are_set = t.4;
            operands = stack l.block.params;
            fit = f;
            typed = subst (λ (d : Continuation). N.Holds root (at p w (taken_by d l.block ∷ map branch_type ls) (false ∷ map is_clause ls)) (frame_of p w t.0 l.block t.2) t.3 body (stack l.block.params)) (sym e) t.5;
            loops = subst (λ (d : Continuation). LoopsBack N p w act.locals root d l.block ls) (sym e) t;
            handlers = tt;
            caught = tt;
          },
          k,
        );
      },
      below,
    )

    pub jump_okay : (n : ℕ) (l : Label) (ls : List Label) (ts : List ValueType) (vs : List Value) (root : N.Note) → slice_get (branch_type l ∷ map branch_type ls) n ≡ Some ts → AllFit p vs (stack ts)
        → LoopsBack N p w act.locals root l.continuation l.block ls → LabelsWait ls (stack l.block.results) (Some root) → Okay (jump p a n act (l ∷ ls) vs acts)
    jump_okay zero l ls ts vs root e f t k =
        land_okay l.continuation l ls vs root refl (subst (λ (us : List ValueType). AllFit p vs (stack us)) (sym (some_same (branch_type l) ts e)) f) t k
    jump_okay (suc n) l [] ts vs root e f t k = absurd (none_is_some ts e)
    jump_okay (suc n) l (m ∷ ls) ts vs root e f t k = jump_okay n m ls ts vs k.0.root e f k.0.loops k.1

    pub jump_around : (n : ℕ) (ls : List Label) (ts : List ValueType) (vs : List Value) (given : List Operand) (inner : Option N.Note) → slice_get (map branch_type ls) n ≡ Some ts → AllFit p vs (stack ts)
        → LabelsWait ls given inner → Okay (jump p a n act ls vs acts)
    jump_around n [] ts vs given inner e f k = absurd (none_is_some ts e)
    jump_around n (l ∷ ls) ts vs given inner e f k = jump_okay n l ls ts vs k.0.root e f k.0.loops k.1

    -- ---- exceptions
    module _ (t : TypeTree) (vs : List Value) (b : Signature) (made : IsThrown t) (is : IsFunctionType t b) (fit : AllFit p vs (stack b.params)) where
      abbrev IsFor : Option ℕ → Type 0
      IsFor None = Unit {0}
      IsFor (Some x) = slice_get p.«module».tags x ≡ Some t

      -- a clause whose tag is there
      is_for_okay : (tag : Option ℕ) (ts : List ValueType) (m : Move) → HandsOn p tag ts → (IsFor tag → Okay m) → Okay (is_for p a t vs tag m)
      is_for_okay None ts m h k = k tt
      is_for_okay (Some x) ts m h k =
          found_okay N p final (slice_get p.«module».tags x) h.0 (λ u. allows (u ≡ t) m) h.1 (allows_okay N p final (h.0 ≡ t) m (λ i. k (h.1 ∙ ap Some i)))

      -- the values that a clause for a tag, or for all, hands on
      hands_on_fits : (tag : Option ℕ) (ts : List ValueType) → IsFor tag → HandsOn p tag ts → AllFit p (tag_values p a t vs tag) (stack ts)
      hands_on_fits None ts i h = subst (λ (us : List ValueType). AllFit p [] (stack us)) (sym h) tt
      hands_on_fits (Some x) ts i h =
          let own : Signature = record { params = ts; results = [] } in
          let e : b ≡ own = one_signature t b own is (subst (λ (u : TypeTree). IsFunctionType u own) (some_same h.0 t (sym h.1 ∙ i)) h.2) in
          subst (λ (c : Signature). AllFit p vs (stack c.params)) e fit

      reference_fits : Fits p (ref_exn a.made t) (exception false)
      reference_fits = (made, (tt, (refl, same)))

      below_label : (us : List Value) (ts xs : List ValueType) → AllFit p us (stack ts) → AllBelow (all_known ts) (all_known xs) → AllFit p us (stack xs)
      below_label us ts xs f b = all_below p us (stack ts) (stack xs) f (both_reversed (all_known ts) (all_known xs) b)

      with_reference : (us : List Value) (ts : List ValueType) → AllFit p us (stack ts) → AllFit p (ref_exn a.made t ∷ us) (stack (ts ++ exception false ∷ []))
      with_reference us ts f = subst (λ (s : List Operand). AllFit p (ref_exn a.made t ∷ us) s) (sym (stack_more ts (exception false))) (reference_fits, f)

      -- what a clause of a `try_table` hands on is what its label takes
      tag_carried : (ls : List Label) (c : Catch) → Catches (among p w ls) c → (ts : List ValueType) × HandsOn p (caught_by p a t vs c).tag ts
      tag_carried ls (catch.One x l) k = (k.0, k.1)
      tag_carried ls (catch.OneRef x l) k = (k.0, k.1)
      tag_carried ls (catch.All l) k = ([], refl)
      tag_carried ls (catch.AllRef l) k = ([], refl)

      carried_fits : (ls : List Label) (c : Catch) → IsFor (caught_by p a t vs c).tag → Catches (among p w ls) c
          → (us : List ValueType) × (slice_get (map branch_type ls) (caught_by p a t vs c).label ≡ Some us) × AllFit p (caught_by p a t vs c).values (stack us)
      carried_fits ls (catch.One x l) i k = (k.2.0, k.2.1, below_label vs k.0 k.2.0 (hands_on_fits (Some x) k.0 i k.1) k.2.2)
      carried_fits ls (catch.OneRef x l) i k =
          (k.2.0, k.2.1, below_label (ref_exn a.made t ∷ vs) (k.0 ++ exception false ∷ []) k.2.0 (with_reference vs k.0 (hands_on_fits (Some x) k.0 i k.1)) k.2.2)
      carried_fits ls (catch.All l) i k = (k.0, k.1, below_label [] [] k.0 tt k.2)
      carried_fits ls (catch.AllRef l) i k = (k.0, k.1, below_label (ref_exn a.made t ∷ []) (exception false ∷ []) k.0 (reference_fits, tt) k.2)

      clause_there : (g : Context) (cs : List Catch) (i : ℕ) (c : Catch) → slice_get cs i ≡ Some c → EachCatches g cs → Catches g c
      clause_there g [] i c e k = absurd (none_is_some c e)
      clause_there g (d ∷ cs) zero c e k = subst (λ (x : Catch). Catches g x) (some_same d c e) k.0
      clause_there g (d ∷ cs) (suc i) c e k = clause_there g cs i c e k.1

      catch_okay : (o : Option Catch) (cs : List Catch) (i : ℕ) (ls : List Label) (given : List Operand) (inner : Option N.Note) → slice_get cs i ≡ o → EachCatches (among p w ls) cs → LabelsWait ls given inner
          → Okay (catch_by p a t vs o act ls acts)
      catch_okay None cs i ls given inner e k l = refused_okay N p final
      catch_okay (Some c) cs i ls given inner e k l =
          let there = clause_there (among p w ls) cs i c e k in
          let tag = tag_carried ls c there in
          is_for_okay (caught_by p a t vs c).tag tag.0 _ tag.1
          (λ x.
          let r = carried_fits ls c x there in
          let us : List Value = (caught_by p a t vs c).values in
          found_okay N p final (slice_get (map branch_type ls) (caught_by p a t vs c).label) r.0 (λ ts. asks (AllFit p us (stack ts)) (jump p a (caught_by p a t vs c).label act ls us acts)) r.1
          (asks_okay N p final (AllFit p us (stack r.0)) _ r.2 (jump_around (caught_by p a t vs c).label ls r.0 us given inner r.1 r.2 l)))

      turn_okay : (o : Option Clause) (c : Code) (n : ℕ) (l : Label) (ls : List Label) (root : N.Note) → clause_at c n ≡ o → HandlersFit N p w act.locals root (clauses c) l.block ls → LabelsWait ls (stack l.block.results) (Some root)
          → Okay (turn_to p a t vs o act l ls acts)
      turn_okay None c n l ls root e k z = refused_okay N p final
      turn_okay (Some cl) c n l ls root e k z =
          let r = clause_typed N p w (l.block.results ∷ map branch_type ls) (map is_clause ls) l.block k.0 root false frames.LegacyTry tt k.1 c k.3 n cl root ([], refl) k.4 k.5 e in
          is_for_okay cl.tag r.carries _ r.hands_on
          (λ x.
          done_okay N p final (next (record act { innermost = record l { code = cl.code; values = tag_values p a t vs cl.tag; continuation = behind; handlers = no_handlers; caught = Some (record { address = a.made; type = t }) }; around = ls } ∷ acts)) (
            record {
              locals = locals;
              results = results;
              labels = (
                record {
                  root = root;
                  place = r.place;
                  along = r.along;
                  around = tt;
                  kind = r.kind;
                  inside = r.inside;
                  before = k.0;
                  set = k.0;
                  are_set = k.2;
                  operands = stack r.carries;
                  fit = hands_on_fits cl.tag r.carries x r.hands_on;
                  typed = r.typed;
                  loops = tt;
                  handlers = tt;
                  caught = made;
                },
                z,
              );
            },
            below,
          ))

      handle_okay : (h : Handlers) (l : Label) (ls : List Label) (root : N.Note) → HandlersFit N p w act.locals root h l.block ls → LabelsWait ls (stack l.block.results) (Some root) → Okay (handle p a t vs h act l ls acts)
      handle_okay no_handlers l ls root k z = refused_okay N p final
      handle_okay (table cs) l ls root k z = catch_okay (slice_get cs a.index) cs a.index ls (stack l.block.results) (Some root) refl k z
      handle_okay (clauses c) l ls root k z = turn_okay (clause_at c a.index) c a.index l ls root refl k z

      pub leave_okay : (l : Label) (ls : List Label) (n : ℕ) (further : ℕ → Move) (root : N.Note) → HandlersFit N p w act.locals root l.handlers l.block ls → LabelsWait ls (stack l.block.results) (Some root)
          → ((k : ℕ) → Okay (further k)) → Okay (leave_labels p a t vs act (l ∷ ls) n acts further)
      leave_okay l ls zero further root k z f = handle_okay l.handlers l ls root k z
      leave_okay l [] (suc n) further root k z f = f n
      leave_okay l (m ∷ ls) (suc n) further root k z f = leave_okay m ls n further z.0.root z.0.handlers z.1 f

  module _ (t : TypeTree) (vs : List Value) (b : Signature) (made : IsThrown t) (is : IsFunctionType t b) (fit : AllFit p vs (stack b.params)) where
    pub unwind_okay : (acts : List Activation) (given : List Operand) (n : ℕ) → AllAwait N p final acts given → Okay (unwind p a t vs acts n)
    unwind_okay [] given n k = done_okay N p final (thrown t vs) (b, is, fit)
    unwind_okay (act ∷ acts) given n k =
        leave_okay act acts k.2.locals k.2.results k.3 t vs b made is fit act.innermost act.around n (unwind p a t vs acts) k.2.labels.0.root k.2.labels.0.handlers k.2.labels.1
        (λ j. unwind_okay acts (stack act.owed) j k.3)

  pub throw_again_okay : (t : TypeTree) (acts : List Activation) (given : List Operand) → IsThrown t → AllAwait N p final acts given → Okay (throw_again p a t acts)
  throw_again_okay t acts given made k =
      let s = has_signature t made.1 in
      found_okay N p final (function_type t) s.0 (λ b. gives p a b.params (λ us. unwind p a t us acts a.leaves)) (signature_is t s.0 s.1)
      (gives_okay N p final a (s.0).params (λ us. unwind p a t us acts a.leaves) (λ us f. unwind_okay t us s.0 made s.1 f acts given a.leaves k))

  -- ---- a function of the host

  -- it gives results of one list of types to those that await others
  pub by_host_okay : (o : Option TypeTree) (results owed : List ValueType) (acts : List Activation) → ((vs : List Value) → AllFit p vs (stack results) → AllFit p vs (stack owed))
      → AllAwait N p final acts (stack owed) → Okay (by_host p a o results owed acts)
  by_host_okay None results owed acts r k = may_trap_okay N p final a (gives p a results (λ us. hand_back p a owed us acts))
      (gives_okay N p final a results (λ us. hand_back p a owed us acts) (λ us f. hand_back_okay owed us acts (r us f) k))
  by_host_okay (Some t) results owed acts r k = allows_okay N p final (IsMade p (ref_exn a.made t)) (throw_again p a t acts) (λ made. throw_again_okay t acts (stack owed) made k)

-- ---- what a local is at first

pub under_below : (h : Abstract) → AbstractBelow (bottom_under h) h
under_below func = nofunc_func
under_below nofunc = same
under_below extern = noextern_extern
under_below noextern = same
under_below exn = noexn_exn
under_below noexn = same
under_below cont = nocont_cont
under_below nocont = same
under_below any = none_any
under_below none = same
under_below eq = none_eq
under_below struct = none_struct
under_below array = none_array
under_below i31 = none_i31

pub one_bottom : (h k : Abstract) → AbstractBelow h k → bottom_under h ≡ bottom_under k
one_bottom h k same = refl
one_bottom h k eq_any = refl
one_bottom h k i31_any = refl
one_bottom h k struct_any = refl
one_bottom h k array_any = refl
one_bottom h k none_any = refl
one_bottom h k i31_eq = refl
one_bottom h k struct_eq = refl
one_bottom h k array_eq = refl
one_bottom h k none_eq = refl
one_bottom h k none_i31 = refl
one_bottom h k none_struct = refl
one_bottom h k none_array = refl
one_bottom h k nofunc_func = refl
one_bottom h k noextern_extern = refl
one_bottom h k noexn_exn = refl
one_bottom h k nocont_cont = refl

pub under_itself : (h : Abstract) → bottom_under (bottom_under h) ≡ bottom_under h
under_itself h = one_bottom (bottom_under h) h (under_below h)

pub under_constructor : (x : InnerOf TypeTree) → bottom_under (abstract_above x) ≡ bottom_of x
under_constructor (function ps rs) = refl
under_constructor (array_of f) = refl
under_constructor (struct_of fs) = refl
under_constructor (continuation t) = refl

pub under_bottom : (x : InnerOf TypeTree) → bottom_under (bottom_of x) ≡ bottom_of x
under_bottom x = ap bottom_under (sym (under_constructor x)) ∙ under_itself (abstract_above x) ∙ under_constructor x

null_above : (t : TypeTree) → IsSound t → IsAboveAbstract t (is_shared t) (bottom_under (bottom_of (expanded t)))
null_above t s u d =
    ((s u d).shared, under_bottom (expanded t) ∙ sym (under_constructor (expanded t)) ∙ ap bottom_under (s u d).constructor ∙ under_constructor (expanded u))

pub null_fits : (p : Program) (h : HeapOf TypeTree) → EachHeap IsStandardType h → Fits p (null_of h) (ref true h)
null_fits p (abstract s h) i = (tt, (tt, (refl, under_below h)))
null_fits p (concrete t) i = (tt, (tt, null_above t (standard_is_sound t i)))
null_fits p (exact t) i = (tt, (tt, null_above t (standard_is_sound t i)))

default_fits : (p : Program) (t : ValueType) → EachValue IsStandardType t → LocalFits p (default_of t) t
default_fits p (number n) i = (tt, refl)
default_fits p (ref true h) i = null_fits p h i
default_fits p (ref false h) i = tt

defaults_fit : (p : Program) (ts : List ValueType) → All (EachValue IsStandardType) ts → LocalsFit p (map default_of ts) ts
defaults_fit p [] i = tt
defaults_fit p (t ∷ ts) i = (default_fits p t (All-head (EachValue IsStandardType) t ts i), defaults_fit p ts (All-tail (EachValue IsStandardType) t ts i))

first_fit : (p : Program) (ps ts : List ValueType) (vs : List Value) → AllFit p vs (all_known ps) → All (EachValue IsStandardType) ts → LocalsFit p (map Some vs ++ map default_of ts) (ps ++ ts)
first_fit p [] ts [] f i = defaults_fit p ts i
first_fit p [] ts (v ∷ vs) f i = absurd f
first_fit p (t ∷ ps) ts [] f i = absurd f
first_fit p (t ∷ ps) ts (v ∷ vs) f i = (f.0, first_fit p ps ts vs f.1 i)

pub default_there : (t : ValueType) → IsTrue (is_defaulted (Some t)) → (v : Value) × (default_of t ≡ Some v)
default_there (number n) i = (number_value n 0, refl)
default_there (ref true h) i = (null_of h, refl)
default_there (ref false h) i = absurd (true≢false (sym i))

defaults_there : (ts : List ValueType) (x : ℕ) → IsTrue (is_defaulted (slice_get ts x)) → (v : Value) × (slice_get (map default_of ts) x ≡ Some (Some v))
defaults_there [] x i = absurd (true≢false (sym i))
defaults_there (t ∷ ts) zero i = let r = default_there t i in (r.0, ap Some r.1)
defaults_there (t ∷ ts) (suc x) i = defaults_there ts x i

first_there : (p : Program) (ps ts : List ValueType) (vs : List Value) (x : ℕ) → AllFit p vs (all_known ps) → (x < length ps) ⊎ IsTrue (is_defaulted (slice_get (ps ++ ts) x))
    → (v : Value) × (slice_get (map Some vs ++ map default_of ts) x ≡ Some (Some v))
first_there p [] ts [] x f (inl l) = absurd (omega arith)
first_there p [] ts [] x f (inr i) = defaults_there ts x i
first_there p [] ts (v ∷ vs) x f i = absurd f
first_there p (t ∷ ps) ts [] x f i = absurd f
first_there p (t ∷ ps) ts (v ∷ vs) zero f i = (v, refl)
first_there p (t ∷ ps) ts (v ∷ vs) (suc x) f (inl l) = first_there p ps ts vs x f.1 (inl (omega arith))
first_there p (t ∷ ps) ts (v ∷ vs) (suc x) f (inr i) = first_there p ps ts vs x f.1 (inr i)

either_first : (b c : Bool) → IsTrue (if b then true else c) → (b ≡ true) ⊎ IsTrue c
either_first true c i = inl refl
either_first false c i = inr i

left_by : {P Q R : Type 0} → (P → Q) → P ⊎ R → Q ⊎ R
left_by f (inl q) = inl (f q)
left_by f (inr r) = inr r

pub initially_set : (p : Program) (ps ts : List ValueType) (vs : List Value) → AllFit p vs (all_known ps) → AreSet (initialised_at_first (length ps) (ps ++ ts)) (map Some vs ++ map default_of ts)
initially_set p ps ts vs f x i = first_there p ps ts vs x f (left_by (ltb-true x (length ps)) (either_first (nat_lt x (length ps)) _ i))

-- ---- a body begins

pub begun_awaits : (N : Notes) (p : Program) (t : TypeTree) (b : Signature) (f : Body) (args : List Value) (owed : List ValueType) → IsValidBodyBy N p t f → IsFunctionType t b → AllFit p args (stack b.params)
    → ((vs : List Value) → AllFit p vs (stack b.results) → AllFit p vs (stack owed)) → ActivationAwaits N p (begun t b f args owed) []
begun_awaits N p t b f args owed v is fit r =
    let e : v.signature ≡ b = one_signature t v.signature b v.function is in
    let root = N.whole v.index in
    let body = subst (λ (c : Signature). N.Holds root (body_inside p t c f) (body_frame c f) (body_first c f) f.code []) e v.typed in
    let first : Initialised = body_first b f in
    let given : AllFit p (reverse args) (all_known b.params) =
    subst (λ (l : List Operand). AllFit p (reverse args) l) (reverse-reverse (all_known b.params)) (fits_reversed p args (stack b.params) fit) in
    let set : AreSet first (map Some (reverse args) ++ map default_of f.locals) = initially_set p b.params f.locals (reverse args) given in
    record {
      locals = first_fit p b.params f.locals (reverse args) given v.locals;
      results = r;
      labels = (
        record {
          root = root;
          place = root;
          along = ([], refl);
          around = tt;
          kind = frames.Block;
          inside = v.expression;
          before = first;
          set = first;
          are_set = set;
          operands = [];
          fit = tt;
          typed = body;
          loops = tt;
          handlers = tt;
          caught = tt;
        },
        ((v.index, refl, first, body), r),
      );
    }

pub begin_okay : (N : Notes) (p : Program) (final : List ValueType) (a : Answer) (o : Option Body) (t : TypeTree) (b : Signature) (args : List Value) (owed : List ValueType) (acts : List Activation)
    → HasBodyBy N p t o → IsFunctionType t b → AllFit p args (stack b.params) → ((vs : List Value) → AllFit p vs (stack b.results) → AllFit p vs (stack owed))
    → AllAwait N p final acts (stack owed) → IsOkay N p final (begin p a o t b args owed acts)
begin_okay N p final a None t b args owed acts v is fit r k = by_host_okay N p final a a.throws b.results owed acts r k
begin_okay N p final a (Some f) t b args owed acts v is fit r k =
    done_okay N p final (next (begun t b f args owed ∷ acts)) (begun_awaits N p t b f args owed v is fit r, k)
