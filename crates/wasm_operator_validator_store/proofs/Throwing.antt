-- Exceptions over a store: the clause that the store finds is one that the machine takes.
use Rattle.std.proofs.Common.{◌≡◌, ℕ, zero, suc, ◌+◌, Bool, true, false, List, [], ◌∷◌, ◌++◌, Option, Some, None, refl, sym, ap, subst, ◌∙◌, map, get_or, take, length, slice_get, ◌⊎◌, inl, inr}
use Rattle.std.specs.Prelude.{option_map, if◌then◌else◌}
use Rattle.std.proofs.lemmas.Bool.{eqb-true}
use mathlib.Core.Logic.{⊎_elim}
use Rattle.wasm_types.specs.trees.Trees.{TypeTree}
use Rattle.wasm_operators_immediates.specs.declared.handlers.Catch.{Catch}
use Rattle.wasm_operators_immediates.specs.declared.handlers.Catch.TheVariants as catch
use Rattle.wasm_operators_encoding.specs.expressions.Code.{Code, close, plain, nested, turn}
use Rattle.wasm_operator_validator_rules.specs.Operands.{ValueType, stack}
use Rattle.wasm_operator_validator_soundness.specs.runs.Values.{Program, Value, AllFit}
use Rattle.wasm_operator_validator_soundness.specs.runs.States.{Continuation, behind, again, Handlers, no_handlers, table, clauses, Label, Activation, Answer, branch_type}
use Rattle.wasm_operator_validator_soundness.specs.runs.States.{Move, found}
use Rattle.wasm_operator_validator_soundness.specs.runs.Machine.{Clause, clause_at, tag_of, hand_back, come_out, land, jump, is_for, caught_by, catch_by, turn_to, handle, leave_labels, unwind}
use Rattle.wasm_operator_validator_store.specs.Stores.{Store}
use Rattle.wasm_operator_validator_store.specs.Handling.{Place, labels_of, tag_caught, tags_turned_to, tags_handled, passed_over, is_for_tag, first_of, caught_if, caught_from}
use Rattle.wasm_operator_validator_store.specs.ValidStores.{StoreFits}
use Rattle.wasm_operator_validator_store.proofs.Lists.{same_some, none_some, map_some, pairs_get, get_or_there}
use Rattle.wasm_operators_enums.specs.Op as op
use Rattle.wasm_operator_validator_rules.specs.Context.{Signature, IsFunctionType}
use Rattle.wasm_operator_validator_soundness.specs.runs.Machine.{function_type, function_type_in, takes, execute}
use Rattle.wasm_operator_validator_soundness.specs.runs.Soundness.{IsValidProgram}
use Rattle.wasm_operator_validator_soundness.proofs.RunsLeaving.{signature_is}
use Rattle.wasm_operator_validator_store.specs.Stores.{ExceptionInstance, with_exception}
use Rattle.wasm_operator_validator_store.specs.ValidStores.{Knows}
use Rattle.wasm_operator_validator_store.specs.Giving.{GivesOperator, arity}
use Rattle.wasm_operator_validator_store.specs.Soundness.{AreValid}
use Rattle.wasm_operator_validator_store.proofs.Lists.{each_take, get_last}
use Rattle.wasm_operator_validator_store.proofs.Storing.{exception_evolves, exception_fits}
use Rattle.wasm_operator_validator_store.proofs.Accessing.{values_known}
use Rattle.wasm_operator_validator_store.proofs.Answering.{IsDone, found_answer, found_needs, told}

-- ---- a step that goes to a label needs no answer

module _ (p : Program) (a : Answer) where
  pub back_any : (owed : List ValueType) (vs : List Value) (acts : List Activation) → (hand_back p a owed vs acts).is_answer
  back_any owed vs [] = tt
  back_any owed vs (c ∷ cs) = tt

  pub out_any : (act : Activation) (ls : List Label) (vs : List Value) (acts : List Activation) → (come_out p a act ls vs acts).is_answer
  out_any act [] vs acts = back_any act.owed vs acts
  out_any act (l ∷ ls) vs acts = tt

  pub land_any : (c : Continuation) (act : Activation) (l : Label) (ls : List Label) (vs : List Value) (acts : List Activation) → (land p a c act l ls vs acts).is_answer
  land_any behind act l ls vs acts = out_any act ls vs acts
  land_any (again body) act l ls vs acts = tt

  pub jump_any : (n : ℕ) (act : Activation) (ls : List Label) (vs : List Value) (acts : List Activation) → (jump p a n act ls vs acts).is_answer
  jump_any n act [] vs acts = tt
  jump_any zero act (l ∷ ls) vs acts = land_any l.continuation act l ls vs acts
  jump_any (suc n) act (l ∷ ls) vs acts = jump_any n act ls vs acts

-- ---- the first clause

module _ (addresses : List ℕ) (tag : ℕ) where
  split : (b : Bool) (o : Option ℕ) (n : ℕ) → (if b then Some 0 else option_map (λ m. suc m) o) ≡ Some n → (b ≡ true) × (n ≡ 0) ⊎ (m : ℕ) × (o ≡ Some m) × (n ≡ suc m)
  split true o n e = inl (refl, sym (same_some 0 n e))
  split false o n e = let k = map_some (λ m. suc m) o n e in inr (k.0, k.1, sym k.2)

  pub first_is : (cs : List (Option ℕ)) (n : ℕ) → first_of addresses tag cs ≡ Some n → (c : Option ℕ) × (slice_get cs n ≡ Some c) × (is_for_tag addresses tag c ≡ true)
  first_is [] n e = absurd (none_some n e)
  first_is (c ∷ cs) n e = ⊎_elim
      (λ k. (c, subst (λ m. slice_get (c ∷ cs) m ≡ Some c) (sym k.1) refl, k.0))
      (λ k. let r = first_is cs k.0 k.1 in (r.0, subst (λ m. slice_get (c ∷ cs) m ≡ Some r.0) (sym k.2) r.1, r.2))
      (split (is_for_tag addresses tag c) (first_of addresses tag cs) n e)

pub get_map_back : {A B : Type 0} (f : A → B) (xs : List A) (n : ℕ) (y : B) → slice_get (map f xs) n ≡ Some y → (x : A) × (slice_get xs n ≡ Some x) × (f x ≡ y)
get_map_back f [] n y e = absurd (none_some y e)
get_map_back f (x ∷ xs) zero y e = (x, refl, same_some (f x) y e)
get_map_back f (x ∷ xs) (suc n) y e = get_map_back f xs n y e

pub clause_there : (c : Code) (n : ℕ) (o : Option ℕ) → slice_get (tags_turned_to c) n ≡ Some o → (k : Clause) × (clause_at c n ≡ Some k) × (k.tag ≡ o)
clause_there (close q) n o e = absurd (none_some o e)
clause_there (plain q more) n o e = clause_there more n o e
clause_there (nested q body more) n o e = clause_there more n o e
clause_there (turn q more) zero o e = (record { tag = tag_of q; code = more }, refl, same_some (tag_of q) o e)
clause_there (turn q more) (suc n) o e = clause_there more n o e

-- ---- it is taken

module _ (p : Program) (a : Answer) (s : Store) (fits : StoreFits p s) (tag : ℕ) (t : TypeTree) (is : slice_get s.tags tag ≡ Some t) (vs : List Value) where
  -- a tag at this address has this type
  pub tag_type : (x : ℕ) (u : TypeTree) → slice_get p.«module».tags x ≡ Some u → is_for_tag s.addresses.tags tag (Some x) ≡ true → u ≡ t
  tag_type x u e d =
      let r = pairs_get (λ q k. slice_get s.tags k ≡ Some q) p.«module».tags s.addresses.tags x u fits.tag_addresses e in
      let at : r.0 ≡ tag = sym (get_or_there s.addresses.tags x r.0 (tag + 1) r.1) ∙ eqb-true (get_or s.addresses.tags x (tag + 1)) tag d in
      same_some u t (sym (subst (λ k. slice_get s.tags k ≡ Some u) at r.2) ∙ is)

  pub for_answer : (o : Option ℕ) (m : Move) → is_for_tag s.addresses.tags tag o ≡ true → m.is_answer → (is_for p a t vs o m).is_answer
  for_answer None m d h = h
  for_answer (Some x) m d h = found_answer (slice_get p.«module».tags x) _ (λ u e. (tag_type x u e d, h))

  tag_carried : (c : Catch) → (caught_by p a t vs c).tag ≡ tag_caught c
  tag_carried (catch.One x l) = refl
  tag_carried (catch.OneRef x l) = refl
  tag_carried (catch.All l) = refl
  tag_carried (catch.AllRef l) = refl

  pub handle_answer : (h : Handlers) (act : Activation) (l : Label) (ls : List Label) (acts : List Activation) (n : ℕ) → first_of s.addresses.tags tag (tags_handled h) ≡ Some n → a.index ≡ n
      → (handle p a t vs h act l ls acts).is_answer
  handle_answer no_handlers act l ls acts n e i = absurd (none_some n e)
  handle_answer (table cs) act l ls acts n e i =
      let r = first_is s.addresses.tags tag (map tag_caught cs) n e in
      let k = get_map_back tag_caught cs n r.0 r.1 in
      subst (λ (o : Option Catch). (catch_by p a t vs o act ls acts).is_answer) (sym (ap (λ m. slice_get cs m) i ∙ k.1))
      (for_answer (caught_by p a t vs k.0).tag _ (ap (λ o. is_for_tag s.addresses.tags tag o) (tag_carried k.0 ∙ k.2) ∙ r.2)
      (found_answer (slice_get (map branch_type ls) (caught_by p a t vs k.0).label) _ (λ ts d. jump_any p a (caught_by p a t vs k.0).label act ls (caught_by p a t vs k.0).values acts)))
  handle_answer (clauses c) act l ls acts n e i =
      let r = first_is s.addresses.tags tag (tags_turned_to c) n e in
      let k = clause_there c n r.0 r.1 in
      subst (λ (o : Option Clause). (turn_to p a t vs o act l ls acts).is_answer) (sym (ap (λ m. clause_at c m) i ∙ k.1))
      (for_answer (k.0).tag _ (ap (λ o. is_for_tag s.addresses.tags tag o) k.2 ∙ r.2) tt)

  -- where the place is found among labels, the answer that tells it is one
  abbrev Tells : Place → ℕ → Type 0
  Tells q n = (n ≡ q.leaves) × (a.index ≡ q.clause)

  at_label : (act : Activation) (l : Label) (ls : List Label) (n : ℕ) (rest : List Label) (acts : List Activation) (further : ℕ → Move) → ((k m : ℕ) → Tells (caught_from s.addresses.tags tag k rest) m → (further m).is_answer)
      → (o : Option ℕ) → first_of s.addresses.tags tag (tags_handled l.handlers) ≡ o
      → ((m : ℕ) → Tells (caught_from s.addresses.tags tag (passed_over l.handlers) (ls ++ rest)) m → (leave_labels p a t vs act ls m acts further).is_answer)
      → Tells (caught_if s.addresses.tags tag o (caught_from s.addresses.tags tag (passed_over l.handlers) (ls ++ rest))) n → (leave_labels p a t vs act (l ∷ ls) n acts further).is_answer
  at_label act l ls n rest acts further f (Some c) e deeper k = subst (λ m. (leave_labels p a t vs act (l ∷ ls) m acts further).is_answer) (sym k.0) (handle_answer l.handlers act l ls acts c e k.1)
  at_label act l ls n rest acts further f None e deeper k = subst (λ m. (leave_labels p a t vs act (l ∷ ls) m acts further).is_answer) (sym k.0) (deeper _ (refl, k.1))

  pub leave_answer : (act : Activation) (ls : List Label) (skip n : ℕ) (rest : List Label) (acts : List Activation) (further : ℕ → Move) → Tells (caught_from s.addresses.tags tag skip (ls ++ rest)) n
      → ((k m : ℕ) → Tells (caught_from s.addresses.tags tag k rest) m → (further m).is_answer) → (leave_labels p a t vs act ls n acts further).is_answer
  leave_answer act [] skip n rest acts further h f = f skip n h
  leave_answer act (l ∷ ls) (suc skip) n rest acts further h f =
      subst (λ m. (leave_labels p a t vs act (l ∷ ls) m acts further).is_answer) (sym h.0) (leave_answer act ls skip _ rest acts further (refl, h.1) f)
  leave_answer act (l ∷ ls) zero n rest acts further h f =
      at_label act l ls n rest acts further f (first_of s.addresses.tags tag (tags_handled l.handlers)) refl (λ m k. leave_answer act ls (passed_over l.handlers) m rest acts further k f) h

  pub unwind_answer : (x : List Activation) (skip n : ℕ) → Tells (caught_from s.addresses.tags tag skip (labels_of x)) n → (unwind p a t vs x n).is_answer
  unwind_answer [] skip n h = tt
  unwind_answer (act ∷ acts) skip n h = leave_answer act (act.innermost ∷ act.around) skip n (labels_of acts) acts (unwind p a t vs acts) h (λ k m q. unwind_answer acts k m q)

-- ---- an exception is thrown

module _ (p : Program) (valid : IsValidProgram p) (results : List ValueType) (act : Activation) (acts : List Activation) (s : Store) (v : AreValid p results (act ∷ acts) s) (more : Code) (a : Answer) (u : Store) where
  -- the address of a tag of the module has its type
  pub tag_there : (x : ℕ) (t : TypeTree) → slice_get p.«module».tags x ≡ Some t → slice_get s.tags (get_or s.addresses.tags x 0) ≡ Some t
  tag_there x t e =
      let r = pairs_get (λ q k. slice_get s.tags k ≡ Some q) p.«module».tags s.addresses.tags x t v.store.tag_addresses e in
      subst (λ k. slice_get s.tags k ≡ Some t) (sym (get_or_there s.addresses.tags x r.0 0 r.1)) r.2

  pub throw_done : (x : ℕ) → act.innermost.code ≡ plain (op.Exception (op.Throw x)) more → GivesOperator p (act ∷ acts) s a u act (op.Exception (op.Throw x)) → IsDone p act acts (plain (op.Exception (op.Throw x)) more) s a u
  throw_done x c h =
      let vs = act.innermost.values in
      let tag = get_or s.addresses.tags x 0 in
      let thrown : ExceptionInstance = record { tag = tag; values = take (arity (function_type_in (slice_get p.«module».tags x))) vs } in
      let inner : TypeTree → Signature → Move = λ t b. takes p a b.params vs (λ us ws. unwind p a t us (act ∷ acts) a.leaves) in
      let outer : TypeTree → Move = λ t. found (function_type t) (inner t) in
      let answer : (execute p a act acts (plain (op.Exception (op.Throw x)) more)).is_answer = found_answer (slice_get p.«module».tags x) outer (λ t e. found_answer (function_type t) (inner t) (λ b d.
      unwind_answer p a s v.store tag t (tag_there x t e) (take (length b.params) vs) (act ∷ acts) 0 a.leaves h.3)) in
      let n = told p valid results act acts s v a (plain (op.Exception (op.Throw x)) more) c answer in
      let q = found_needs {A = TypeTree} p results (slice_get p.«module».tags x) outer n.0 n.1 in
      let r = found_needs {A = Signature} p results (function_type q.0) (inner q.0) q.2 q.3 in
      let size : arity (function_type_in (slice_get p.«module».tags x)) ≡ length (r.0).params = ap (λ o. arity (function_type_in o)) q.1 ∙ ap (λ o. arity o) r.1 in
      let fit : (b : Signature) → IsFunctionType q.0 b → AllFit p thrown.values (stack b.params) = λ (b : Signature) is.
      let same : r.0 ≡ b = same_some r.0 b (sym r.1 ∙ signature_is q.0 b is) in
      subst (λ (k : Signature). AllFit p thrown.values (stack k.params)) same (subst (λ m. AllFit p (take m vs) (stack (r.0).params)) (sym size) r.2.0) in
      subst (λ w. IsDone p act acts (plain (op.Exception (op.Throw x)) more) s a w) (sym h.2) (record {
        answer = answer;
        store = exception_fits p s thrown v.store (q.0, tag_there x q.0 q.1, fit, each_take (Knows s) (arity (function_type_in (slice_get p.«module».tags x))) vs v.known.0.innermost.values);
        evolves = exception_evolves s thrown;
        values = values_known p valid results act acts s v (with_exception s thrown) a [] h.1 tt;
        new = λ t e. (thrown, subst (λ k. slice_get (s.exceptions ++ thrown ∷ []) k ≡ Some thrown) (sym h.0) (get_last s.exceptions thrown), tag_there x t e);
      })
