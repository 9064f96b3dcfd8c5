-- The validation of a body, behind its locals: what it accepts is a valid function.
use Rattle.std.proofs.Common.{◌≡◌, ◌∙◌, ℕ, ◌+◌, List, [], ◌++◌, length, Option, Some, None, Bool, false, Result, Ok, Err, slice_get, inl, inr, refl, sym, ap, subst, arith}
use Rattle.std.proofs.lemmas.List.{length-map}
use Rattle.std.proofs.lemmas.Option.{get_or_from_slice_get}
use Rattle.std.specs.Prelude.{IfErr, OnOk}
use Rattle.wasm_types.specs.decoding.Decoder.{State as Bytes, Done, Takes}
use Rattle.wasm_types.specs.decoding.ExactLaws.{value_is, state_is}
use Rattle.wasm_types.specs.settings.Settings.{Settings}
use Rattle.wasm_types.specs.settings.declared.Limits.{Limits}
use Rattle.wasm_types.specs.decoding.Denials.{Tells}
use Rattle.wasm_types.specs.decoding.DenialLaws.{denies_from}
use Rattle.wasm_types.specs.decoding.ErrorValue.{ErrorValue}
use Rattle.wasm_types.specs.decoding.declared.error.ErrorKind.{ErrorKind}
use Rattle.wasm_types.specs.decoding.declared.error.ErrorKind.TheVariants as kinds
use Rattle.wasm_types.specs.trees.Types.{InnerOf, function}
use Rattle.wasm_types.specs.trees.Trees.{TypeTree}
use Rattle.wasm_types.specs.trees.Below.{expanded, is_shared}
use Rattle.wasm_types.specs.trees.ValidGroup.{type_at}
use Rattle.wasm_types.specs.values.declared.value.ValType.{ValType}
use Rattle.wasm_operators_encoding.specs.Locals.{LocalGroup}
use Rattle.wasm_operators_encoding.specs.LocalsLaws.{decides-locals}
use Rattle.wasm_operators_immediates.specs.declared.block.BlockType.TheVariants as block
use Rattle.wasm_operators_enums.specs.Op.{Op}
use Rattle.wasm_operators_encoding.specs.expressions.Code.{Code, close, plain, nested, turn, walk}
use Rattle.wasm_operators_encoding.specs.expressions.Spelling.{SpelledExpression}
use Rattle.wasm_operator_validator_rules.specs.Operands.{ValueType}
use Rattle.wasm_operator_validator_rules.specs.Context.{Context, Module, Signature, IsFunctionType}
use Rattle.wasm_operator_validator_rules.specs.Typed.{IsBody}
use Rattle.wasm_operator_validator_arity.specs.resources.Meaning.{Meaning, type_in}
use Rattle.wasm_operator_validator_state.specs.State.{Given, Open, State, types_in, signature_of, signature_of_type, initialised, ClosesAll, Accepts}
use Rattle.wasm_operator_validator_state.specs.Bodies.{fresh, body_context}
use Rattle.wasm_operator_validator_stacks.specs.Layout.{none_saved}
use Rattle.wasm_operator_validator_stacks.specs.Functions.{HasFunctionType, Begins}
use Rattle.wasm_operator_validator_expression.specs.Validating.{AcceptsExpression, Validates}
use Rattle.wasm_operator_validator_expression.specs.laws.Ways.{bodies_are_expressions}
use Rattle.wasm_module_validator_section_order.specs.rules.Syntax.{Function}
use Rattle.wasm_module_validator_section_order.specs.rules.Binary.{SpelledFunction}
use Rattle.wasm_module_validator_section_order.specs.rules.Valid as valid
use Rattle.wasm_module_validator_section_order.specs.rules.Valid.{Each, IsValidFunction, IsValidValueType, HasValidBody, locals_in}
use Rattle.wasm_module_validator_function_bodies.specs.Locals.{judged_by, relocated, SpellsLocals, TakesLocals, ReadsLocals}
use Rattle.wasm_module_validator_function_bodies.specs.Functions.{SpellsValidFunction, FunctionsAreThoseOfTheRules, under, AcceptsRest, StopsFunction, ValidatesFunction}
use Rattle.wasm_module_validator_function_bodies.specs.laws.Locals.{defined_types, defined_count, defined_locals, defined_state}

-- ---- the type of a function

some_is : {A : Type 0} (x y : A) → Some x ≡ Some y → x ≡ y
some_is x y e = cc

signature_is : (b c : Signature) → function b.params b.results ≡ function c.params c.results → b ≡ c
signature_is b c e =
    let p : b.params ≡ c.params = cc in
    let r : b.results ≡ c.results = cc in
    ap (λ (ts : List ValueType). record { params = ts; results = b.results }) p ∙ ap (λ (ts : List ValueType). record { params = c.params; results = ts }) r

-- what the type at an index gives
results_at : (m : Meaning) (x : ℕ) (t : TypeTree) (b : Signature) → HasFunctionType m x t b → (signature_of m (block.FuncType x)).results ≡ b.results
results_at m x t b h =
    let at : type_at m.«module».types x ≡ t = get_or_from_slice_get m.«module».types x t _ h.at in
    ap (λ (u : TypeTree). (signature_of_type (expanded u)).results) at ∙ ap (λ (i : InnerOf TypeTree). (signature_of_type i).results) h.function

-- a context where a body begins
abbrev context_of : ℕ → Module → List ValueType → List ValueType → Bool → Context
context_of bits g ls rs shared = record { bits = bits; «module» = g; locals = ls; labels = []; catches = []; results = rs; shared = shared }

same_context : (n k : ℕ) (g : Module) (ls ks rs qs : List ValueType) (shared : Bool) → n ≡ k → ls ≡ ks → rs ≡ qs → context_of n g ls rs shared ≡ context_of k g ks qs shared
same_context n k g ls ks rs qs shared e f h =
    ap (λ (x : ℕ). context_of x g ls rs shared) e ∙ ap (λ (x : List ValueType). context_of k g x rs shared) f ∙ ap (λ (x : List ValueType). context_of k g ks x shared) h

-- ---- where the expression begins

module _ (m : Meaning) (bits x : ℕ) (σ : State) (b : Begins m bits x σ) where
  -- what is given of the body
  abbrev given_with : List ValType → Given
  given_with ts = record { bits = bits; locals = ts; params = length b.locals; shared = is_shared b.type }

  begun_locals : σ.given.locals ≡ b.locals
  begun_locals = ap (λ (ν : State). ν.given.locals) b.state

  begun_bits : σ.given.bits ≡ bits
  begun_bits = ap (λ (ν : State). ν.given.bits) b.state

  begun_going : σ.failed ≡ false
  begun_going = ap (λ (ν : State). ν.failed) b.state

  begun_types : types_in m σ.given.locals ≡ b.signature.params
  begun_types = ap (types_in m) begun_locals ∙ b.params

  begun_count : length σ.given.locals ≡ length b.signature.params
  begun_count = sym (length-map σ.given.locals (type_in m)) ∙ ap length begun_types

  params_count : length b.locals ≡ length b.signature.params
  params_count = sym (ap length begun_locals) ∙ begun_count

  -- there is one function type at the index
  same_type : (t : TypeTree) → slice_get m.«module».types x ≡ Some t → b.type ≡ t
  same_type t e = some_is b.type t (sym b.function.at ∙ e)

  same_signature : (t : TypeTree) (c : Signature) → slice_get m.«module».types x ≡ Some t → IsFunctionType t c → b.signature ≡ c
  same_signature t c e f = signature_is b.signature c (sym b.function.function ∙ ap expanded (same_type t e) ∙ f)

  -- a valid function has locals that it may have
  valid_locals : (z : Settings) (text : List ℕ) → SpellsValidFunction z m.«module» x text → SpellsLocals z m.«module» (length σ.given.locals) text
  valid_locals z text v =
      let same = ap (λ (c : Signature). length c.params) (same_signature v.type v.valid.signature v.at v.valid.function) in
      let count = begun_count in
      let within = v.valid.within in
      record {
        groups = v.function.locals;
        front = v.spelled.locals_text;
        back = v.spelled.body_text;
        spelled = v.spelled.locals;
        whole = v.spelled.whole;
        types = v.valid.locals;
        within = omega (arith, same, count, within);
      }

  module _ (s t : Bytes) (τ : State) (features : s.settings.features ≡ bits) (h : TakesLocals m s.settings s σ t τ) where
    -- it is the beginning of an expression with more locals
    begins_behind : τ ≡ fresh (given_with τ.given.locals) (block.FuncType x) none_saved
    begins_behind = defined_state m s.settings.limits.locals h.groups σ τ h.defined ∙ ap (λ (ν : State). relocated ν τ.given.locals) b.state

    -- and its context is that of the body by the rules
    context_behind : body_context m (given_with τ.given.locals) (block.FuncType x) ≡ valid.body_context s.settings m.«module» b.type b.signature h.groups
    context_behind =
        let all : types_in m τ.given.locals ≡ b.signature.params ++ locals_in m.«module».types h.groups =
        defined_locals m s.settings.limits.locals h.groups σ τ h.defined ∙ ap (λ (ts : List ValueType). ts ++ locals_in m.«module».types h.groups) begun_types in
        same_context bits s.settings.features m.«module» (types_in m τ.given.locals) (b.signature.params ++ locals_in m.«module».types h.groups)
        (signature_of m (block.FuncType x)).results b.signature.results (is_shared b.type) (sym features) all (results_at m x b.type b.signature b.function)

    accepted_valid : AcceptsExpression m τ t → SpellsValidFunction s.settings m.«module» x s.rest
    accepted_valid a =
        let taken = (decides-locals s.settings).sound s t h.groups h.read in
        let typed = (bodies_are_expressions m (given_with τ.given.locals) (block.FuncType x) none_saved t).0 (subst (λ (ν : State). AcceptsExpression m ν t) begins_behind a) in
        let counted = defined_count m s.settings.limits.locals h.groups σ τ h.defined in
        let count = begun_count in
        let within = h.within in
        record {
          function = record { locals = h.groups; body = typed.0 };
          spelled = record {
            locals_text = taken.0;
            body_text = t.rest;
            locals = taken.2;
            body = subst (λ (z : Settings). SpelledExpression z typed.0 t.rest) taken.1.settings typed.1;
            whole = taken.1.parts;
          };
          type = b.type;
          at = b.function.at;
          valid = record {
            signature = b.signature;
            function = b.function.function;
            locals = defined_types m s.settings.limits.locals s.settings.features h.groups σ τ (features ∙ sym begun_bits) h.defined;
            within = omega (arith, counted, count, within);
            body = subst (λ (g : Context). IsBody g (length b.signature.params) typed.0) context_behind
                (subst (λ (n : ℕ). IsBody (body_context m (given_with τ.given.locals) (block.FuncType x)) n typed.0) params_count typed.2);
          };
        }

    pub valid_accepted : SpellsValidFunction s.settings m.«module» x s.rest → AcceptsExpression m τ t
    valid_accepted v =
        let end : Bytes = record { rest = v.spelled.body_text; place = s.place + length v.spelled.locals_text; settings = s.settings; start = s.start } in
        let taken : Takes s v.spelled.locals_text end = record { parts = v.spelled.whole; place = refl; settings = refl; start = refl } in
        let whole = (decides-locals s.settings).complete s end v.function.locals v.spelled.locals_text taken v.spelled.locals in
        let both : Done h.groups t ≡ Done v.function.locals end = sym h.read ∙ whole in
        let groups : h.groups ≡ v.function.locals = value_is h.groups v.function.locals t end both in
        let here : t ≡ end = state_is h.groups v.function.locals t end both in
        let c = v.function.body in
        let type = same_type v.type v.at in
        let signature = same_signature v.type v.valid.signature v.at v.valid.function in
        let of_type = subst (λ (u : TypeTree). IsBody (valid.body_context s.settings m.«module» u v.valid.signature v.function.locals) (length v.valid.signature.params) c) (sym type) v.valid.body in
        let of_signature = subst (λ (q : Signature). IsBody (valid.body_context s.settings m.«module» b.type q v.function.locals) (length q.params) c) (sym signature) of_type in
        let of_groups = subst (λ (gs : List LocalGroup). IsBody (valid.body_context s.settings m.«module» b.type b.signature gs) (length b.signature.params) c) (sym groups) of_signature in
        let of_context = subst (λ (g : Context). IsBody g (length b.signature.params) c) (sym context_behind) of_groups in
        let of_params = subst (λ (n : ℕ). IsBody (body_context m (given_with τ.given.locals) (block.FuncType x)) n c) (sym params_count) of_context in
        let spelled = subst (λ (u : Bytes). SpelledExpression u.settings c u.rest) (sym here) v.spelled.body in
        subst (λ (ν : State). AcceptsExpression m ν t) (sym begins_behind)
        ((bodies_are_expressions m (given_with τ.given.locals) (block.FuncType x) none_saved t).1 (c, spelled, of_params))

-- the locals were taken, and the expression behind them was accepted
pub accepted_body : (m : Meaning) (z : Settings) (x : ℕ) (σ : State) → Begins m z.features x σ → (s t : Bytes) (τ ω : State) → TakesLocals m z (under z s) σ t τ → Validates m τ t (Ok tt) ω
    → SpellsValidFunction z m.«module» x s.rest
accepted_body m z x σ b s t τ ω h v = accepted_valid m z.features x σ b (under z s) t τ refl h v.exact

-- ---- from any state

-- an expression has an operator
some_operator : (c : Code) → walk c ≡ [] → ⊥
some_operator (close o) e = absurd cc
some_operator (plain o more) e = absurd cc
some_operator (nested o body more) e = absurd cc
some_operator (turn o more) e = absurd cc

-- after the end no operator may come
none_after : (m : Meaning) (σ : State) (os : List Op) → σ.opens ≡ [] → Accepts m σ os → os ≡ []
none_after m σ os e a = subst (λ (o : List Open). ClosesAll m σ.given [] o (initialised m σ.given σ.inits) os) e a.1

none_over : (m : Meaning) (σ τ : State) (t : Bytes) → τ ≡ relocated σ τ.given.locals → σ.opens ≡ [] → AcceptsExpression m τ t → ⊥
none_over m σ τ t others e (c, spelled, a) = some_operator c (none_after m τ (walk c) (ap (λ (ν : State). ν.opens) others ∙ e) a)

-- ---- whole bodies

tells_same : (answer : Result (Unit {0}) ErrorValue) (P Q : Type 0) → (P → Q) → (Q → P) → Tells answer P → Tells answer Q
tells_same (Ok u) P Q to from h = to h
tells_same (Err e) P Q to from h = denies_from e.kind P Q from h

module _ (m : Meaning) (l : Limits) (s : Bytes) (σ : State) where
  abbrev z : Settings
  z = judged_by σ.given.bits l

  -- the locals were refused
  pub locals_refused : (e : ErrorValue) (t : Bytes) (τ : State) → ReadsLocals m l (under z s) σ (Err e) t τ → ValidatesFunction m l s σ (Err e) τ
  locals_refused e t τ r = record {
    exact = λ x b. denies_from e.kind _ _ (valid_locals m σ.given.bits x σ b z s.rest) (r.exact (begun_going m σ.given.bits x σ b));
    accepted = tt;
    over = λ none. tt;
    stopped = r.stopped;
    stops = inl r.stops;
    ended = tt;
    failed = r.failed;
    features = ap (λ (ν : State). ν.given.bits) r.others;
    saved = ap (λ (ν : State). ν.saved) r.others;
  }

  module _ (t : Bytes) (τ : State) (r : ReadsLocals m l (under z s) σ (Ok tt) t τ) where
    stops_behind : (answer : Result (Unit {0}) ErrorValue) (ω : State) → Validates m τ t answer ω → IfErr answer (StopsFunction m z (under z s) σ)
    stops_behind (Ok u) ω v = tt
    stops_behind (Err e) ω v = inr (record { behind = t; known = τ; left = ω; taken = r.taken; stops = v.stops })

    accepted_from : (answer : Result (Unit {0}) ErrorValue) → Tells answer (AcceptsExpression m τ t) → OnOk answer (AcceptsRest m z (under z s) σ)
    accepted_from (Ok u) a = record { behind = t; known = τ; taken = r.taken; accepted = a }
    accepted_from (Err e) d = tt

    over_from : (answer : Result (Unit {0}) ErrorValue) → Tells answer (AcceptsExpression m τ t) → σ.opens ≡ [] → OnOk answer ⊥
    over_from (Ok u) a none = none_over m σ τ t (defined_state m z.limits.locals r.taken.groups σ τ r.taken.defined) none a
    over_from (Err e) d none = tt

    -- the locals were taken, and the expression behind them was judged
    pub expression_judged : (answer : Result (Unit {0}) ErrorValue) (ω : State) → Validates m τ t answer ω → ValidatesFunction m l s σ answer ω
    expression_judged answer ω v = record {
      exact = λ x b. tells_same answer _ _ (accepted_valid m σ.given.bits x σ b (under z s) t τ refl r.taken) (valid_accepted m σ.given.bits x σ b (under z s) t τ refl r.taken) v.exact;
      accepted = accepted_from answer v.exact;
      over = over_from answer v.exact;
      stopped = λ f. (let e : ◌≡◌ {A = Option ErrorKind} None (Some kinds.Failed) = r.stopped f in absurd cc);
      stops = stops_behind answer ω v;
      ended = v.ended;
      failed = v.failed;
      features = ap (λ (w : Given). w.bits) v.given ∙ ap (λ (ν : State). ν.given.bits) r.others;
      saved = v.saved ∙ ap (λ (ν : State). ν.saved) r.others;
    }

-- ---- the functions of the rules

pub functions_are : FunctionsAreThoseOfTheRules
functions_are z g x text bytes = (to, from)
  where
    to : SpellsValidFunction z g x text → (f : Function) × SpelledFunction z f text × HasValidBody z g x f
    to v = (
      v.function,
      record { locals_text = v.spelled.locals_text; body_text = v.spelled.body_text; within = bytes; locals = v.spelled.locals; body = v.spelled.body; whole = v.spelled.whole },
      (v.type, v.at, v.valid),
    )

    from : (f : Function) × SpelledFunction z f text × HasValidBody z g x f → SpellsValidFunction z g x text
    from (f, spelled, (t, at, v)) = record {
      function = f;
      spelled = record { locals_text = spelled.locals_text; body_text = spelled.body_text; locals = spelled.locals; body = spelled.body; whole = spelled.whole };
      type = t;
      at = at;
      valid = v;
    }
