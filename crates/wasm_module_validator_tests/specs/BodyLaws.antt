-- The rows of `Bodies`.
use Rattle.std.proofs.Common.{◌≡◌, ◌⊎◌, ◌∙◌, ◌+◌, ◌<◌, ◌≤◌, inl, inr, ℕ, Bool, true, false, List, [], ◌∷◌, length, Option, Some, None, Ok, Err, slice_get, refl, sym, ap, arith, lit≤}
use Rattle.wasm_types.specs.decoding.Decoder.{State as Bytes}
use Rattle.wasm_types.specs.decoding.declared.error.ErrorKind.{ErrorKind}
use Rattle.wasm_types.specs.decoding.declared.error.ErrorKind.TheVariants.{Failed, Other}
use Rattle.wasm_types.specs.settings.Limits.{default_limits}
use Rattle.wasm_types.specs.settings.declared.Limits.{Limits}
use Rattle.wasm_types.specs.settings.Settings.{no_features}
use Rattle.wasm_types.specs.values.declared.value.ValType.TheVariants.{I32}
use Rattle.wasm_operators_enums.specs.Op.{Op}
use Rattle.wasm_operator_validator_rules.specs.Context.{Module}
use Rattle.wasm_operator_validator_state.specs.resources.Meaning.{Meaning}
use Rattle.wasm_operator_validator_state.specs.State.{Given, State}
use Rattle.wasm_operator_validator_state.specs.laws.Accepting.{accepts_not_failed}
use Rattle.wasm_module_validator_function_bodies.specs.Locals.{RefusesMore}
use Rattle.wasm_module_validator_function_bodies.specs.laws.Functions.{functions_are}
use Rattle.wasm_module_validator_function_bodies.specs.code.Worked.{body_rows}
use Rattle.wasm_module_validator_tests.specs.Bodies.{fault_at, LocalsRead, ExpressionsValidated, FunctionsValidated, OperatorsTried, FramesClosed, empty_body, FunctionsSpelled}

untrue : (b : Bool) → b ≡ true → b ≡ false → ⊥
untrue b e f = let x : true ≡ false = sym e ∙ f in absurd cc

turned : (b : Bool) → b ≡ true → false ≡ b → ⊥
turned b e f = absurd cc

other_kind : ◌≡◌ {A = Option ErrorKind} (Some Other) (Some Failed) → ⊥
other_kind e = absurd cc

no_kind : ◌≡◌ {A = Option ErrorKind} None (Some Failed) → ⊥
no_kind e = absurd cc

not_true : false ≡ true → ⊥
not_true e = absurd cc

not_more : (m : Meaning) (n : ℕ) (σ : State) → σ.failed ≡ true → RefusesMore m n σ 1 I32 Other → ⊥
not_more m n σ e (inl h) = let f = h.1 in absurd cc
not_more m n σ e (inr h) = untrue σ.failed e h.0

pub locals_read : (m : Meaning) (l : Limits) (s : Bytes) (σ : State) → σ.failed ≡ true → LocalsRead m l s σ
locals_read m l s σ f = record {
  refused = record {
    exact = λ e. absurd (untrue σ.failed f e);
    stopped = λ e. refl;
    taken = tt;
    stops = inl (f, refl, refl);
    stays = refl;
    failed = f;
    others = refl;
  };
  read = λ r. no_kind (r.stopped f);
  refused_otherwise = λ r. other_kind (r.stopped f);
  refused_further = λ t n r. n r.stays;
  recovered = λ r. not_true r.failed;
  defined = λ d. untrue σ.failed f d.exact.0;
  undefined = record { exact = λ (e, w, r). untrue σ.failed f e; defined = tt; refused = inl (f, refl) };
  undefined_otherwise = λ d. not_more m l.locals σ f d.refused;
}

pub expressions_validated : (m : Meaning) (s : Bytes) (σ : State) → σ.failed ≡ true → ExpressionsValidated m s σ
expressions_validated m s σ f = record {
  refused = record {
    exact = λ (c, spelled, a). untrue σ.failed f a.0;
    stopped = λ e. refl;
    stops = inl (f, refl, refl);
    ended = tt;
    given = refl;
    failed = f;
    saved = refl;
  };
  accepted = λ v. no_kind (v.stopped f);
  refused_otherwise = λ v. other_kind (v.stopped f);
  recovered = λ v. not_true v.failed;
  of_other_features = λ τ e v. let b = ap (λ (w : Given). w.bits) v.given in omega (arith, e, b);
}

pub functions_validated : (m : Meaning) (l : Limits) (s : Bytes) (σ : State) → σ.failed ≡ true → FunctionsValidated m l s σ
functions_validated m l s σ f = record {
  refused = record {
    exact = λ x b. absurd (untrue σ.failed f (ap (λ (t : State). t.failed) b.state));
    accepted = tt;
    over = λ none. tt;
    stopped = λ e. refl;
    stops = inl (inl (f, refl, refl));
    ended = tt;
    failed = f;
    features = refl;
    saved = refl;
  };
  accepted = λ v. no_kind (v.stopped f);
  refused_otherwise = λ v. other_kind (v.stopped f);
  recovered = λ v. not_true v.failed;
  of_other_features = λ τ e v. let b = v.features in omega (arith, e, b);
}

pub operators_tried : (m : Meaning) (σ : State) (o : Op) → σ.failed ≡ true → OperatorsTried m σ o
operators_tried m σ o f = record {
  refused = record {
    decides = λ (os, a). accepts_not_failed m σ (o ∷ os) f a;
    stopped = λ e. refl;
    untouched = λ e. refl;
    given = refl;
    failed = refl;
    saved = refl;
  };
  done = λ t. no_kind (t.stopped f);
  refused_otherwise = λ t. other_kind (t.stopped f);
  touched = λ τ n t. n (t.untouched refl);
  recovered = λ t. turned σ.failed f t.failed;
}

pub frames_closed : (m : Meaning) (l : Limits) (s : Bytes) (σ τ : State) → FramesClosed m l s σ τ
frames_closed m l s σ τ = record { expression = λ n v. n v.ended; body = λ n v. n v.ended; after_the_end = λ none v. v.over none }

pub functions_spelled : (g : Module) (x : ℕ) → FunctionsSpelled g x
unfolding default_limits
functions_spelled g x = record {
  empty = λ t at is. (functions_are no_features g x empty_body (lit≤ tt)).1 (body_rows.empty g x t at is);
  no_type = λ none h. body_rows.no_type no_features g x empty_body none ((functions_are no_features g x empty_body (lit≤ tt)).0 h);
  nothing = λ h. body_rows.nothing no_features g x ((functions_are no_features g x [] (lit≤ tt)).0 h);
  too_many = λ z text h many. let within = h.valid.within in omega (arith, within, many);
  features = refl;
  limits = refl;
}
