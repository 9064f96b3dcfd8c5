-- The rows of `States`.
use Rattle.std.proofs.Common.{◌≡◌, ℕ, true, false, List, [], ◌∷◌, Option, Some, None, refl, ap, arith}
use Rattle.wasm_types.specs.settings.declared.WasmFeatures.{WasmFeatures}
use Rattle.wasm_types.specs.decoding.declared.error.ErrorKind.{ErrorKind}
use Rattle.wasm_types.specs.decoding.declared.error.ErrorKind.TheVariants.{Failed, Other}
use Rattle.wasm_operators_immediates.specs.declared.proposal.Proposal.TheVariants.{Mvp}
use Rattle.wasm_operators_enums.specs.Op.{Op}
use Rattle.wasm_operator_validator_state.specs.resources.Meaning.{Meaning, type_in}
use Rattle.wasm_operator_validator_state.specs.State.{Given, Saved, Accepts, Decides, Checks}
use Rattle.wasm_operator_validator_state.specs.Entering.{MayBegin}
use Rattle.wasm_operator_validator_state.specs.worked.Bodies.{end}
use Rattle.wasm_operator_validator_state.specs.laws.Accepting.{accepts_nothing, accepts_not_failed, ends}
use Rattle.wasm_operator_validator_state.specs.laws.Checks.{visits_unrefused, visits_refused}
use Rattle.wasm_operator_validator_state.specs.laws.Entering.{nothing_asked}
use Rattle.wasm_operator_validator_stacks.specs.determined.Operators.{IsPlain}
use Rattle.wasm_operator_validator_stacks.specs.determined.laws.Determined.{by_types, unchanged}
use Rattle.wasm_operator_validator_stacks.specs.determined.laws.Same.{stays_refl}
use Rattle.wasm_operator_validator_tests.specs.States.{RefusalsTold, AnswersDo, KindsOfRefusals, NamesOfTypes, UsesRows, nop, empty, unfinished, failed, ChecksRows, VisitsRows}

-- ---- refusals, and what may be used

pub refusals_told : (f : WasmFeatures) → RefusalsTold f
refusals_told f = record {
  none = refl;
  content = refl;
  memory = refl;
  no_error = refl;
  error = refl;
  at_end_of_data = λ x. x;
  at_feature = λ x. x;
  at_memory = tt;
  at_failed = λ x. x;
  at_other = tt;
  at_other_not = λ x. x;
  is_of_content = tt;
  is_of_feature = tt;
  is_of_memory = λ x. x;
}

pub answers_do : AnswersDo
answers_do = record { done = tt; not_done = λ x. x; impossible = λ x. x; possible = λ n. n tt; memory = tt }

pub kinds_of_refusals : (f : WasmFeatures) → KindsOfRefusals f
kinds_of_refusals f = record { end_of_data = refl; feature = refl; memory = refl; failed = refl; other = refl }

pub names_of_types : NamesOfTypes
names_of_types = record { i32 = refl; i64 = refl; f32 = refl; f64 = refl; v128 = refl; reference = refl }

untrue : false ≡ true → ⊥
untrue e = absurd cc

pub uses_rows : UsesRows
uses_rows = record {
  unshared = λ e. absurd (untrue e);
  shared = λ e. refl;
  not_shared = λ h. untrue (h refl);
  named = (refl, λ e. refl);
  not_named = λ h. let e = h.0 in absurd cc;
  another = λ h. let e : ◌≡◌ {A = Option ℕ} (Some 3) (Some 4) = h.0 in let n : ◌≡◌ {A = ℕ} 3 4 = cc in omega (arith, n);
  not_usable = λ h. untrue (h.1 refl);
}

-- ---- checks and visits

nop_is : IsPlain nop Mvp false
nop_is = record { of = refl; named = refl; plain = refl }

begins : MayBegin empty Mvp false
begins = record { going = refl; framed = tt; allowed = nothing_asked 0; float = λ e. absurd (untrue e) }

passed : (m : Meaning) → Checks m empty nop None empty
passed m = by_types None m empty empty nop Mvp false [] [] nop_is begins (λ set. refl) (λ p q. (λ c. c, λ c. c)) (unchanged m empty tt) (stays_refl empty)

ended : (m : Meaning) → Accepts m empty (end ∷ [])
ended m = (ends m empty [] tt).1 (refl, tt, tt, refl)

-- behind an `end` more is accepted than an `end`
not_decided : (m : Meaning) → Decides m empty end None empty → ⊥
not_decided m d = let e = ((accepts_nothing m empty).0 ((d []).0 (ended m))).1 in absurd cc

not_finished : (m : Meaning) (os : List Op) → Accepts m unfinished (end ∷ os) → ⊥
unfolding type_in
not_finished m os a = ((ends m unfinished os tt).0 a).1

refused : (m : Meaning) → Checks m unfinished end (Some Other) unfinished
refused m = record { decides = λ (os, a). not_finished m os a; stopped = λ e. absurd (untrue e); given = refl; failed = refl; saved = refl }

other_features : (w : Given) → w ≡ empty.given → w.bits ≡ 1 → ⊥
other_features w e b = let n = ap (λ (x : Given). x.bits) e in omega (arith, n, b)

other_saved : (w : Saved) → w ≡ empty.saved → w.failed ≡ true → ⊥
other_saved w e b = let n = ap (λ (x : Saved). x.failed) e in absurd cc

other_kind : ◌≡◌ {A = Option ErrorKind} (Some Other) (Some Failed) → ⊥
other_kind e = absurd cc

no_kind : ◌≡◌ {A = Option ErrorKind} None (Some Failed) → ⊥
no_kind e = absurd cc

pub checks_rows : (m : Meaning) → ChecksRows m
checks_rows m = record {
  passed = passed m;
  not_decided = λ c. not_decided m c.decides;
  refused = refused m;
  not_refused = λ c. c.decides (end ∷ [], ((passed m).decides (end ∷ [])).1 (ended m));
  out_of_memory = record { decides = tt; stopped = λ e. absurd (untrue e); given = refl; failed = refl; saved = refl };
  after_refusal = record { decides = λ (os, a). accepts_not_failed m (failed empty) (nop ∷ os) refl a; stopped = λ e. refl; given = refl; failed = refl; saved = refl };
  not_after_refusal = λ c. no_kind (c.stopped refl);
  not_otherwise = λ c. other_kind (c.stopped refl);
  no_other_features = λ c. other_features _ c.given refl;
  not_failed = λ c. untrue (sym_of c.failed);
  nothing_saved = λ c. other_saved _ c.saved refl;
}
  where
    sym_of : true ≡ false → false ≡ true
    sym_of e = absurd cc

pub visits_rows : (m : Meaning) → VisitsRows m
visits_rows m = record {
  passed = visits_unrefused m empty empty nop (passed m);
  not_decided = λ v. not_decided m v.decides;
  refused = visits_refused Other m unfinished unfinished (failed unfinished) end (refused m) refl;
  not_going_on = λ v. untrue v.failed;
  not_failed = λ v. turned v.failed;
  not_otherwise = λ v. other_kind (v.stopped refl);
  no_other_features = λ v. other_features _ v.given refl;
  nothing_saved = λ v. other_saved _ v.saved refl;
}
  where
    turned : true ≡ false → ⊥
    turned e = absurd cc
