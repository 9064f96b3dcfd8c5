-- The rows of `Methods`.
use Rattle.std.proofs.Common.{◌≡◌, ◌⊎◌, inl, inr, ℕ, List, [], ◌∷◌, true, false, Option, Some, None, Result, Ok, Err, refl, sym, ap, arith}
use Rattle.wasm_types.specs.decoding.Decoder.{State as Bytes}
use Rattle.wasm_types.specs.decoding.ErrorValue.{ErrorValue}
use Rattle.wasm_types.specs.decoding.declared.error.ErrorKind.{ErrorKind}
use Rattle.wasm_types.specs.decoding.declared.error.ErrorKind.TheVariants as kinds
use Rattle.wasm_module_validator_section_order.specs.sections_below.declared.payload.Payload.TheVariants as payloads
use Rattle.wasm_module_validator_section_order.specs.sections_below.Payloads.{set}
use Rattle.wasm_module_validator.specs.drivers.Sharing.{Reached, Handed}
use Rattle.wasm_module_validator.specs.declared.validator.Validator.{Validator}
use Rattle.wasm_module_validator.specs.declared.validator.State.{State}
use Rattle.wasm_module_validator.specs.declared.validator.State.TheVariants.{Unparsed, Module, Ended, Failed}
use Rattle.wasm_module_validator.specs.declared.payloads.ValidPayload.TheVariants as valid
use Rattle.wasm_module_validator.specs.Shown.{Learned}
use Rattle.wasm_module_validator.specs.Payloads.{passed, with_body, ended}
use Rattle.wasm_operator_validator_state.specs.Refusals.{refused_by}
use Rattle.wasm_types.specs.decoding.Denials.{Tells}
use Rattle.wasm_module_validator_tests.specs.Methods.{Turns, at, for_content, for_memory, failed_before, begun, HeadersRead, before_code, within_code, SectionsTaken, EndsRows, Known, Answers, PayloadsTaken}

pub turns : Turns
turns = record {
  failed = refl;
  failed_late = refl;
  unparsed = refl;
  ended = refl;
  in_turn = refl;
  late = refl;
  header_failed = refl;
  header_first = refl;
  header_again = refl;
  header_behind = refl;
  fails = refl;
  fails_not = refl;
  fails_not_within = refl;
  fails_not_behind = refl;
  reset_first = refl;
  reset_behind = refl;
  reset_within = refl;
  reset_failed = refl;
}

-- ---- kinds, and states

no_kind : (k : ErrorKind) → ◌≡◌ {A = Option ErrorKind} (Some k) None → ⊥
no_kind k e = absurd cc

none_is : (k : ErrorKind) → ◌≡◌ {A = Option ErrorKind} None (Some k) → ⊥
none_is k e = absurd cc

other_failed : ◌≡◌ {A = Option ErrorKind} (Some kinds.Other) (Some kinds.Failed) → ⊥
other_failed e = absurd cc

same_kind : (k l : ErrorKind) → ◌≡◌ {A = Option ErrorKind} (Some k) (Some l) → k ≡ l
same_kind k l e = cc

-- a validator is no other far
module _ (v w : Validator) (e : v ≡ w) where
  module_unparsed : v.state ≡ Module → w.state ≡ Unparsed → ⊥
  module_unparsed a b = let f = ap (λ (x : Validator). x.state) e in absurd cc

  module_failed : v.state ≡ Module → w.state ≡ Failed → ⊥
  module_failed a b = let f = ap (λ (x : Validator). x.state) e in absurd cc

  module_ended : v.state ≡ Module → w.state ≡ Ended → ⊥
  module_ended a b = let f = ap (λ (x : Validator). x.state) e in absurd cc

  unparsed_ended : v.state ≡ Unparsed → w.state ≡ Ended → ⊥
  unparsed_ended a b = let f = ap (λ (x : Validator). x.state) e in absurd cc

pub headers_read : (v : Validator) → HeadersRead v
headers_read v = record {
  read = record { out = λ k e. absurd (none_is k e); told = λ e. (refl, refl); left = λ e. refl };
  of_another_version = λ h. let (n, l) = h.told refl in omega (arith, n);
  of_another_layer = λ h. let (n, l) = h.told refl in omega (arith, l);
  refused = record { out = λ k e. absurd (none_is k e); told = λ e (n, l). omega (arith, n); left = λ e. refl };
  refused_wrongly = λ h. h.told refl (refl, refl);
  refused_and_going = λ h. module_failed _ _ (h.left refl) refl refl;
  not_begun = λ h. module_unparsed _ _ (sym (h.left refl)) refl refl;
  again = record { out = λ k e. (e, refl); told = λ e. absurd (no_kind _ e); left = λ e. absurd (no_kind _ e) };
  again_failed = λ h. module_failed _ _ (sym (h.out kinds.Other refl).1) refl refl;
  again_read = λ h. none_is _ (h.out kinds.Other refl).0;
  after_failure = record { out = λ k e. (e, refl); told = λ e. absurd (no_kind _ e); left = λ e. absurd (no_kind _ e) };
  after_failure_otherwise = λ h. other_failed (h.out kinds.Failed refl).0;
}

-- ---- sections

more_bodies : (r : Reached) (n : ℕ) → r.code ≡ Some n → r.code ≡ None → ⊥
more_bodies r n e f = absurd cc

pub sections_taken : (v : Validator) (c : _) (b : Bytes) → SectionsTaken v c b
sections_taken v c b = record {
  late = record { out = λ k e. (e, refl); told = λ e. absurd (no_kind _ e); left = λ e. absurd (no_kind _ e) };
  late_failed = λ h. module_failed _ _ (sym (h.out kinds.Other refl).1) refl refl;
  late_taken = λ h. none_is _ (h.out kinds.Other refl).0;
  early = record { out = λ k e. (e, refl); told = λ e. absurd (no_kind _ e); left = λ e. absurd (no_kind _ e) };
  failed = record { out = λ k e. (e, refl); told = λ e. absurd (no_kind _ e); left = λ e. absurd (no_kind _ e) };
  failed_otherwise = λ h. other_failed (h.out kinds.Failed refl).0;
  refused_and_going = λ h. module_failed _ _ (h.left refl) refl refl;
  data_late = λ h. module_failed _ _ (h.left refl) refl refl;
  data_early = record { out = λ k e. (e, refl); told = λ e. absurd (no_kind _ e); left = λ e. absurd (no_kind _ e) };
  code_twice = record { out = λ k e. (e, refl); told = λ e. absurd (no_kind _ e); left = λ e. absurd (no_kind _ e) };
  code_twice_taken = λ h. none_is _ (h.out kinds.Other refl).0;
  code_unbegun = λ h. let e = (h.left refl).1 in absurd cc;
  code_refused = record { out = λ k e. absurd (none_is k e); told = λ e z p r. tt; left = λ e. refl };
  code_refused_and_going = λ h. module_failed _ _ (h.left refl) refl refl;
  body_early = record { out = λ k e. (e, refl); told = λ e. absurd (no_kind _ e); left = λ e. absurd (no_kind _ e) };
  body_early_failed = λ h. module_failed _ _ (sym (h.out kinds.Other refl).1) refl refl;
  body_lacking = record { out = λ k e. absurd (none_is k e); told = λ e z p r. tt; left = λ e. inr (refl, tt) };
  body_lacking_and_going = λ h. going (h.left refl);
  unknown = record { out = λ k e. absurd (none_is k e); told = λ e. refl; left = λ e. refl };
  unknown_going = λ h. module_failed _ _ (h.left refl) refl refl;
  unknown_taken = λ h. none_is _ (h.told refl);
  unknown_failed = record { out = λ k e. (e, refl); told = λ e. absurd (no_kind _ e); left = λ e. absurd (no_kind _ e) };
}
  where
    going : {P : Type 0} → (P × (kinds.OutOfMemory ≡ kinds.Other) × (within_code Module v ≡ within_code Module v)) ⊎ ((within_code Module v ≡ record (within_code Module v) { state = Failed }) × Unit {0}) → ⊥
    going (inl h) = let e = h.1 in absurd cc
    going (inr h) = module_failed _ _ h.0 refl refl

-- ---- ends

pub ends_rows : (v : Validator) → EndsRows v
ends_rows v = record {
  ended = (refl, refl);
  going_on = λ h. module_ended _ _ h.1 refl refl;
  of_another = λ l n h. n h.0;
  lacking = (refl, refl);
  refused = λ h. let e = h.0 in absurd cc;
  none = (refl, refl);
  none_going_on = λ h. unparsed_ended _ _ h.1 refl refl;
  twice = (refl, refl);
  twice_given = λ l h. none_is _ h.0;
  failed = (refl, refl);
  failed_otherwise = λ h. other_failed h.0;
  kept_within = λ h. h;
  kept_unparsed = λ h. h;
  kept_failed = tt;
}

pub known : (v : Validator) → Known v
known v = record {
  of_its_id = refl;
  within = refl;
  further = refl;
  before = refl;
  behind = refl;
  failed = refl;
  id_shown = refl;
  groups_shown = refl;
  spaces_shown = refl;
  imports_shown = refl;
  exports_shown = refl;
}

-- ---- payloads

pub answers : (b : Bytes) (f : Handed) (l : Learned) → Answers b f l
answers b f l = record {
  passed_on = refl;
  passed_refused = refl;
  handed = refl;
  handed_refused = refl;
  ended_with = refl;
  ended_refused = refl;
}

pub payloads_taken : (v : Validator) (c : _) (n : ℕ) (r : _) → PayloadsTaken v c n r
payloads_taken v c n r = record {
  custom = (Ok tt, refl, (refl, refl));
  custom_first = (Ok tt, refl, (refl, refl));
  custom_failed = (Err failed_before, refl, (refl, refl));
  custom_ignored = λ h. passed_on h.0 h.1 h.2.0;
  custom_refused = λ h. refused_so h.0 h.1 h.2.0;
  header = (Ok tt, refl, record { out = λ k e. absurd (none_is k e); told = λ e. (refl, refl); left = λ e. refl });
  header_of_another = λ h. version h.0 h.1 (h.2.told refl);
  end = (Ok _, refl, (refl, refl));
  end_passed = λ h. no_end h.0 h.1;
  unknown = λ i x. (Err for_content, refl, record { out = λ k e. absurd (none_is k e); told = λ e. refl; left = λ e. refl });
  unknown_passed = λ i x h. taken h.0 h.1 (h.2.told refl);
  body_by_others = λ b f w other h. other (handed_so b f h.0 h.1);
}
  where
    passed_on : (p : Result (Unit {0}) ErrorValue) → Ok valid.Ok ≡ passed p → refused_by p ≡ Some kinds.Failed → ⊥
    passed_on (Ok u) e f = absurd cc
    passed_on (Err x) e f = absurd cc

    refused_so : (p : Result (Unit {0}) ErrorValue) → Err for_content ≡ passed p → refused_by p ≡ None → ⊥
    refused_so (Ok u) e f = absurd cc
    refused_so (Err x) e f = absurd cc

    version : (p : Result (Unit {0}) ErrorValue) → Ok valid.Ok ≡ passed p → Tells p (◌≡◌ {A = ℕ} 2 1 × ◌≡◌ {A = ℕ} 0 0) → ⊥
    version (Ok u) e t = let n : ◌≡◌ {A = ℕ} 2 1 = t.0 in omega (arith, n)
    version (Err x) e t = absurd cc

    no_end : (p : Result Learned ErrorValue) → Ok valid.Ok ≡ ended p → ⊥
    no_end (Ok l) e = absurd cc
    no_end (Err x) e = absurd cc

    taken : (p : Result (Unit {0}) ErrorValue) → Ok valid.Ok ≡ passed p → refused_by p ≡ Some kinds.Other → ⊥
    taken (Ok u) e f = absurd cc
    taken (Err x) e f = absurd cc

    handed_so : (b : Bytes) (f : Handed) (h : Result Handed ErrorValue) → Ok (valid.Func f b) ≡ with_body (set v.settings b) h → b.settings ≡ v.settings
    handed_so b f (Ok g) e = let same : b ≡ set v.settings b = cc in ap (λ (s : Bytes). s.settings) same
    handed_so b f (Err x) e = absurd cc
