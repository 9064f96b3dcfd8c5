-- Calls in turn and out of turn.
use Rattle.std.proofs.Common.{◌≡◌, ◌∙◌, ℕ, Bool, true, false, Option, Some, None, Result, Err, refl, sym, subst}
use Rattle.std.specs.Prelude.{is_some}
use Rattle.wasm_types.specs.decoding.ErrorValue.{ErrorValue}
use Rattle.wasm_types.specs.decoding.declared.error.ErrorKind.{ErrorKind}
use Rattle.wasm_module_validator.specs.declared.validator.Validator.{Validator}
use Rattle.wasm_module_validator_drivers.specs.Sharing.{has_no_code}
use Rattle.wasm_module_validator_drivers.specs.payloads.Progress.{Kept, Grows}
use Rattle.wasm_module_validator_drivers.specs.payloads.laws.Growing.{grows_by_nothing}
use Rattle.wasm_module_validator.specs.declared.validator.State.{State}
use Rattle.wasm_module_validator.specs.declared.validator.State.TheVariants.{Unparsed, Module, Ended, Failed}
use Rattle.wasm_module_validator.specs.Methods.{InTurn, refusal}

no_kind : (k : ErrorKind) → Some k ≡ None → ⊥
no_kind k e = absurd cc

-- a call that is refused because of when it comes
pub out_of_turn : {X : Type 0} (turn : Option ErrorKind) (v : Validator) (e : ErrorValue) (Told Left : Type 0) → Some e.kind ≡ turn
    → InTurn {X = X} turn v (Err e) v Told Left
out_of_turn turn v e Told Left is = record {
  out = λ k h. (is ∙ h, refl);
  told = λ none. absurd (no_kind e.kind (is ∙ none));
  left = λ none. absurd (no_kind e.kind (is ∙ none));
}

-- one that is in turn
pub in_turn : {X : Type 0} (turn : Option ErrorKind) (v : Validator) (answer : Result X ErrorValue) (w : Validator) (Told Left : Type 0) → None ≡ turn → Told → Left
    → InTurn turn v answer w Told Left
in_turn turn v answer w Told Left is told left = record {
  out = λ k h. absurd (no_kind k (sym h ∙ sym is));
  told = λ none. told;
  left = λ none. left;
}

-- ---- which turn it is

pub turn_is : (s : State) (fits : Bool) → None ≡ refusal s fits → (s ≡ Module) × (fits ≡ true)
turn_is Unparsed fits e = absurd cc
turn_is Module true e = (refl, refl)
turn_is Module false e = absurd cc
turn_is Ended fits e = absurd cc
turn_is Failed fits e = absurd cc

-- ---- whether the code has begun

pub no_code : (o : Option ℕ) → has_no_code o ≡ true → o ≡ None
no_code None e = refl
no_code (Some n) e = absurd cc

pub not_begun : (o : Option ℕ) → is_some o ≡ false → has_no_code o ≡ true
not_begun None e = refl
not_begun (Some n) e = absurd cc

-- ---- what is kept

pub stays_as : {k l : Kept} → l ≡ k → Grows k l
stays_as {k} e = subst (λ (j : Kept). Grows k j) (sym e) (grows_by_nothing k)
