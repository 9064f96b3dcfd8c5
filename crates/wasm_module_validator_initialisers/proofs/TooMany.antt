-- Refusals of one item too many.
use Rattle.std.proofs.Common.{◌≡◌, ◌⊎◌, ◌<◌, ℕ, subst, inr, ⊎_elim}
use Rattle.std.proofs.lemmas.Bool.{cases_lt}
use Rattle.wasm_types.specs.decoding.Denials.{Denies, UnlessMemory}
use Rattle.wasm_types.specs.decoding.ErrorValue.{ErrorValue}
use Rattle.wasm_types.specs.decoding.declared.error.ErrorKind.{ErrorKind}
use Rattle.wasm_types.specs.decoding.declared.error.ErrorKind.TheVariants.{Other}
use Rattle.wasm_module_validator_initialisers.specs.segments.Laws.{unless_from}
use Rattle.wasm_module_validator_initialisers.specs.adding.Refusals.{IsOneTooMany}

pub one_too_many : (e : ErrorValue) (there most offset : ℕ) (P : Type 0) → Denies e.kind (there < most) → UnlessMemory e.kind ((e.kind ≡ Other) × (e.offset ≡ offset))
    → UnlessMemory e.kind (P ⊎ IsOneTooMany there most offset e)
one_too_many e there most offset P d h =
    unless_from e.kind ((e.kind ≡ Other) × (e.offset ≡ offset)) (P ⊎ IsOneTooMany there most offset e)
    (λ q. (
    let no : there < most → ⊥ = subst (λ (k : ErrorKind). Denies k (there < most)) q.0 d in
    inr (⊎_elim (λ lt. absurd (no lt)) (λ ge. ge) (cases_lt there most), (q.0, q.1))
    )) h
