use Rattle.std.proofs.Common.{◌≡◌, ◌∙◌, ◌==◌, false, bit_and, refl, sym, ap, inr}
use Rattle.wasm_types.specs.settings.Features.{has}
use Rattle.wasm_operator_validator_state.specs.State.{State}
use Rattle.wasm_operator_validator_state.specs.laws.Entering.{is_open}
use Rattle.wasm_operator_validator_stacks.proofs.validator.OperatorValidator.begin.Goals as goal

pub returns-then-not-floats-clause-stops : goal.returns-then-not-floats-clause-stops
unfolding has
returns-then-not-floats-clause-stops c =
    let h : (bit_and c.self.inside.features.0 2048 == 2048) ≡ false = sym c.floats.ensures ∙ c.if-not-floats.true in (
      sym (ap (λ (σ : State). σ.failed) c.self.view_is) ∙ c.if-self.false,
      is_open c.args.self.now.opens c.is_done.result c.is_done.ensures c.if-is_done.false,
      (sym (ap (λ (σ : State). bit_and σ.given.bits 2048 == 2048) c.self.view_is) ∙ h, inr (c.if-floats.true, refl)),
    )
