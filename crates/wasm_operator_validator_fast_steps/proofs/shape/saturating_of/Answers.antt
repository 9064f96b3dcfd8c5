-- Each saturating conversion has its types.
use Rattle.std.proofs.Common.{refl}
use Rattle.wasm_operators_enums.specs.declared.numeric.NumericOperator.TheVariants as numeric
use Rattle.wasm_operator_validator_fast_steps.proofs.Coded.{coded_saturating}
use Rattle.wasm_operator_validator_fast_steps.proofs.shape.saturating_of.Goals as goal

pub returns-in-0 : goal.returns-in-0
returns-in-0 c = coded_saturating numeric.I32TruncSatF32S c.in-0.is refl refl refl refl (λ ids. refl) (λ ids. refl)

pub returns-in-1 : goal.returns-in-1
returns-in-1 c = coded_saturating numeric.I32TruncSatF32U c.in-1.is refl refl refl refl (λ ids. refl) (λ ids. refl)

pub returns-in-2 : goal.returns-in-2
returns-in-2 c = coded_saturating numeric.I32TruncSatF64S c.in-2.is refl refl refl refl (λ ids. refl) (λ ids. refl)

pub returns-in-3 : goal.returns-in-3
returns-in-3 c = coded_saturating numeric.I32TruncSatF64U c.in-3.is refl refl refl refl (λ ids. refl) (λ ids. refl)

pub returns-in-4 : goal.returns-in-4
returns-in-4 c = coded_saturating numeric.I64TruncSatF32S c.in-4.is refl refl refl refl (λ ids. refl) (λ ids. refl)

pub returns-in-5 : goal.returns-in-5
returns-in-5 c = coded_saturating numeric.I64TruncSatF32U c.in-5.is refl refl refl refl (λ ids. refl) (λ ids. refl)

pub returns-in-6 : goal.returns-in-6
returns-in-6 c = coded_saturating numeric.I64TruncSatF64S c.in-6.is refl refl refl refl (λ ids. refl) (λ ids. refl)

pub returns-in-7 : goal.returns-in-7
returns-in-7 c = coded_saturating numeric.I64TruncSatF64U c.in-7.is refl refl refl refl (λ ids. refl) (λ ids. refl)
