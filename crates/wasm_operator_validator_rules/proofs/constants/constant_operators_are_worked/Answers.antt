use Rattle.std.proofs.Common.{rules, arith, ◌≡◌, ◌≤◌, true, false, refl}
use Rattle.wasm_types.specs.settings.Features.{has}
use Rattle.wasm_operator_validator_rules.specs.constants.Worked.{number_that}
use Rattle.wasm_operator_validator_rules.proofs.constants.constant_operators_are_worked.Goals as goal

pub returns-clause-globals : goal.returns-clause-globals
unfolding has
returns-clause-globals c = record {
  imported = (number_that false, refl, refl, λ h. absurd (omega (arith, h)));
  variable = search rules;
  own = ((number_that false, refl, refl, λ h. refl), λ (v, found, fixed, needs). (let h : ◌≤◌ 2 2 = omega arith in let e : false ≡ true = needs h in cc));
  unknown = search rules;
  local = search rules;
}
