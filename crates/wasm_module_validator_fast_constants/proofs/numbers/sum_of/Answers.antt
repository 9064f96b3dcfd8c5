use Rattle.std.proofs.Common.{◌≡◌, ℕ, Bool, nat_lt, true, false, None, [], ◌∷◌, sym, refl, subst, ltb-true}
use Rattle.wasm_types.specs.settings.Features.{ExtendedConst}
use Rattle.wasm_types.specs.trees.Gates.{Has}
use Rattle.wasm_types.specs.trees.Types.{number}
use Rattle.wasm_operators_immediates.specs.declared.proposal.Proposal.TheVariants.{Mvp}
use Rattle.wasm_operators_enums.specs.declared.numeric.NumericOperator.{NumericOperator}
use Rattle.wasm_operators_enums.specs.declared.numeric.NumericOperator.TheVariants as numeric
use Rattle.wasm_operators_enums.specs.numbers.Table.{numeric_info}
use Rattle.wasm_operators_enums.specs.Op as op
use Rattle.wasm_operator_validator_rules.specs.Numbers.{class_of, taken_by, given_by, numbers}
use Rattle.wasm_operator_validator_rules.specs.Row.{names_float}
use Rattle.wasm_operator_validator_rules.specs.constants.Constants.{IsConstantNumber}
use Rattle.wasm_module_validator_fast_constants.specs.Steps.{integer, IsSum}
use Rattle.wasm_module_validator_fast_constants.proofs.numbers.sum_of.Goals as goal

coded : (code n : ℕ) (wide : Bool) (o : NumericOperator) → code ≡ n → nat_lt n 0xfb ≡ true → (numeric_info o).code ≡ n → (numeric_info o).prefix ≡ None → (numeric_info o).proposal ≡ Mvp
    → names_float (op.Numeric o) ≡ false → ((bits : ℕ) → Has bits ExtendedConst → IsConstantNumber bits o)
    → numbers (taken_by (class_of o)) ≡ number (integer wide) ∷ number (integer wide) ∷ [] → numbers (given_by (class_of o)) ≡ number (integer wide) ∷ [] → IsSum code wide
coded code n wide o is low there bare of no_float constant taken given = subst (λ (k : ℕ). IsSum k wide) (sym is)
    (record {
      operator = o;
      low = ltb-true n 0xfb low;
      code_is = there;
      prefix_is = bare;
      proposal_is = of;
      no_float = no_float;
      constant = constant;
      taken = taken;
      given = given;
    })

pub returns-in-106 : goal.returns-in-106
returns-in-106 c = coded c.args.code 106 false numeric.I32Add c.in-106.is refl refl refl refl refl (λ bits h. h) refl refl

pub returns-in-107 : goal.returns-in-107
returns-in-107 c = coded c.args.code 107 false numeric.I32Sub c.in-107.is refl refl refl refl refl (λ bits h. h) refl refl

pub returns-in-108 : goal.returns-in-108
returns-in-108 c = coded c.args.code 108 false numeric.I32Mul c.in-108.is refl refl refl refl refl (λ bits h. h) refl refl

pub returns-in-124 : goal.returns-in-124
returns-in-124 c = coded c.args.code 124 true numeric.I64Add c.in-124.is refl refl refl refl refl (λ bits h. h) refl refl

pub returns-in-125 : goal.returns-in-125
returns-in-125 c = coded c.args.code 125 true numeric.I64Sub c.in-125.is refl refl refl refl refl (λ bits h. h) refl refl

pub returns-in-126 : goal.returns-in-126
returns-in-126 c = coded c.args.code 126 true numeric.I64Mul c.in-126.is refl refl refl refl refl (λ bits h. h) refl refl
