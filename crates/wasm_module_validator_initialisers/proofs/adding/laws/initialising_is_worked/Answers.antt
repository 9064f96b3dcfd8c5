use Rattle.std.proofs.Common.{refl, rules, arith, inr}
use Rattle.wasm_types.specs.settings.Features.{has}
use Rattle.wasm_module_validator_initialisers.proofs.adding.laws.initialising_is_worked.Goals as goal

pub returns : goal.returns
unfolding has
returns c z = record {
  referred = refl;
  referred_in_none = refl;
  none_named = refl;
  none_named_more = search rules;
  too_many = search rules;
  not_too_many = search rules;
  elsewhere = search rules;
  otherwise = search rules;
  no_global = λ x. inr (omega arith, (refl, refl));
  no_table = λ x. inr (omega arith, (refl, refl));
  no_element = λ x. inr (omega arith, (refl, refl));
}
