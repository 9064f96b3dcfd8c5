use Rattle.std.proofs.Common.{refl}
use Rattle.wasm_module_validator_rules_in_order.specs.laws.Places.{has_place, no_other_places}
use Rattle.wasm_module_validator_rules_in_order.specs.laws.Fronts.{one_place}
use Rattle.wasm_module_validator_rules_in_order.proofs.laws.sections_have_places.Goals as goal

pub returns-clause-places : goal.returns-clause-places
returns-clause-places c = has_place

pub returns-clause-code : goal.returns-clause-code
returns-clause-code c = refl

pub returns-clause-one : goal.returns-clause-one
returns-clause-one c = one_place

pub returns-clause-others : goal.returns-clause-others
returns-clause-others c = no_other_places
