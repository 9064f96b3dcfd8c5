use Rattle.wasm_module_validator_rules_in_order.specs.contexts.laws.Constants.{constant_agrees}
use Rattle.wasm_module_validator_rules_in_order.specs.contexts.laws.Numbers.{number_names_none}
use Rattle.wasm_module_validator_rules_in_order.proofs.contexts.laws.constants_look_at.Goals as goal

pub returns-clause-constants : goal.returns-clause-constants
returns-clause-constants c = constant_agrees

pub returns-clause-numbers : goal.returns-clause-numbers
returns-clause-numbers c = number_names_none
