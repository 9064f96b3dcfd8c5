use Rattle.wasm_module_validator_rules_in_order.specs.laws.Within.{nothing_is_within, within_up_to, within_before}
use Rattle.wasm_module_validator_rules_in_order.proofs.laws.fronts_are_within_limits.Goals as goal

pub returns-clause-nothing : goal.returns-clause-nothing
returns-clause-nothing c = nothing_is_within

pub returns-clause-up_to : goal.returns-clause-up_to
returns-clause-up_to c = within_up_to

pub returns-clause-before : goal.returns-clause-before
returns-clause-before c = within_before
