use Rattle.wasm_module_validator_rules_in_order.specs.contexts.laws.InOrder.{may_refer_so_far, valid_in_order, valid_by_order}
use Rattle.wasm_module_validator_rules_in_order.proofs.contexts.laws.modules_are_judged_in_order.Goals as goal

pub returns-clause-exact : goal.returns-clause-exact
returns-clause-exact c = λ z m. (valid_in_order z m, valid_by_order z m)

pub returns-clause-referring : goal.returns-clause-referring
returns-clause-referring c = may_refer_so_far
