use Rattle.wasm_module_validator_rules.proofs.WorkedFunctions.{blocks_worked, locals_worked, else_worked}
use Rattle.wasm_module_validator_rules.proofs.worked.functions_are_worked.Goals as goal

pub returns-clause-blocks : goal.returns-clause-blocks
returns-clause-blocks c = blocks_worked

pub returns-clause-locals : goal.returns-clause-locals
returns-clause-locals c = locals_worked

pub returns-clause-others : goal.returns-clause-others
returns-clause-others c = else_worked
