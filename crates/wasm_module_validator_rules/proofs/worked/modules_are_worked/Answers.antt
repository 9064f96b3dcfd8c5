use Rattle.wasm_module_validator_rules.proofs.WorkedModules.{functions_worked, spaces_worked, globals_worked, segments_worked, limits_worked, context_worked}
use Rattle.wasm_module_validator_rules.proofs.worked.modules_are_worked.Goals as goal

pub returns-clause-functions : goal.returns-clause-functions
returns-clause-functions c = functions_worked

pub returns-clause-spaces : goal.returns-clause-spaces
returns-clause-spaces c = spaces_worked

pub returns-clause-globals : goal.returns-clause-globals
returns-clause-globals c = globals_worked

pub returns-clause-segments : goal.returns-clause-segments
returns-clause-segments c = segments_worked

pub returns-clause-limits : goal.returns-clause-limits
returns-clause-limits c = limits_worked

pub returns-clause-context : goal.returns-clause-context
returns-clause-context c = context_worked
