use Rattle.std.proofs.Common.{rules}
use Rattle.wasm_operator_validator_constants.proofs.globals.check_global.Goals as goal

pub returns-then-global-clause-refused : goal.returns-then-global-clause-refused
returns-then-global-clause-refused c = search rules

pub returns-clause-constant : goal.returns-clause-constant
returns-clause-constant c = search rules

pub returns-then-global-clause-constant : goal.returns-then-global-clause-constant
returns-then-global-clause-constant c = search rules
