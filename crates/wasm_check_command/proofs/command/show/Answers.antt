use Rattle.std.proofs.Common.{rules}
use Rattle.wasm_check_command.proofs.command.show.Goals as goal

pub returns-clause-help : goal.returns-clause-help
returns-clause-help c = search rules
