use Rattle.wasm_operator_validator_resources.specs.Answers.{has}
use Rattle.std.proofs.Common.{rules}
use Rattle.wasm_operator_validator_resources.proofs.gates.check_kind.Goals as goal

pub returns-in-Exn-clause-missing : goal.returns-in-Exn-clause-missing
unfolding has
returns-in-Exn-clause-missing c = search rules
