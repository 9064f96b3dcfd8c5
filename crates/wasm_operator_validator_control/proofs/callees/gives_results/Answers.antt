use Rattle.std.proofs.Common.{rules}
use Rattle.wasm_operator_validator_control.proofs.callees.gives_results.Goals as goal

pub returns : goal.returns
returns g c = search rules
