use Rattle.std.proofs.Common.{rules}
use Rattle.wasm_operator_validator_stacks.proofs.fitting.is_same.Goals as goal

pub returns-in-Known : goal.returns-in-Known
returns-in-Known c = search rules
