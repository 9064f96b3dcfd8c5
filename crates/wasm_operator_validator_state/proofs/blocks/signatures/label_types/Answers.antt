use Rattle.std.proofs.Common.{rules}
use Rattle.wasm_operator_validator_state.proofs.blocks.signatures.label_types.Goals as goal

pub returns-in-Loop : goal.returns-in-Loop
returns-in-Loop c = search rules

pub returns-in-Block : goal.returns-in-Block
returns-in-Block c = search rules
