use Rattle.std.proofs.Common.{rules}
use Rattle.wasm_operator_validator_state.proofs.blocks.block_type.check_block_type.Goals as goal

pub returns-in-Ok : goal.returns-in-Ok
returns-in-Ok c = search rules
