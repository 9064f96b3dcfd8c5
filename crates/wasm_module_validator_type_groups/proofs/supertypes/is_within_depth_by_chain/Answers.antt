use Rattle.std.proofs.Common.{rules}
use Rattle.wasm_module_validator_type_groups.proofs.supertypes.is_within_depth_by_chain.Goals as goal

pub chain-init : goal.chain-init
chain-init c = search rules
