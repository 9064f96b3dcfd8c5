use Rattle.wasm_types_trees.proofs.WorkedGateProofs.{gated}
use Rattle.wasm_types_trees.proofs.worked.features_gate_worked_types.Goals as goal

pub returns : goal.returns
returns c = gated
