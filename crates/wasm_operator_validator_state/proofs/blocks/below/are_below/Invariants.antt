use Rattle.wasm_operator_validator_state.proofs.Each.{AreBelowUpTo}
use Rattle.wasm_operator_validator_state.proofs.blocks.below.are_below.Given as goal

abbrev pub invariant-loop-i : goal.invariant-loop-i
invariant-loop-i g l = AreBelowUpTo (g.R.WasmModuleResources.meaning l.resources) l.found l.expected l.i
