use Rattle.std.proofs.Common.{length}
use Rattle.wasm_operator_validator_stacks.proofs.Popping.{Leads}
use Rattle.wasm_operator_validator_stacks.proofs.validator.OperatorValidator.pop_operands.Given as goal

abbrev pub invariant-loop-last : goal.invariant-loop-last
invariant-loop-last g l = Leads (g.R.WasmModuleResources.meaning l.resources) l.fn.self l.types l.self l.left

abbrev pub decreases-loop-last : goal.decreases-loop-last
decreases-loop-last g l = length l.left
