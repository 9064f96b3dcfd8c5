use Rattle.std.proofs.Common.{length}
use Rattle.wasm_module_validator_fast_constants.proofs.Making.{TakesRest}
use Rattle.wasm_module_validator_fast_constants.proofs.fields.take_fields.Given as goal

abbrev pub invariant-loop-last : goal.invariant-loop-last
invariant-loop-last g l =
    let m = g.R.WasmModuleResources.meaning l.resources in TakesRest m l.fn.stack.items l.fields l.stack.items l.left

abbrev pub decreases-loop-last : goal.decreases-loop-last
decreases-loop-last g l = length l.left
