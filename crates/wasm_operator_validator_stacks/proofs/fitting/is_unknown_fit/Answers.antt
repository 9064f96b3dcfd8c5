use Rattle.wasm_operator_validator_stacks.proofs.Fits.{reference_fit}
use Rattle.wasm_operator_validator_stacks.proofs.fitting.is_unknown_fit.Goals as goal

pub returns-in-None : goal.returns-in-None
returns-in-None g c =
    rw c.in-None.is
    (reference_fit (g.R.WasmModuleResources.meaning c.args.resources.now) c.args.expected.now c.is_reference_type.result c.is_reference_type.ensures)
