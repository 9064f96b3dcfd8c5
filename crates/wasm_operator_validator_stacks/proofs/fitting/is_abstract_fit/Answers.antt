use Rattle.wasm_operator_validator_stacks.proofs.Fits.{abstract_fit}
use Rattle.wasm_operator_validator_stacks.proofs.fitting.is_abstract_fit.Goals as goal

pub returns : goal.returns
returns g c = abstract_fit (g.R.WasmModuleResources.meaning c.args.resources.now) c.in-Some.reference c.args.shared c.args.ty c.args.expected.now c.is_subtype.result c.in-Some.ensures.value c.is_subtype.ensures
