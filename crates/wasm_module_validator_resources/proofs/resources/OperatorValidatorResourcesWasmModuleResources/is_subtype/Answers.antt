use Rattle.wasm_operator_validator_resources.specs.Meaning.{type_in}
use Rattle.wasm_module_validator_resources.proofs.resources.OperatorValidatorResourcesWasmModuleResources.is_subtype.Goals as goal

pub returns : goal.returns
unfolding type_in
returns c = c.value_is_below.ensures
