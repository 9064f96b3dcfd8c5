use Rattle.wasm_operator_validator_resources.specs.Meaning.{reference_in}
use Rattle.wasm_module_validator_resources.specs.Reading.{names_in}
use Rattle.wasm_module_validator_resources.proofs.Finding.{mapped}
use Rattle.wasm_module_validator_resources.proofs.resources.OperatorValidatorResourcesWasmModuleResources.element_type_at.Goals as goal

pub returns : goal.returns
returns c =
    mapped (reference_in (names_in (c.args.self.now.types.now.groups) (c.args.self.now.«module».now.types))) (c.args.self.now.«module».now.elements) c.args.at
    c.element_type_at.result c.element_type_at.ensures
