use Rattle.std.proofs.Common.{◌∙◌, sym}
use Rattle.std.proofs.lemmas.List.{length-map}
use Rattle.wasm_operator_validator_resources.specs.Meaning.{reference_in}
use Rattle.wasm_module_validator_resources.specs.Reading.{names_in}
use Rattle.wasm_module_validator_resources.proofs.resources.OperatorValidatorResourcesWasmModuleResources.element_count.Goals as goal

pub returns : goal.returns
returns c =
    c.element_count.ensures ∙ sym (length-map (c.args.self.now.«module».now.elements) (reference_in (names_in (c.args.self.now.types.now.groups) (c.args.self.now.«module».now.types))))
