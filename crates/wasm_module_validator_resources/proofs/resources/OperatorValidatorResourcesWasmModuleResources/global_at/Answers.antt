use Rattle.wasm_module_validator_resources.proofs.Finding.{global_same}
use Rattle.wasm_module_validator_resources.proofs.resources.OperatorValidatorResourcesWasmModuleResources.global_at.Goals as goal

pub returns : goal.returns
returns c =
    global_same (c.args.self.now.types.now.groups) (c.args.self.now.«module».now) (c.args.self.now.«module».now.globals) c.args.at c.global_at.result c.global_at.ensures
