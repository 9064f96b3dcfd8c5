use Rattle.wasm_module_validator_index_spaces.specs.declared.module.Function.{Function}
use Rattle.wasm_module_validator_resources.proofs.Finding.{so_at, none_at}
use Rattle.wasm_module_validator_resources.proofs.resources.OperatorValidatorResourcesWasmModuleResources.is_function_referenced.Goals as goal

pub returns-in-Some : goal.returns-in-Some
returns-in-Some c =
    so_at (λ (f : Function). f.is_referenced) (c.args.self.now.«module».now.functions) c.args.function_index c.in-Some.function c.in-Some.ensures.value

pub returns-in-None : goal.returns-in-None
returns-in-None c =
    none_at (λ (f : Function). f.is_referenced) (c.args.self.now.«module».now.functions) c.args.function_index c.in-None.ensures.value
