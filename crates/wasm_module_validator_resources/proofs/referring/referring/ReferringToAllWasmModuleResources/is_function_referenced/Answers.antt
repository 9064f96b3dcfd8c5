use Rattle.std.proofs.Common.{refl}
use Rattle.wasm_module_validator_resources.specs.referring.ReferringLaws.{typed_is_placed, untyped_is_not}
use Rattle.wasm_module_validator_resources.proofs.referring.referring.ReferringToAllWasmModuleResources.is_function_referenced.Goals as goal

pub returns-in-Some : goal.returns-in-Some
returns-in-Some g c = (λ t. typed_is_placed (g.R.WasmModuleResources.meaning c.args.self.now.resources.now).«module» c.args.function_index c.in-Some.field-0 c.in-Some.ensures, λ p. refl)

pub returns-in-None : goal.returns-in-None
returns-in-None g c = (λ t. absurd cc, λ p. absurd (untyped_is_not (g.R.WasmModuleResources.meaning c.args.self.now.resources.now).«module» c.args.function_index c.in-None.ensures p))
