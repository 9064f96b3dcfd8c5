use Rattle.std.proofs.Common.{◌≡◌, drop}
use Rattle.wasm_types.specs.settings.Settings.{Settings}
use Rattle.wasm_module_validator_section_order.specs.rules.Valid.{Each}
use Rattle.wasm_module_validator_section_order.specs.items.Bodies.{IsReadBy}
use Rattle.wasm_module_validator_function_bodies.specs.Plain.{IsJudgeOf}
use Rattle.wasm_module_validator_function_bodies.specs.code.Code.{IsFunctionOf}
use Rattle.wasm_module_validator_section_order.specs.declared.items.bodies.Body.{Body}
use Rattle.wasm_module_validator_function_bodies.proofs.code.bodies.judge_bodies.Given as goal

-- where the bodies from here on spell valid functions, all do
abbrev pub invariant-loop-i : goal.invariant-loop-i
invariant-loop-i g l =
    IsJudgeOf (g.R.WasmModuleResources.meaning l.fn.resources).«module» l.fn.features.0 l.plain × ((z : Settings) → z.limits ≡ l.fn.limits → Each (λ (b : Body). IsReadBy z l.fn.features.0 b.body) l.fn.bodies
    → Each (λ (b : Body). IsFunctionOf z (g.R.WasmModuleResources.meaning l.fn.resources).«module» b.type_index b.body.rest) (drop l.i l.fn.bodies)
    → Each (λ (b : Body). IsFunctionOf z (g.R.WasmModuleResources.meaning l.fn.resources).«module» b.type_index b.body.rest) l.fn.bodies)
