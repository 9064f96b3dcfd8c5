-- By the law of a body that is accepted.
use Rattle.wasm_module_validator_function_bodies.specs.code.CodeLaws.{accepted}
use Rattle.wasm_module_validator_function_bodies.proofs.ways.judge_function.Goals as goal

pub returns-then-accepts-clause-told : goal.returns-then-accepts-clause-told
returns-then-accepts-clause-told g c = λ z held read.
    accepted z (g.R.WasmModuleResources.meaning c.args.function.resources) c.args.function.features.0 c.args.function.limits c.args.function.ty c.args.body.now held read
    (c.accepts.ensures.valid c.if-accepts.true)
