-- By the law of a body that was judged, and that of one where no validator begins.
use Rattle.std.proofs.Common.{ap, subst}
use Rattle.wasm_types.specs.settings.declared.Limits.{Limits}
use Rattle.wasm_module_validator_function_bodies.specs.Functions.{ValidatesFunction}
use Rattle.wasm_module_validator_function_bodies.specs.code.CodeLaws.{judged, none_begins}
use Rattle.wasm_module_validator_function_bodies.proofs.ways.judge_with_reason.Goals as goal

pub returns-in-Err : goal.returns-in-Err
returns-in-Err g c = λ z held read.
    none_begins z (g.R.WasmModuleResources.meaning c.args.function.resources) c.args.function.features.0 c.args.function.limits c.args.function.ty c.args.body.now held read
    c.in-Err.error.kind c.in-Err.ensures.exact

pub returns : goal.returns
returns g c = λ z held read.
    let v = c.in-Ok.validator in
    let n = g.R.WasmModuleResources.meaning v.resources in
    judged z (g.R.WasmModuleResources.meaning c.args.function.resources) c.args.function.features.0 c.args.function.limits c.args.function.ty c.args.body.now held read n
    v.validator c.validate-judged.new.self.validator c.validate-judged.result (ap g.R.WasmModuleResources.meaning c.in-Ok.ensures.resources) c.in-Ok.ensures.begins
    (subst (λ (h : Limits). ValidatesFunction n h c.args.body.now v.validator c.validate-judged.result c.validate-judged.new.self.validator) c.in-Ok.ensures.limits c.validate-judged.ensures.validates)
