use Rattle.std.proofs.Common.{◌∙◌, ◌≤◌, ap, length}
use Rattle.wasm_operators_immediates.specs.declared.block.BlockType.TheVariants as block
use Rattle.wasm_operator_validator_locals.specs.inits.Inits.{Inits}
use Rattle.wasm_operator_validator_stacks.proofs.Params.{are_first, begins, too_many, few_enough, entered_fresh}
use Rattle.wasm_operator_validator_stacks.proofs.functions.new_func.Goals as goal

pub returns-in-Err-clause-exact : goal.returns-in-Err-clause-exact
returns-in-Err-clause-exact g c =
    let m = g.R.WasmModuleResources.meaning c.args.resources.now in
    let d = rw c.params.ensures at c.in-Err.ensures.exact in
    too_many m c.args.ty c.in-Some.sub_type.now c.in-Some-function_of.function.now c.in-Some.ensures c.in-Some-function_of.ensures c.args.limits.locals c.in-Err.error.kind d

pub new-validator-requires-clause-first : goal.new-validator-requires-clause-first
new-validator-requires-clause-first g c =
    are_first c.in-Ok.locals c.len_locals-count.result c.in-Ok-params_as_inits.inits.first c.len_locals-count.ensures
    (ap (λ (l : Inits). l.first) c.in-Ok-params_as_inits.ensures.inits)

pub returns-clause-exact : goal.returns-clause-exact
returns-clause-exact g c =
    let m = g.R.WasmModuleResources.meaning c.args.resources.now in
    let few = rw c.params.ensures at c.in-Ok.ensures.exact in
    few_enough m c.args.ty c.in-Some.sub_type.now c.in-Some-function_of.function.now c.in-Some.ensures c.in-Some-function_of.ensures c.args.limits.locals few

pub returns-clause-begins : goal.returns-clause-begins
returns-clause-begins g c =
    let m = g.R.WasmModuleResources.meaning c.args.resources.now in
    let shared = c.in-Some.sub_type.now.composite_type.shared in
    begins m c.args.ty c.in-Some.sub_type.now c.in-Some-function_of.function.now c.in-Some.ensures c.in-Some-function_of.ensures
    c.args.features.now.0 c.len_locals-count.result c.enter.new.self c.in-Ok.locals (c.in-Ok.ensures.locals ∙ c.params.ensures) c.len_locals-count.ensures
    (entered_fresh (record { bits = c.args.features.now.0; locals = c.in-Ok.locals; params = c.len_locals-count.result; shared = shared })
    (block.FuncType c.args.ty) c.new-validator.result c.enter.new.self c.new-validator.ensures c.in-Ok-enter.ensures.entered)
