use Rattle.std.proofs.Common.{arith}
use Rattle.wasm_operator_validator_fast_tables.proofs.Climbing.{steps_set, reaches}
use Rattle.wasm_operator_validator_fast_tables.proofs.Defining.{step_lands}
use Rattle.wasm_operator_validator_fast_tables.proofs.naming.put_step.Goals as goal

pub returns : goal.returns
returns g c =
    let m = g.R.WasmModuleResources.meaning c.args.resources.now in
    let all = c.lengthen.ensures.steps m.ids c.requires.steps in
    steps_set m.ids c.lengthen.new.steps.items _ _ all
    (reaches m.ids _ c.in-Some.step c.far_above-far.result.0 c.far_above-far.result.1
    (step_lands m c.args.at c.args.ty.now c.args.it c.in-Some.step (g.met.R.WasmModuleResources.types_sound c.args.resources.now) c.requires.there (c.requires.named (omega arith)) c.in-Some.ensures)
    (c.far_above-far.ensures m.ids (rw c.as_slice.ensures.value all)))
