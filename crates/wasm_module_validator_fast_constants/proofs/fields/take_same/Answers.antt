use Rattle.std.proofs.Common.{◌≡◌, replicate, subst, arith, ℕ}
use Rattle.wasm_operator_validator_state.specs.resources.Meaning.{type_in}
use Rattle.wasm_module_validator_fast_constants.specs.Steps.{MayTake, tops}
use Rattle.wasm_module_validator_fast_constants.proofs.Making.{same_more}
use Rattle.wasm_module_validator_fast_constants.proofs.Passing.{takes_none}
use Rattle.wasm_module_validator_fast_constants.proofs.fields.take_same.Goals as goal

pub loop-passed-init : goal.loop-passed-init
loop-passed-init g c = let m = g.R.WasmModuleResources.meaning c.args.resources.now in (omega arith, takes_none (tops m c.args.stack.now.items))

pub loop-passed-preserved : goal.loop-passed-preserved
loop-passed-preserved g c =
    let m = g.R.WasmModuleResources.meaning c.args.resources.now in (
      omega (arith, c.loop-passed-test.true),
      same_more m c.args.stack.now.items c.loop-passed.stack.items c.take.new.stack.items (type_in m c.args.ty.now) c.loop-passed.passed c.loop-passed.invariant.1 (c.take.ensures c.if-not-take.false),
    )

pub returns : goal.returns
returns g c h =
    let m = g.R.WasmModuleResources.meaning c.args.resources.now in
    let all : c.loop-passed.passed ≡ c.args.count = omega (arith, c.loop-passed.invariant.0, c.loop-passed-test.false) in
    subst (λ (n : ℕ). MayTake (tops m c.args.stack.now.items) (replicate n (type_in m c.args.ty.now)) (tops m c.loop-passed.stack.items)) all c.loop-passed.invariant.1
