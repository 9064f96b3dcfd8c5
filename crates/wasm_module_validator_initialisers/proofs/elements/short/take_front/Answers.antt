use Rattle.std.proofs.Common.{◌≡◌, ◌+◌, ℕ, suc, subst, arith}
use Rattle.wasm_operator_validator_state.specs.resources.Meaning.{type_in}
use Rattle.wasm_module_validator_initialisers.specs.elements.Short.{NamesRun}
use Rattle.wasm_module_validator_initialisers.proofs.elements.short.take_front.Goals as goal

pub loop-passed-preserved : goal.loop-passed-preserved
loop-passed-preserved g c =
    let m = g.R.WasmModuleResources.meaning c.args.resources.now in
    let (inside, many, run) = c.loop-passed.invariant in
    let named = c.in-Some.ensures.named in
    let one : suc c.loop-passed.passed ≡ c.loop-passed.passed + 1 = omega arith in (
      named.1.inside,
      omega (arith, c.loop-passed-test.true),
      subst (λ (n : ℕ). NamesRun c.args.features.now.0 m.«module» (type_in m c.args.ty.now) c.args.bytes.now n 0 c.in-Some.end c.args.names.now.items c.take_short_element.new.names.items) one
          (c.loop-passed.at, c.loop-passed.names.items, run, named),
    )
