use Rattle.std.proofs.Common.{◌≡◌, ◌∙◌, false, true, sym, arith}
use Rattle.std.proofs.lemmas.List.{length-map}
use Rattle.wasm_operator_validator_rules.specs.Operands.{known, stack}
use Rattle.wasm_operator_validator_state.specs.resources.Meaning.{type_in}
use Rattle.wasm_operator_validator_state.specs.State.{types_in}
use Rattle.wasm_operator_validator_control.proofs.Places.{type_at, in_more, could_be_popped, not_there, not_fitting}
use Rattle.wasm_operator_validator_control.proofs.matching.match_operands.Goals as goal

pub returns-in_default : goal.returns-in_default
returns-in_default g c =
    let m = g.R.WasmModuleResources.meaning c.args.resources.now in
    not_there m c.args.validator.now (stack (types_in m c.args.types.now)) c.loop-place.place (known (type_in m c.index-types-types.result))
    (type_at m c.args.types.now c.loop-place.place c.index-types-types.result _ c.loop-place-test.true c.index-types-types.is) (sym c.in_default.ensures)

pub returns-then-not-is_fit : goal.returns-then-not-is_fit
returns-then-not-is_fit g c =
    let m = g.R.WasmModuleResources.meaning c.args.resources.now in
    not_fitting m c.args.validator.now (stack (types_in m c.args.types.now)) c.loop-place.place (known (type_in m c.index-types-types.result)) c.in-Some.found
    (type_at m c.args.types.now c.loop-place.place c.index-types-types.result _ c.loop-place-test.true c.index-types-types.is) (sym c.in-Some.ensures)
    (λ s. (let x : false ≡ true = sym c.if-not-is_fit.true ∙ c.is_fit.ensures.1 s in cc))

pub loop-place-preserved : goal.loop-place-preserved
loop-place-preserved g c =
    let m = g.R.WasmModuleResources.meaning c.args.resources.now in
    in_more m c.args.validator.now.opens (stack (types_in m c.args.types.now)) c.loop-place.place c.in-Some.found (known (type_in m c.index-types-types.result)) c.loop-place.invariant
    (type_at m c.args.types.now c.loop-place.place c.index-types-types.result _ c.loop-place-test.true c.index-types-types.is) (sym c.in-Some.ensures) (c.is_fit.ensures.0 c.if-not-is_fit.false)

pub returns : goal.returns
returns g c =
    let m = g.R.WasmModuleResources.meaning c.args.resources.now in
    let n = c.loop-place-test.false in
    let l = length-map c.args.types.now (type_in m) in
    could_be_popped m c.args.validator.now (types_in m c.args.types.now) c.loop-place.place c.requires c.loop-place.invariant (λ h. (let k = h in omega (arith, n, k, l)))
