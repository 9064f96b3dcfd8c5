use Rattle.std.proofs.Common.{◌≡◌, ◌-◌, ◌≤◌, ℕ, List, length, take, drop, subst, arith}
use Rattle.std.proofs.lemmas.List.{take_all, length-drop}
use Rattle.wasm_operators_bodies.specs.declared.short.ShortConstant.{ShortConstant}
use Rattle.wasm_operators_bodies.specs.declared.short.ShortConstant.TheVariants as short
use Rattle.wasm_operators_bodies.specs.Short.{SpellsShort}
use Rattle.wasm_operator_validator_state.specs.resources.Meaning.{type_in}
use Rattle.wasm_module_validator_initialisers.proofs.ShortConstants.{function_there}
use Rattle.wasm_module_validator_initialisers.proofs.elements.short.short_function_at.Goals as goal

pub returns : goal.returns
returns g c =
    let m = g.R.WasmModuleResources.meaning c.args.resources.now in
    let text = c.args.bytes.now in
    let i = c.args.at in
    let x = c.in-Some-Function-default.index in
    let long = c.in-Some-Function-default.long in
    let slice = take (length text - i) (drop i text) in
    let all : slice ≡ drop i text = take_all (length text - i) (drop i text) (omega (arith, length-drop i text)) in
    let told : SpellsShort (short.Function x) (take long slice)
    = subst (λ (k : ShortConstant). SpellsShort k (take long slice)) c.in-Some-Function-default.field-0-0-is c.in-Some-Function-default.ensures.spelled in
    let spelled = subst (λ (r : List ℕ). SpellsShort (short.Function x) (take long r)) all told in
    let inside = subst (λ (r : List ℕ). long ≤ length r) all c.in-Some-Function-default.ensures.inside in
    function_there c.args.features.now.0 c.requires.allowed m.«module» (type_in m c.args.ty.now) text i x long inside c.requires.inside spelled
    (c.is_function_of.ensures c.if-not-is_function_of.false)
