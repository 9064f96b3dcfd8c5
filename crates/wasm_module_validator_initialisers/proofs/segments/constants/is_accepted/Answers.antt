use Rattle.std.proofs.Common.{◌≡◌, ◌-◌, ◌∙◌, ℕ, List, length, take, drop, subst, arith, rules}
use Rattle.std.proofs.lemmas.List.{take_all}
use Rattle.wasm_operators_encoding.specs.expressions.Spelling.{SpelledExpression}
use Rattle.wasm_operator_validator_rules.specs.constants.Constants.{IsConstant}
use Rattle.wasm_operator_validator_state.specs.resources.Meaning.{type_in}
use Rattle.wasm_module_validator_initialisers.proofs.segments.constants.is_accepted.Goals as goal

pub returns : goal.returns
returns g c h count =
    let m = g.R.WasmModuleResources.meaning c.args.resources.now in
    let z = c.args.settings.now in
    let text = c.bytes_of-bytes.result.now in
    let s = c.in-Some.ensures in
    let whole : c.in-Some.end ≡ length text = search rules in
    let all : take (c.in-Some.end - 0) (drop 0 text) ≡ c.args.expr.now.rest
    = take_all (c.in-Some.end - 0) text (omega (arith, whole)) ∙ c.bytes_of-bytes.ensures in (
      s.code,
      subst (λ (r : List ℕ). SpelledExpression z s.code r) all (s.spelled z),
      subst (λ (f : ℕ). IsConstant f m.«module» count (type_in m c.args.ty.now) s.code) c.features-features.ensures (s.constant count),
    )
