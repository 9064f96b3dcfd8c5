use Rattle.std.proofs.Common.{◌≡◌, ◌∙◌, ℕ, List, take, subst, arith}
use Rattle.std.proofs.lemmas.List.{take_all}
use Rattle.wasm_operators_bodies.specs.Short.{SpellsShort}
use Rattle.wasm_operators_bodies.proofs.constant.ConstExpr.as_short.Goals as goal

pub returns : goal.returns
returns c z =
    let whole : take c.in-Some.length c.bytes-bytes.result.now ≡ c.args.self.now.rest =
    take_all c.in-Some.length c.bytes-bytes.result.now (omega (arith, c.if-length-bytes.false)) ∙ c.bytes-bytes.ensures in
    subst (λ (text : List ℕ). SpellsShort c.in-Some.constant text) whole c.in-Some.ensures.spelled z
