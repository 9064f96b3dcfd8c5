use Rattle.std.proofs.Common.{◌≡◌, get_or, sym, ap, subst, ◌∙◌}
use Rattle.wasm_types.specs.decoding.Decoder.{State}
use Rattle.wasm_types.specs.decoding.Numbers.{behind}
use Rattle.wasm_operators_encoding.specs.codes.OpcodeRoles.{plain_role}
use Rattle.wasm_operators_reader.specs.Visiting.{Tells}
use Rattle.wasm_operators_reader.proofs.AtOnce.{told_inside, told_at_once}
use Rattle.wasm_operators_reader.proofs.frequent.visit_control.Goals as goal

pub invariant_of-reader : goal.invariant_of-reader
invariant_of-reader g c =
    let same : c.features-features.result.0 ≡ c.reader.inside.start.settings.features = c.features-features.ensures ∙ ap (λ (s : State). s.settings.features) (sym c.reader.view_is) in (
      c.reader.invariant.0,
      told_inside g.V.Visitor.visits c.reader.inside.start c.reader.inside.position c.args.visitor.now c.tell_short_control.new.self c.in-Some.answer
          c.features-features.result.0 c.in-Some.end c.reader.inside.bytes.now c.reader.invariant.0 same c.in-Some.ensures.told,
    )

pub returns-clause-visited : goal.returns-clause-visited
returns-clause-visited g c =
    let same : c.features-features.result.0 ≡ c.reader.inside.start.settings.features = c.features-features.ensures ∙ ap (λ (s : State). s.settings.features) (sym c.reader.view_is) in
    let told = told_at_once g.V.Visitor.visits c.reader.inside.start c.reader.inside.position c.args.visitor.now c.tell_short_control.new.self c.in-Some.answer
    c.features-features.result.0 c.in-Some.end c.reader.inside.bytes.now c.reader.invariant.0 same c.in-Some.ensures.told in
    subst (λ (s : State). Tells g.V.Visitor.visits (plain_role (get_or s.rest 0 0)) s c.args.visitor.now c.in-Some.answer (behind c.in-Some.end c.reader.inside.start) c.tell_short_control.new.self)
    c.reader.view_is told
