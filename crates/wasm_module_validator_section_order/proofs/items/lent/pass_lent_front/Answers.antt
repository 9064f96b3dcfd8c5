use Rattle.std.proofs.Common.{◌≤◌, ℕ, List, length, sym, subst}
use Rattle.wasm_sections_items.specs.limited.Runs.{place_with_offsets}
use Rattle.wasm_module_validator_section_order.specs.items.AddingLaws.{stands_passed}
use Rattle.wasm_module_validator_section_order.proofs.items.lent.pass_lent_front.Goals as goal

pub returns-clause-stands : goal.returns-clause-stands
returns-clause-stands g c =
    let i = g.T.FromReader in
    let a = g.S.AddLent in
    let law = g.met.S.AddLent c.lifetimes (assumption c) in
    let w = place_with_offsets c.args.items.now in
    let e = c.add_lent_front-left.ensures in
    λ z n b s same here. stands_passed i.view a.of law.alike i.decoder i.grammar (g.met.T.FromReader c.lifetimes (assumption c)).exact a.adds z a.reads n b s
    c.add_lent_front-left.result.1 c.add_lent_front-left.result.0 w (place_with_offsets c.pass.new.self) c.add_lent_front-left.new.state (subst (λ (t : List ℕ). c.add_lent_front-left.result.1 ≤ length t) c.bytes.ensures e.inside) c.pass.ensures.passed
    (e.stands w (sym c.bytes.ensures) (sym c.left.ensures) z n b s same here)
