use Rattle.std.proofs.Common.{◌∷◌, ◌∙◌, ap, refl, arith}
use Rattle.wasm_operator_validator_fast_tables.specs.Stacks.{Values, with_all}
use Rattle.wasm_operator_validator_fast_tables.proofs.Lowering.{lower_more, lowered}
use Rattle.wasm_operator_validator_fast_objects.proofs.Branching.{took_branch}
use Rattle.wasm_operator_validator_fast_objects.proofs.casts.br_on_cast.Goals as goal

pub returns-clause-leads : goal.returns-clause-leads
returns-clause-leads c =
    let cast = c.in-Some.cast in
    let us = c.in-Some-last_of.under.now in
    let under = c.take_all.new.self in
    let m = with_all us under in
    let stays = c.chosen-stays.result in
    lowered c.args.tables.now c.args.bytes.now c.args.at cast.end c.args.opens.now.inner c.args.opens.now.outer (c.args.opens.now.inner ∷ c.args.opens.now.outer) c.args.stack.now (cast.from ∷ m.0, m.1) c.put.new.self
    (lower_more c.args.tables.now.known.order cast.from c.args.stack.now c.take_below.new.self m (c.if-not-take_below.ensures refl) (c.if-not-take_all.ensures refl))
    (took_branch c.args.tables.now c.args.bytes.now c.args.at cast.end c.args.opens.now.inner c.args.opens.now.outer (cast.from ∷ m.0, m.1) c.put.new.self c.if-not-tables.false c.args.fails c.args.middle c.requires cast refl c.in-Some.ensures
    c.in-Some-label_at.types.now c.in-Some-label_at.ensures us c.in-Some-last_of.last c.in-Some-last_of.ensures (c.if-not-may_be_taken.ensures refl) c.chosen-goes.result stays
    c.chosen-goes.ensures c.chosen-stays.ensures (c.if-not-may_be_taken-2.ensures refl) under refl
    (c.if-not-put.ensures refl ∙ ap (λ (x : Values). (stays ∷ x.0, x.1)) (c.if-not-put_all.ensures refl)))

pub returns-clause-forward : goal.returns-clause-forward
returns-clause-forward c = omega (arith, c.requires.code_there.forward, c.in-Some.ensures.read.forward)

pub returns-clause-inside : goal.returns-clause-inside
returns-clause-inside c = c.in-Some.ensures.read.inside
