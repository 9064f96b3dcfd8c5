use Rattle.std.proofs.Common.{◌≡◌, ◌↔◌, ◌+◌, length, Bool, true, false, refl, sym}
use Rattle.std.specs.Prelude.{IsTrue}
use Rattle.wasm_operator_validator_expression.specs.laws.Driven.{ends_reading, ends_at_operator, ends_at_end, ends_well}
use Rattle.wasm_operator_validator_expression.proofs.validating.validate_operators.Goals as goal

so : (b : Bool) (P : Type 0) → b ≡ true → IsTrue b ↔ P → P
so b P e i = i.0 (rw e refl)

not_so : (b : Bool) (P : Type 0) → b ≡ false → IsTrue b ↔ P → P → ⊥
not_so b P e i p = let t = i.1 p in let x : false ≡ true = rw e at t in cc

pub returns-in-Err-clause-validates : goal.returns-in-Err-clause-validates
returns-in-Err-clause-validates g c =
    let met = g.met.V.Validating c.lifetimes (assumption c) in
    (ends_reading g.V.Visitor.visits g.V.Validating.meaning g.V.Validating.state g.V.Validating.why g.V.Validating.keeps met.visited met.kept
    met.stays met.through c.args.reader c.args.visitor.now (sym c.if-has_failed.ensures) c.tell_whole_with_offset.new.visitor
    c.fail.new.self c.in-Err.error c.in-Err.ensures.refused c.in-Err.ensures.stops c.fail.ensures.failed c.fail.ensures.keeps).0

pub returns-in-Err-clause-keeps : goal.returns-in-Err-clause-keeps
returns-in-Err-clause-keeps g c =
    let met = g.met.V.Validating c.lifetimes (assumption c) in
    (ends_reading g.V.Visitor.visits g.V.Validating.meaning g.V.Validating.state g.V.Validating.why g.V.Validating.keeps met.visited met.kept
    met.stays met.through c.args.reader c.args.visitor.now (sym c.if-has_failed.ensures) c.tell_whole_with_offset.new.visitor
    c.fail.new.self c.in-Err.error c.in-Err.ensures.refused c.in-Err.ensures.stops c.fail.ensures.failed c.fail.ensures.keeps).1

pub returns-in-Err-end-clause-validates : goal.returns-in-Err-end-clause-validates
returns-in-Err-end-clause-validates g c =
    let met = g.met.V.Validating c.lifetimes (assumption c) in
    let until = rw c.in-Err-end.is at c.in-Ok.ensures.ended in
    let kind = rw c.refusal.ensures at c.error-refusal.ensures.kind in
    (ends_at_operator g.V.Visitor.visits g.V.Validating.meaning g.V.Validating.state g.V.Validating.why g.V.Validating.keeps met.visited met.kept
    met.stays met.through c.args.reader c.args.visitor.now (sym c.if-has_failed.ensures) c.tell_whole_with_offset.new.visitor
    c.in-Err-end.last.0 c.error-refusal.result c.in-Err-end.last.1 until kind c.error-refusal.ensures.at).0

pub returns-in-Err-end-clause-keeps : goal.returns-in-Err-end-clause-keeps
returns-in-Err-end-clause-keeps g c =
    let met = g.met.V.Validating c.lifetimes (assumption c) in
    let until = rw c.in-Err-end.is at c.in-Ok.ensures.ended in
    let kind = rw c.refusal.ensures at c.error-refusal.ensures.kind in
    (ends_at_operator g.V.Visitor.visits g.V.Validating.meaning g.V.Validating.state g.V.Validating.why g.V.Validating.keeps met.visited met.kept
    met.stays met.through c.args.reader c.args.visitor.now (sym c.if-has_failed.ensures) c.tell_whole_with_offset.new.visitor
    c.in-Err-end.last.0 c.error-refusal.result c.in-Err-end.last.1 until kind c.error-refusal.ensures.at).1

pub returns-then-not-is_done-clause-validates : goal.returns-then-not-is_done-clause-validates
returns-then-not-is_done-clause-validates g c =
    let met = g.met.V.Validating c.lifetimes (assumption c) in
    let whole = rw c.in_default.is at c.in-Ok.ensures.whole in
    let at : c.frames_remain-unfinished.result.offset ≡ c.args.reader.place + length c.args.reader.rest = rw (c.frames_remain-unfinished.ensures.at, c.remaining_range-whole.ensures) refl in
    (ends_at_end g.V.Visitor.visits g.V.Validating.meaning g.V.Validating.state g.V.Validating.why g.V.Validating.keeps met.visited met.kept
    met.stays met.through c.args.reader c.args.visitor.now (sym c.if-has_failed.ensures) c.tell_whole_with_offset.new.visitor
    c.fail-then-not-is_done.new.self c.frames_remain-unfinished.result whole (not_so c.is_done.result _ c.if-not-is_done.true c.is_done.ensures) c.frames_remain-unfinished.ensures.kind at
    c.fail-then-not-is_done.ensures.failed c.fail-then-not-is_done.ensures.keeps).0

pub returns-then-not-is_done-clause-keeps : goal.returns-then-not-is_done-clause-keeps
returns-then-not-is_done-clause-keeps g c =
    let met = g.met.V.Validating c.lifetimes (assumption c) in
    let whole = rw c.in_default.is at c.in-Ok.ensures.whole in
    let at : c.frames_remain-unfinished.result.offset ≡ c.args.reader.place + length c.args.reader.rest = rw (c.frames_remain-unfinished.ensures.at, c.remaining_range-whole.ensures) refl in
    (ends_at_end g.V.Visitor.visits g.V.Validating.meaning g.V.Validating.state g.V.Validating.why g.V.Validating.keeps met.visited met.kept
    met.stays met.through c.args.reader c.args.visitor.now (sym c.if-has_failed.ensures) c.tell_whole_with_offset.new.visitor
    c.fail-then-not-is_done.new.self c.frames_remain-unfinished.result whole (not_so c.is_done.result _ c.if-not-is_done.true c.is_done.ensures) c.frames_remain-unfinished.ensures.kind at
    c.fail-then-not-is_done.ensures.failed c.fail-then-not-is_done.ensures.keeps).1

pub returns-clause-validates : goal.returns-clause-validates
returns-clause-validates g c =
    let met = g.met.V.Validating c.lifetimes (assumption c) in
    let whole = rw c.in_default.is at c.in-Ok.ensures.whole in
    (ends_well g.V.Visitor.visits g.V.Validating.meaning g.V.Validating.state g.V.Validating.why g.V.Validating.keeps met.visited met.kept
    met.stays met.through c.args.reader c.args.visitor.now (sym c.if-has_failed.ensures) c.tell_whole_with_offset.new.visitor whole
    (so c.is_done.result _ c.if-not-is_done.false c.is_done.ensures)).0

pub returns-clause-keeps : goal.returns-clause-keeps
returns-clause-keeps g c =
    let met = g.met.V.Validating c.lifetimes (assumption c) in
    let whole = rw c.in_default.is at c.in-Ok.ensures.whole in
    (ends_well g.V.Visitor.visits g.V.Validating.meaning g.V.Validating.state g.V.Validating.why g.V.Validating.keeps met.visited met.kept
    met.stays met.through c.args.reader c.args.visitor.now (sym c.if-has_failed.ensures) c.tell_whole_with_offset.new.visitor whole
    (so c.is_done.result _ c.if-not-is_done.false c.is_done.ensures)).1
