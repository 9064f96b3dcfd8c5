use Rattle.std.proofs.Common.{◌≡◌, ◌↔◌, ◌+◌, length, Bool, true, false, refl, sym}
use Rattle.std.specs.Prelude.{IsTrue}
use Rattle.wasm_operator_validator_constants.specs.laws.Driven.{ends_reading, ends_at_operator, ends_at_end, ends_well}
use Rattle.wasm_operator_validator_constants.proofs.validating.validate_constant_operators.Goals as goal

so : (b : Bool) (P : Type 0) → b ≡ true → IsTrue b ↔ P → P
so b P e i = i.0 (rw e refl)

not_so : (b : Bool) (P : Type 0) → b ≡ false → IsTrue b ↔ P → P → ⊥
not_so b P e i p = let t = i.1 p in let x : false ≡ true = rw e at t in cc

pub returns-in-Err : goal.returns-in-Err
returns-in-Err g c =
    let met = g.met.V.ValidatingConstants c.lifetimes (assumption c) in
    ends_reading g.V.Visitor.visits g.V.ValidatingConstants.around g.V.ValidatingConstants.state met.visited
    c.args.reader c.args.visitor.now c.requires.going c.tell_whole_with_offset.new.visitor
    c.in-Err.error c.in-Err.ensures.refused c.in-Err.ensures.stops

pub returns-in-Err-end : goal.returns-in-Err-end
returns-in-Err-end g c =
    let met = g.met.V.ValidatingConstants c.lifetimes (assumption c) in
    let until = rw c.in-Err-end.is at c.in-Ok.ensures.ended in
    ends_at_operator g.V.Visitor.visits g.V.ValidatingConstants.around g.V.ValidatingConstants.state met.visited
    c.args.reader c.args.visitor.now c.requires.going c.tell_whole_with_offset.new.visitor
    c.in-Err-end.last.0 c.error-refusal.result c.in-Err-end.last.1 until c.error-refusal.ensures.kind c.error-refusal.ensures.at

pub returns-then-not-is_done : goal.returns-then-not-is_done
returns-then-not-is_done g c =
    let met = g.met.V.ValidatingConstants c.lifetimes (assumption c) in
    let whole = rw c.in_default.is at c.in-Ok.ensures.whole in
    let at : c.frames_remain-unfinished.result.offset ≡ c.args.reader.place + length c.args.reader.rest = rw (c.frames_remain-unfinished.ensures.at, c.remaining_range-whole.ensures) refl in
    ends_at_end g.V.Visitor.visits g.V.ValidatingConstants.around g.V.ValidatingConstants.state met.visited
    c.args.reader c.args.visitor.now c.requires.going c.tell_whole_with_offset.new.visitor
    c.frames_remain-unfinished.result whole (not_so c.is_done.result _ c.if-not-is_done.true c.is_done.ensures) c.frames_remain-unfinished.ensures.kind at

pub returns : goal.returns
returns g c =
    let met = g.met.V.ValidatingConstants c.lifetimes (assumption c) in
    let whole = rw c.in_default.is at c.in-Ok.ensures.whole in
    ends_well g.V.Visitor.visits g.V.ValidatingConstants.around g.V.ValidatingConstants.state met.visited
    c.args.reader c.args.visitor.now c.requires.going c.tell_whole_with_offset.new.visitor whole
    (so c.is_done.result _ c.if-not-is_done.false c.is_done.ensures)
