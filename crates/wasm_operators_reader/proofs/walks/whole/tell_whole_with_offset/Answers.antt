use Rattle.std.proofs.Common.{refl, Ok, Err, subst}
use Rattle.wasm_operators_reader.specs.Standing.{Standing}
use Rattle.wasm_operators_reader.specs.walks.Whole.{TellsTo, TellsUntilAt}
use Rattle.wasm_operators_reader.specs.walks.WholeLaws.{tells_whole, stop_denies, cut_short}
use Rattle.wasm_operators_reader.proofs.walks.whole.tell_whole_with_offset.Goals as goal

pub tell_every-requires : goal.tell_every-requires
tell_every-requires g c κs = (refl, tt)

pub returns-in-Err-clause-refused : goal.returns-in-Err-clause-refused
returns-in-Err-clause-refused g c =
    let told = subst (λ (s : Standing). TellsTo g.V.Visitor.visits (Ok tt) s c.args.visitor.now c.tell_every.new.operators c.tell_every.new.visitor)
    c.new-operators.ensures c.in-Err.ensures.refused.0 in
    λ n code spelled. stop_denies g.V.Visitor.visits
    (Ok tt) c.args.reader c.tell_every.new.operators c.args.visitor.now c.tell_every.new.visitor c.in-Err.error told n code spelled c.in-Err.ensures.refused.1

pub returns-in-Err-clause-stops : goal.returns-in-Err-clause-stops
returns-in-Err-clause-stops g c =
    let told = subst (λ (s : Standing). TellsTo g.V.Visitor.visits (Ok tt) s c.args.visitor.now c.tell_every.new.operators c.tell_every.new.visitor)
    c.new-operators.ensures c.in-Err.ensures.refused.0 in
    (c.tell_every.new.operators, told, c.in-Err.ensures.refused.1)

pub returns-in-Err-end-clause-ended : goal.returns-in-Err-end-clause-ended
returns-in-Err-end-clause-ended g c =
    let until = rw c.in-Err-end.is at c.in-Ok.ensures.ended in
    subst (λ (s : Standing). TellsUntilAt g.V.Visitor.visits (Ok tt) s c.args.visitor.now (Err c.in-Err-end.last.0) c.tell_every.new.visitor c.in-Err-end.last.1) c.new-operators.ensures until

pub returns-in-Ok-finish-clause-whole : goal.returns-in-Ok-finish-clause-whole
returns-in-Ok-finish-clause-whole g c =
    let whole = rw c.in_default.is at c.in-Ok.ensures.whole in
    let told = subst (λ (s : Standing). TellsTo g.V.Visitor.visits (Ok tt) s c.args.visitor.now c.tell_every.new.operators c.tell_every.new.visitor)
    c.new-operators.ensures whole.0 in
    tells_whole g.V.Visitor.visits (Ok tt) c.args.reader c.tell_every.new.operators c.args.visitor.now c.tell_every.new.visitor told c.in-Ok-finish.ensures.finished

pub returns-clause-refused : goal.returns-clause-refused
returns-clause-refused g c =
    let whole = rw c.in_default.is at c.in-Ok.ensures.whole in
    let told = subst (λ (s : Standing). TellsTo g.V.Visitor.visits (Ok tt) s c.args.visitor.now c.tell_every.new.operators c.tell_every.new.visitor)
    c.new-operators.ensures whole.0 in
    let cut = c.in-Err-finish.ensures.refused in
    let stops = cut_short c.tell_every.new.operators c.in-Err-finish.error whole.1 cut.0 cut.1 cut.2 in
    λ n code spelled. stop_denies g.V.Visitor.visits
    (Ok tt) c.args.reader c.tell_every.new.operators c.args.visitor.now c.tell_every.new.visitor c.in-Err-finish.error told n code spelled stops

pub returns-clause-stops : goal.returns-clause-stops
returns-clause-stops g c =
    let whole = rw c.in_default.is at c.in-Ok.ensures.whole in
    let told = subst (λ (s : Standing). TellsTo g.V.Visitor.visits (Ok tt) s c.args.visitor.now c.tell_every.new.operators c.tell_every.new.visitor)
    c.new-operators.ensures whole.0 in
    let cut = c.in-Err-finish.ensures.refused in
    (c.tell_every.new.operators, told, cut_short c.tell_every.new.operators c.in-Err-finish.error whole.1 cut.0 cut.1 cut.2)
