use Rattle.std.proofs.Common.{refl, Ok, Err, subst}
use Rattle.wasm_operators_reader.specs.Standing.{Standing}
use Rattle.wasm_operators_reader.specs.Walking.{WalksTo, WalksUntilAt}
use Rattle.wasm_operators_reader.specs.WalkingLaws.{walk_whole, stop_denies, cut_short}
use Rattle.wasm_operators_reader.proofs.walks.walking.tell_expression_with_offset.Goals as goal

pub visit_all-requires : goal.visit_all-requires
visit_all-requires g c κs = (refl, tt)

pub returns-in-Err-clause-refused : goal.returns-in-Err-clause-refused
returns-in-Err-clause-refused g c =
    let told = subst (λ (s : Standing). WalksTo g.V.Visitor.visits (Ok tt) s c.args.visitor.now c.visit_all.new.operators c.visit_all.new.visitor)
    c.new-operators.ensures c.in-Err.ensures.refused.0 in
    λ n code spelled none. stop_denies g.V.Visitor.visits
    (Ok tt) c.args.reader c.visit_all.new.operators c.args.visitor.now c.visit_all.new.visitor told c.in-Err.error n code spelled none c.in-Err.ensures.refused.1

pub returns-in-Err-clause-stops : goal.returns-in-Err-clause-stops
returns-in-Err-clause-stops g c =
    let told = subst (λ (s : Standing). WalksTo g.V.Visitor.visits (Ok tt) s c.args.visitor.now c.visit_all.new.operators c.visit_all.new.visitor)
    c.new-operators.ensures c.in-Err.ensures.refused.0 in
    (c.visit_all.new.operators, told, c.in-Err.ensures.refused.1)

pub returns-in-Err-end-clause-ended : goal.returns-in-Err-end-clause-ended
returns-in-Err-end-clause-ended g c =
    let until = rw c.in-Err-end.is at c.in-Ok.ensures.ended in
    subst (λ (s : Standing). WalksUntilAt g.V.Visitor.visits (Ok tt) s c.args.visitor.now (Err c.in-Err-end.last.0) c.visit_all.new.visitor c.in-Err-end.last.1) c.new-operators.ensures until

pub returns-in-Ok-finish-clause-whole : goal.returns-in-Ok-finish-clause-whole
returns-in-Ok-finish-clause-whole g c =
    let whole = rw c.in_default.is at c.in-Ok.ensures.whole in
    let told = subst (λ (s : Standing). WalksTo g.V.Visitor.visits (Ok tt) s c.args.visitor.now c.visit_all.new.operators c.visit_all.new.visitor)
    c.new-operators.ensures whole.0 in
    walk_whole g.V.Visitor.visits (Ok tt) c.args.reader c.visit_all.new.operators c.args.visitor.now c.visit_all.new.visitor told c.in-Ok-finish.ensures.finished

pub returns-clause-refused : goal.returns-clause-refused
returns-clause-refused g c =
    let whole = rw c.in_default.is at c.in-Ok.ensures.whole in
    let told = subst (λ (s : Standing). WalksTo g.V.Visitor.visits (Ok tt) s c.args.visitor.now c.visit_all.new.operators c.visit_all.new.visitor)
    c.new-operators.ensures whole.0 in
    let cut = c.in-Err-finish.ensures.refused in
    let stops = cut_short c.visit_all.new.operators c.in-Err-finish.error whole.1 cut.0 cut.1 cut.2 in
    λ n code spelled none. stop_denies g.V.Visitor.visits
    (Ok tt) c.args.reader c.visit_all.new.operators c.args.visitor.now c.visit_all.new.visitor told c.in-Err-finish.error n code spelled none stops

pub returns-clause-stops : goal.returns-clause-stops
returns-clause-stops g c =
    let whole = rw c.in_default.is at c.in-Ok.ensures.whole in
    let told = subst (λ (s : Standing). WalksTo g.V.Visitor.visits (Ok tt) s c.args.visitor.now c.visit_all.new.operators c.visit_all.new.visitor)
    c.new-operators.ensures whole.0 in
    let cut = c.in-Err-finish.ensures.refused in
    (c.visit_all.new.operators, told, cut_short c.visit_all.new.operators c.in-Err-finish.error whole.1 cut.0 cut.1 cut.2)
