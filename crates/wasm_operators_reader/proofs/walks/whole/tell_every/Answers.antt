use Rattle.std.proofs.Common.{Ok, Err, sym, arith}
use Rattle.wasm_operators_reader.specs.WalkingLaws.{some_rest, none_rest}
use Rattle.wasm_operators_reader.specs.walks.WholeLaws.{tells_walk, tells_on, tells_both, tells_until, tells_fewer, visit_fewer, tells_stop, answered}
use Rattle.wasm_operators_reader.proofs.walks.whole.tell_every.Goals as goal

pub returns-in-Some-clause-ended : goal.returns-in-Some-clause-ended
returns-in-Some-clause-ended g c =
    tells_until g.V.Visitor.visits (Ok tt) c.args.operators.now c.loop-operators.operators c.tell_run.new.self c.args.visitor.now c.loop-operators.visitor c.tell_run.new.visitor
    (Err c.in-Some.ended.0) c.in-Some.ended.1 c.loop-operators.invariant c.in-Some.ensures.ended

pub returns-then-at_end-clause-whole : goal.returns-then-at_end-clause-whole
returns-then-at_end-clause-whole g c = (
  tells_both g.V.Visitor.visits (Ok tt) c.args.operators.now c.loop-operators.operators c.tell_run.new.self c.args.visitor.now c.loop-operators.visitor
      c.tell_run.new.visitor c.loop-operators.invariant (tells_walk g.V.Visitor.visits (Ok tt) c.loop-operators.operators c.tell_run.new.self c.loop-operators.visitor c.tell_run.new.visitor c.in_default.ensures.told),
  none_rest c.eof-at_end.result c.tell_run.new.self.bytes.rest c.if-at_end.true c.eof-at_end.ensures,
)

pub returns-in-Err-clause-refused : goal.returns-in-Err-clause-refused
returns-in-Err-clause-refused g c =
    let told = tells_both g.V.Visitor.visits (Ok tt) c.args.operators.now c.loop-operators.operators c.tell_run.new.self c.args.visitor.now c.loop-operators.visitor
    c.tell_run.new.visitor c.loop-operators.invariant (tells_walk g.V.Visitor.visits (Ok tt) c.loop-operators.operators c.tell_run.new.self c.loop-operators.visitor c.tell_run.new.visitor c.in_default.ensures.told) in
    tells_stop g.V.Visitor.visits (Ok tt) c.args.operators.now c.tell_run.new.self c.tell_operator_simd.new.operators c.args.visitor.now c.tell_run.new.visitor
    c.tell_operator_simd.new.visitor c.in-Err.error c.told_of.result told (some_rest c.eof-at_end.result c.tell_run.new.self.bytes.rest c.if-at_end.false c.eof-at_end.ensures)
    c.in-Err.ensures.refused.0 c.in-Err.ensures.no_memory c.in-Err.ensures.refused.1 c.in-Err.ensures.told c.told_of.ensures.told c.told_of.ensures.content

pub returns-in-Err-answer-clause-ended : goal.returns-in-Err-answer-clause-ended
returns-in-Err-answer-clause-ended g c =
    let told = tells_both g.V.Visitor.visits (Ok tt) c.args.operators.now c.loop-operators.operators c.tell_run.new.self c.args.visitor.now c.loop-operators.visitor
    c.tell_run.new.visitor c.loop-operators.invariant (tells_walk g.V.Visitor.visits (Ok tt) c.loop-operators.operators c.tell_run.new.self c.loop-operators.visitor c.tell_run.new.visitor c.in_default.ensures.told) in
    let last = answered g.V.Visitor.visits (Ok tt) c.tell_run.new.self c.tell_operator_simd.new.operators c.tell_run.new.visitor
    c.tell_operator_simd.new.visitor c.in-Ok.answer (Err c.in-Err-answer.last) c.in-Err-answer.is c.in-Ok.ensures.visited in
    (c.tell_run.new.self, c.tell_run.new.visitor, told, last.0, c.tell_operator_simd.new.operators, last.1, last.2, sym c.original_position-place.ensures)

pub loop-operators-smaller : goal.loop-operators-smaller
loop-operators-smaller g c =
    let run = tells_fewer g.V.Visitor.visits (Ok tt) c.loop-operators.operators c.tell_run.new.self c.loop-operators.visitor c.tell_run.new.visitor c.in_default.ensures.told in
    let one = visit_fewer g.V.Visitor.visits c.tell_run.new.self c.tell_operator_simd.new.operators c.tell_run.new.visitor c.tell_operator_simd.new.visitor c.in-Ok.answer c.in-Ok.ensures.visited in
    omega (arith, run, one)

pub loop-operators-preserved : goal.loop-operators-preserved
loop-operators-preserved g c =
    let told = tells_both g.V.Visitor.visits (Ok tt) c.args.operators.now c.loop-operators.operators c.tell_run.new.self c.args.visitor.now c.loop-operators.visitor
    c.tell_run.new.visitor c.loop-operators.invariant (tells_walk g.V.Visitor.visits (Ok tt) c.loop-operators.operators c.tell_run.new.self c.loop-operators.visitor c.tell_run.new.visitor c.in_default.ensures.told) in
    tells_on g.V.Visitor.visits (Ok tt) c.args.operators.now c.tell_run.new.self c.tell_operator_simd.new.operators c.args.visitor.now c.tell_run.new.visitor c.tell_operator_simd.new.visitor told
    (answered g.V.Visitor.visits (Ok tt) c.tell_run.new.self c.tell_operator_simd.new.operators c.tell_run.new.visitor c.tell_operator_simd.new.visitor
    c.in-Ok.answer (Ok tt) c.in_default-answer.is c.in-Ok.ensures.visited)

pub returns-clause-whole : goal.returns-clause-whole
returns-clause-whole g c = (c.loop-operators.invariant, none_rest c.eof.result c.loop-operators.operators.bytes.rest c.loop-operators-test.false c.eof.ensures)
