use Rattle.std.proofs.Common.{refl, Ok, Err}
use Rattle.wasm_operators_reader.specs.Standing.{at_start}
use Rattle.wasm_operators_reader.specs.WalkingLaws.{until_somewhere}
use Rattle.wasm_operators.proofs.expressions.visit_expression.Goals as goal

pub visit_expression_with_offset-requires : goal.visit_expression_with_offset-requires
visit_expression_with_offset-requires g c κs = (refl, tt)

pub returns-in-Err-clause-refused : goal.returns-in-Err-clause-refused
returns-in-Err-clause-refused g c = c.in-Err.ensures.refused

pub returns-in-Err-clause-stops : goal.returns-in-Err-clause-stops
returns-in-Err-clause-stops g c = c.in-Err.ensures.stops

pub returns-in-Err-end-clause-ended : goal.returns-in-Err-end-clause-ended
returns-in-Err-end-clause-ended g c =
    let until = rw c.in-Err-end.is at c.in-Ok.ensures.ended in
    let last = c.in-Err-end.last in
    until_somewhere g.V.Visitor.visits (Ok tt) (at_start c.args.reader) c.args.visitor.now c.visit_expression_with_offset.new.visitor (Err last.0) last.1 until

pub returns-clause-whole : goal.returns-clause-whole
returns-clause-whole g c = rw c.in_default.is at c.in-Ok.ensures.whole
