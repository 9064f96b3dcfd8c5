use Rattle.std.proofs.Common.{Ok, Err, sym, arith}
use Rattle.wasm_operators_reader.specs.Standing.{Standing}
use Rattle.wasm_operators_reader.specs.StandingLaws.{same_parts}
use Rattle.wasm_operators_reader.specs.WalkingLaws.{walk_on, walk_same, visit_fewer, answered}
use Rattle.wasm_operators_reader.proofs.frequent.visit_run.Goals as goal

pub returns-in_default-clause-told : goal.returns-in_default-clause-told
returns-in_default-clause-told g c =
    let from : Standing = record { bytes = c.args.reader.now; frames = c.args.control.now.frames } in
    let here : Standing = record { bytes = c.loop-reader.reader; frames = c.loop-reader.control.frames } in
    let there : Standing = record { bytes = c.visit_frequent.new.reader; frames = c.visit_frequent.new.control.frames } in
    let stays = same_parts c.visit_frequent.new.reader c.loop-reader.reader c.visit_frequent.new.control.frames c.loop-reader.control.frames
    c.in_default.ensures.stays.0 c.in_default.ensures.stays.1 in
    walk_same g.V.Visitor.visits (Ok tt) from c.args.visitor.now here there c.loop-reader.visitor c.visit_frequent.new.visitor stays c.in_default.ensures.told c.loop-reader.invariant

pub returns-in-Err-clause-ended : goal.returns-in-Err-clause-ended
returns-in-Err-clause-ended g c =
    let from : Standing = record { bytes = c.args.reader.now; frames = c.args.control.now.frames } in
    let here : Standing = record { bytes = c.loop-reader.reader; frames = c.loop-reader.control.frames } in
    let there : Standing = record { bytes = c.visit_frequent.new.reader; frames = c.visit_frequent.new.control.frames } in
    let last = answered g.V.Visitor.visits (Ok tt) from c.args.visitor.now here there c.loop-reader.visitor c.visit_frequent.new.visitor
    c.in-Some.answer (Err c.in-Err.last) c.in-Err.is c.in-Some.ensures.visited in
    (here, c.loop-reader.visitor, c.loop-reader.invariant, last, sym c.original_position-place.ensures)

pub loop-reader-smaller : goal.loop-reader-smaller
loop-reader-smaller g c =
    let here : Standing = record { bytes = c.loop-reader.reader; frames = c.loop-reader.control.frames } in
    let there : Standing = record { bytes = c.visit_frequent.new.reader; frames = c.visit_frequent.new.control.frames } in
    let one = visit_fewer g.V.Visitor.visits here there c.loop-reader.visitor c.visit_frequent.new.visitor c.in-Some.answer c.in-Some.ensures.visited in
    omega (arith, one)

pub loop-reader-preserved : goal.loop-reader-preserved
loop-reader-preserved g c =
    let from : Standing = record { bytes = c.args.reader.now; frames = c.args.control.now.frames } in
    let here : Standing = record { bytes = c.loop-reader.reader; frames = c.loop-reader.control.frames } in
    let there : Standing = record { bytes = c.visit_frequent.new.reader; frames = c.visit_frequent.new.control.frames } in
    walk_on g.V.Visitor.visits (Ok tt) from here there c.args.visitor.now c.loop-reader.visitor c.visit_frequent.new.visitor c.loop-reader.invariant
    (answered g.V.Visitor.visits (Ok tt) from c.args.visitor.now here there c.loop-reader.visitor c.visit_frequent.new.visitor
    c.in-Some.answer (Ok tt) c.in_default-answer.is c.in-Some.ensures.visited)
