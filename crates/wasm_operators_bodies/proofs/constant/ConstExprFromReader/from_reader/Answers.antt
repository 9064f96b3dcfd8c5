use Rattle.wasm_operators_bodies.specs.ConstantStopLaws.{constant_done}
use Rattle.wasm_operators_bodies.proofs.constant.ConstExprFromReader.from_reader.Goals as goal

pub returns-in-Ok-clause-answer : goal.returns-in-Ok-clause-answer
returns-in-Ok-clause-answer c = constant_done c.args.reader.now c.read.new.reader c.in-Ok.expression c.in-Ok.ensures.read
