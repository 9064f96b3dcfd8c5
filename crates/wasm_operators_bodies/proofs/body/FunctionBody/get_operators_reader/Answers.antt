use Rattle.std.proofs.Common.{rules}
use Rattle.wasm_operators_bodies.proofs.body.FunctionBody.get_operators_reader.Goals as goal

pub returns-in-Ok-clause-answer : goal.returns-in-Ok-clause-answer
returns-in-Ok-clause-answer c = search rules
