use Rattle.std.proofs.Common.{arith, rules}
use Rattle.std.proofs.lemmas.Grind.{common_steps}
use Rattle.wasm_operators_encoding.specs.Locals.{group, group_within}
use Rattle.wasm_operators_bodies.proofs.locals.group_ahead.Goals as goal

pub returns-then-count-room-clause-answer : goal.returns-then-count-room-clause-answer
unfolding group_within group
returns-then-count-room-clause-answer c = first_of (search rules, grind (arith, common_steps))
