use Rattle.std.proofs.Common.{refl}
use Rattle.wasm_operators_bodies.specs.Groups.{counted_groups}
use Rattle.wasm_operators_bodies.proofs.locals.LocalsReader.new.Goals as goal

pub returns-clause-answer : goal.returns-clause-answer
unfolding counted_groups
returns-clause-answer c = (c.read_var_u32.new.self, rw (c.limits-room.ensures.value, c.in_ok-count.ensures.answer) refl)
