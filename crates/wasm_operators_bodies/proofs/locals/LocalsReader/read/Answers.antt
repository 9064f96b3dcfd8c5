use Rattle.std.proofs.Common.{subst, ◌-◌}
use Rattle.wasm_operators_encoding.specs.Locals.{LocalGroup, group_of}
use Rattle.wasm_operators_bodies.specs.Groups.{LocalsLeft, ReadsGroup}
use Rattle.wasm_operators_bodies.specs.GroupLaws.{has_room, group_taken}
use Rattle.wasm_operators_bodies.proofs.locals.LocalsReader.read.Goals as goal

pub overflow_sub-self-2 : goal.overflow_sub-self-2
overflow_sub-self-2 c = has_room c.self.inside.room _ _ _ c.in_ok-group.ensures.answer

pub returns-clause-read : goal.returns-clause-read
returns-clause-read c =
    let before : LocalsLeft = record { bytes = c.self.inside.reader; count = c.self.inside.count; groups = c.self.inside.groups; room = c.self.inside.room } in
    let g : LocalGroup = group_of c.in_ok-group.group.0 c.in_ok-group.group.1 in
    let behind : LocalsLeft = record { bytes = c.read_group.new.reader; count = c.self.inside.count; groups = c.self.inside.groups - 1; room = c.self.inside.room - c.in_ok-group.group.0 } in
    subst (λ (s : LocalsLeft). ReadsGroup s g behind) c.self.view_is (group_taken before g c.read_group.new.reader c.if-self-eq0.false c.in_ok-group.ensures.answer)
