use Rattle.std.proofs.Common.{List}
use Rattle.wasm_operators_encoding.specs.Locals.{LocalGroup}
use Rattle.wasm_operators_bodies.specs.Groups.{ReadsGroups}
use Rattle.wasm_operators_bodies.proofs.locals.LocalsReader.pass.Given as goal

-- some groups were read
abbrev pub invariant-loop-self : goal.invariant-loop-self
invariant-loop-self l = (gs : List LocalGroup) × ReadsGroups l.initial.self gs l.self

abbrev pub decreases-loop-self : goal.decreases-loop-self
decreases-loop-self l = l.self.groups
