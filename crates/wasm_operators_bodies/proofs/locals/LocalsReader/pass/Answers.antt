use Rattle.std.proofs.Common.{[], ◌∷◌, ◌++◌}
use Rattle.wasm_operators_encoding.specs.Locals.{group_of}
use Rattle.wasm_operators_bodies.specs.GroupLaws.{groups_more}
use Rattle.wasm_operators_bodies.proofs.locals.LocalsReader.pass.Goals as goal

pub loop-self-preserved : goal.loop-self-preserved
loop-self-preserved c =
    let g = group_of c.in_ok-read.field-0.0 c.in_ok-read.field-0.1 in
    let before = c.loop-self.invariant in
    (before.0 ++ g ∷ [], groups_more before.0 c.args.self.now c.loop-self.self c.read.new.self g before.1 c.in_ok-read.ensures.read)
