-- The payload of the next frame, behind which fewer are left.
use Rattle.std.proofs.Common.{subst}
use Rattle.wasm_sections.specs.Walking.{Standing, IsFrameOf}
use Rattle.wasm_sections.specs.WalkLaws.{fewer_left}
use Rattle.wasm_sections.proofs.walk.ParseAll.step.Goals as goal

pub returns-in-Ok-from_frame-clause-answer : goal.returns-in-Ok-from_frame-clause-answer
returns-in-Ok-from_frame-clause-answer c =
    let here : IsFrameOf c.args.self.now.parser c.args.self.now.rest c.in-Ok.frame c.next_frame.new.parser c.in-Ok.rest.now =
    subst (λ (v : Standing). IsFrameOf v.parser v.rest c.in-Ok.frame c.next_frame.new.parser c.in-Ok.rest.now) c.self.view_is c.in-Ok.ensures.answer in
    (c.requires, (c.in-Ok.frame, here, c.in-Ok-from_frame.ensures.answer, c.is_end-self-inside.ensures))

pub returns-in-Ok-from_frame-clause-fewer : goal.returns-in-Ok-from_frame-clause-fewer
returns-in-Ok-from_frame-clause-fewer c =
    let here : IsFrameOf c.args.self.now.parser c.args.self.now.rest c.in-Ok.frame c.next_frame.new.parser c.in-Ok.rest.now =
    subst (λ (v : Standing). IsFrameOf v.parser v.rest c.in-Ok.frame c.next_frame.new.parser c.in-Ok.rest.now) c.self.view_is c.in-Ok.ensures.answer in
    rw (c.requires, c.is_end-self-inside.ensures) (fewer_left c.args.self.now.parser c.args.self.now.rest c.in-Ok.frame c.next_frame.new.parser c.in-Ok.rest.now here)
