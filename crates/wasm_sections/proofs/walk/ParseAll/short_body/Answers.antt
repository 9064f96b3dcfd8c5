-- A body is no end, and behind it fewer payloads are left.
use Rattle.std.proofs.Common.{◌∙◌, ap, subst}
use Rattle.wasm_types.specs.decoding.Decoder.{State}
use Rattle.wasm_sections_parser.specs.declared.frame.Frame.TheVariants.{CodeEntry}
use Rattle.wasm_sections.specs.declared.payload.Payload.TheVariants.{CodeSectionEntry}
use Rattle.wasm_sections.specs.Walking.{Standing, IsFrameOf}
use Rattle.wasm_sections.specs.WalkLaws.{fewer_left}
use Rattle.wasm_sections.proofs.walk.ParseAll.short_body.Goals as goal

pub returns-clause-answer : goal.returns-clause-answer
returns-clause-answer c =
    let here : IsFrameOf c.args.self.now.parser c.args.self.now.rest (CodeEntry c.in-Some.part) c.next_body.new.parser c.in-Some.rest.now =
    subst (λ (v : Standing). IsFrameOf v.parser v.rest (CodeEntry c.in-Some.part) c.next_body.new.parser c.in-Some.rest.now) c.self.view_is c.in-Some.ensures.answer in
    (c.requires, (CodeEntry c.in-Some.part, here, ap (λ (b : State). CodeSectionEntry b) c.new.ensures, ap (λ (v : Standing). v.over) c.self.view_is ∙ c.requires))

pub returns-clause-fewer : goal.returns-clause-fewer
returns-clause-fewer c =
    let here : IsFrameOf c.args.self.now.parser c.args.self.now.rest (CodeEntry c.in-Some.part) c.next_body.new.parser c.in-Some.rest.now =
    subst (λ (v : Standing). IsFrameOf v.parser v.rest (CodeEntry c.in-Some.part) c.next_body.new.parser c.in-Some.rest.now) c.self.view_is c.in-Some.ensures.answer in
    let over = ap (λ (v : Standing). v.over) c.self.view_is ∙ c.requires in
    rw (over, c.requires) (fewer_left c.args.self.now.parser c.args.self.now.rest (CodeEntry c.in-Some.part) c.next_body.new.parser c.in-Some.rest.now here)
