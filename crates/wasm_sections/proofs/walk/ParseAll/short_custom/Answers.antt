-- A custom section is no end, and behind it fewer payloads are left.
use Rattle.std.proofs.Common.{◌∙◌, refl, ap, subst}
use Rattle.wasm_sections_parser.specs.declared.frame.Frame.TheVariants.{Custom}
use Rattle.wasm_sections.specs.Walking.{Standing, IsFrameOf}
use Rattle.wasm_sections.specs.WalkLaws.{fewer_left}
use Rattle.wasm_sections.proofs.walk.ParseAll.short_custom.Goals as goal

pub returns-clause-answer : goal.returns-clause-answer
returns-clause-answer c =
    let here : IsFrameOf c.args.self.now.parser c.args.self.now.rest (Custom c.in-Some.section) c.next_custom.new.parser c.in-Some.rest.now =
    subst (λ (v : Standing). IsFrameOf v.parser v.rest (Custom c.in-Some.section) c.next_custom.new.parser c.in-Some.rest.now) c.self.view_is c.in-Some.ensures.answer in
    (c.requires, (Custom c.in-Some.section, here, refl, ap (λ (v : Standing). v.over) c.self.view_is ∙ c.requires))

pub returns-clause-fewer : goal.returns-clause-fewer
returns-clause-fewer c =
    let here : IsFrameOf c.args.self.now.parser c.args.self.now.rest (Custom c.in-Some.section) c.next_custom.new.parser c.in-Some.rest.now =
    subst (λ (v : Standing). IsFrameOf v.parser v.rest (Custom c.in-Some.section) c.next_custom.new.parser c.in-Some.rest.now) c.self.view_is c.in-Some.ensures.answer in
    let over = ap (λ (v : Standing). v.over) c.self.view_is ∙ c.requires in
    rw (over, c.requires) (fewer_left c.args.self.now.parser c.args.self.now.rest (Custom c.in-Some.section) c.next_custom.new.parser c.in-Some.rest.now here)
