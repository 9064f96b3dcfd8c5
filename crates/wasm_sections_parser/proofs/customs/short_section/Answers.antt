-- The contents begin behind the id and the size.
use Rattle.std.proofs.Common.{◌∙◌, sym, subst}
use Rattle.wasm_sections_parser.specs.Places.{HasContentsAt}
use Rattle.wasm_sections_parser.specs.PlaceLaws.{begins_behind}
use Rattle.wasm_sections_parser.proofs.NextCustom.{section_read}
use Rattle.wasm_sections_parser.proofs.customs.short_section.Goals as goal

pub returns-clause-read : goal.returns-clause-read
returns-clause-read c =
    let b = begins_behind c.args.reader.now c.short_u8.new.self c.short_u32.new.self c.in-Some.id c.in-Some-short_u32.size c.in-Some.ensures.found c.in-Some-short_u32.ensures.found in
    section_read c.args.progress c.args.reader.now c.short_u8.new.self c.short_u32.new.self c.in-Some-short_part.part c.short_part.new.reader c.in-Some-short_u32.size _
    (rw c.if-id-ne0.false at c.in-Some.ensures.found) c.in-Some-short_u32.ensures.found c.in-Some-short_part.ensures.read
    (c.in-Some-short_part.ensures.settings ∙ b.1) (c.in-Some-short_contents.ensures.read c.args.progress c.short_part.new.reader)

pub returns-clause-placed : goal.returns-clause-placed
returns-clause-placed c =
    let b = begins_behind c.args.reader.now c.short_u8.new.self c.short_u32.new.self c.in-Some.id c.in-Some-short_u32.size c.in-Some.ensures.found c.in-Some-short_u32.ensures.found in (
      c.in-Some-short_contents.ensures.ends ∙ c.in-Some-short_part.ensures.ends,
      c.in-Some-short_contents.ensures.all ∙ c.in-Some-short_part.ensures.ends,
      subst (HasContentsAt c.args.reader.now) (sym (c.in-Some-short_contents.ensures.starts ∙ c.in-Some-short_part.ensures.begins)) b.0,
    )
