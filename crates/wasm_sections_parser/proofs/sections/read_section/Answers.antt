-- Contents begin behind the id and the size.
use Rattle.wasm_sections_parser.specs.declared.sections.Read.{Read}
use Rattle.wasm_sections_parser.specs.PlaceLaws.{placed_behind}
use Rattle.wasm_sections_parser.proofs.sections.read_section.Goals as goal

pub returns-then-id-eq10-clause-placed : goal.returns-then-id-eq10-clause-placed
returns-then-id-eq10-clause-placed c =
    placed_behind {A = Read} (λ x. x.frame) (λ x. x.progress) c.args.reader.now c.read_u8.new.self c.read_var_u32.new.self c.in_ok-id.id c.in_ok-size.size _ c.read_code_start.result
    c.in_ok-id.ensures.answer c.in_ok-size.ensures.answer c.read_code_start.ensures.placed

pub returns-clause-placed : goal.returns-clause-placed
returns-clause-placed c =
    placed_behind {A = Read} (λ x. x.frame) (λ x. x.progress) c.args.reader.now c.read_u8.new.self c.read_var_u32.new.self c.in_ok-id.id c.in_ok-size.size _ c.read_contents.result
    c.in_ok-id.ensures.answer c.in_ok-size.ensures.answer c.read_contents.ensures.placed
