-- What was read holds its elements.
use Rattle.wasm_sections_items.specs.elements.WholeLaws.{segment_answers}
use Rattle.wasm_sections_items.proofs.elements.segment.ElementOfFromReader.from_reader.Goals as goal

pub returns-clause-answer : goal.returns-clause-answer
returns-clause-answer g c =
    segment_answers g.E.FromReader.view g.E.FromReader.decoder c.read_element.result c.args.reader.now c.read_element.new.reader c.read_element.ensures.answer c.read_element.ensures.items
