-- A part's bytes stand between the reader's offsets.
use Rattle.std.proofs.Common.{arith}
use Rattle.wasm_sections_parser.specs.SettledLaws.{bytes_span}
use Rattle.wasm_sections_parser.proofs.customs.short_part.Goals as goal

pub part_between-requires : goal.part_between-requires
part_between-requires c = omega (
  arith,
  bytes_span c.args.size c.args.reader.now c.read_bytes.new.self c.in-Ok.text.now c.in-Ok.ensures.answer,
  c.original_position-place.ensures,
  c.original_position-end.ensures,
)
