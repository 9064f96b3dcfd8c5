-- The message of a count above the limit.
use Rattle.std.proofs.Common.{◌≡◌, ◌∙◌, codes}
use Rattle.wasm_types_decoding.specs.Laws.{reaches_then}
use Rattle.wasm_types_decoding.specs.Leb.{u32}
use Rattle.wasm_types_reader.specs.Messages.{is_above}
use Rattle.wasm_types_reader.proofs.Said.{says, too_long_fits}
use Rattle.wasm_types_reader.proofs.binary_reader.BinaryReader.skip_text.Goals as goal

pub returns-then-count-limit-clause-too_long : goal.returns-then-count-limit-clause-too_long
returns-then-count-limit-clause-too_long c = says (Unit {0}) (is_above c.args.self.now.settings.limits.string_bytes (u32 c.args.self.now)) (λ m. m ≡ codes "string size out of bounds") c.string_error.result (c.string_error.ensures.message ∙ too_long_fits)

pub returns-clause-forward : goal.returns-clause-forward
returns-clause-forward c = reaches_then _ _ _ c.in_ok-count.ensures.forward c.in_ok-read_bytes.ensures.forward
