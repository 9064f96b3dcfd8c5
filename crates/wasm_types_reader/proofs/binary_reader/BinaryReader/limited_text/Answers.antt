-- The message of a count above the limit.
use Rattle.std.proofs.Common.{◌≡◌, ◌∙◌, ℕ, List, Bor, codes}
use Rattle.wasm_types_decoding.specs.Leb.{u32}
use Rattle.wasm_types_reader.specs.Messages.{is_above}
use Rattle.wasm_types_reader.proofs.Said.{says, too_long_fits}
use Rattle.wasm_types_reader.proofs.binary_reader.BinaryReader.limited_text.Goals as goal

pub returns-then-count-limit-clause-too_long : goal.returns-then-count-limit-clause-too_long
returns-then-count-limit-clause-too_long c = says (Bor (List ℕ)) (is_above c.args.self.now.settings.limits.string_bytes (u32 c.args.self.now)) (λ m. m ≡ codes "string size out of bounds") c.string_error.result (c.string_error.ensures.message ∙ too_long_fits)
