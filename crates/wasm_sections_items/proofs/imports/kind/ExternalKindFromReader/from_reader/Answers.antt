-- The byte of a memory.
use Rattle.std.proofs.Common.{ℕ, ap, ◌∙◌}
use Rattle.wasm_types.specs.decoding.declared.Refusal.TheVariants.{Other}
use Rattle.wasm_types.specs.decoding.Decoder.{Outcome, continue_with, choice, refuse}
use Rattle.wasm_sections_items.specs.imports.Decode.{kinds, external_kind}
use Rattle.wasm_sections_items.proofs.imports.kind.ExternalKindFromReader.from_reader.Goals as goal

pub returns-in-2-clause-answer : goal.returns-in-2-clause-answer
unfolding external_kind
returns-in-2-clause-answer c =
    ap (λ (o : Outcome ℕ). continue_with o (choice kinds (refuse Other 1))) c.in_ok-byte.ensures.answer
    ∙ ap (λ (b : ℕ). choice kinds (refuse Other 1) b c.read_u8.new.self) c.in-2.is
