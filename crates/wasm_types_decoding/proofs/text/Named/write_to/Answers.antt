-- The parts of a name, one after the other.
use Rattle.wasm_types_decoding.proofs.Kept.{in_4}
use Rattle.wasm_types_decoding.proofs.text.Named.write_to.Goals as goal

pub returns : goal.returns
returns c text k = in_4 text _ _ _ _ _ _ (c.push_words-3.ensures _ (c.number_if_any.ensures _ (c.push_words-2.ensures _ (c.push_words.ensures text k))))
