-- All that was written, of which a message is kept.
use Rattle.wasm_types_decoding.proofs.Kept.{keeps_none}
use Rattle.wasm_types_decoding.specs.ErrorText.{Keeps}
use Rattle.std.proofs.Common.{[]}
use Rattle.wasm_types_decoding.proofs.error.Error.message.Goals as goal

pub returns : goal.returns
returns c = rw (← c.self.view_is) ((c.write_to.ensures [] (rw (c.new-message.ensures.kept, c.new-message.ensures.open) keeps_none)).message)
