use Rattle.wasm_types_decoding.specs.ErrorText.{cut_to}
use Rattle.wasm_types_decoding.proofs.error.Error.out_of_memory.Goals as goal

pub returns : goal.returns
unfolding cut_to
returns c = c.of_kind.ensures
