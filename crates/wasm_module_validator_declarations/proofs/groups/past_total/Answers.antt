use Rattle.wasm_types.specs.decoding.ErrorText.{cut_to}
use Rattle.wasm_module_validator_declarations.proofs.groups.past_total.Goals as goal

pub returns : goal.returns
unfolding cut_to
returns c = c.new.ensures
