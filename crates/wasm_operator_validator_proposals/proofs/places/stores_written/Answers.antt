use Rattle.wasm_operator_validator_resources.specs.Meaning.{type_in}
use Rattle.wasm_operator_validator_proposals.proofs.places.stores_written.Goals as goal

pub returns-in-Val : goal.returns-in-Val
unfolding type_in
returns-in-Val g c = rw c.in-Val.is c.is_atomic.ensures
