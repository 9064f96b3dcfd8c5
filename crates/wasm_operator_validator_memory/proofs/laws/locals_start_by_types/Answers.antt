use Rattle.wasm_operator_validator_memory.proofs.Declared.{declared_starts, earlier_stay}
use Rattle.wasm_operator_validator_memory.proofs.laws.locals_start_by_types.Goals as goal

pub returns : goal.returns
returns c = record { declared = declared_starts; earlier = earlier_stay }
