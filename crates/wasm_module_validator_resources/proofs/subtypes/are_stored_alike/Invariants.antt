use Rattle.wasm_module_validator_resources.specs.Named.{AreStoredAlike}
use Rattle.wasm_module_validator_resources.proofs.subtypes.are_stored_alike.Given as goal

abbrev pub invariant-loop-place : goal.invariant-loop-place
invariant-loop-place l = AreStoredAlike l.types.groups l.first l.other l.place
