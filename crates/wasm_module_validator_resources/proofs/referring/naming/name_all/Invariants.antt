use Rattle.std.proofs.Common.{length}
use Rattle.wasm_module_validator_resources.specs.referring.NamingLaws.{HasNamed}
use Rattle.wasm_module_validator_resources.proofs.referring.naming.name_all.Given as goal

-- what was read so far is named
abbrev pub invariant-loop-operators : goal.invariant-loop-operators
invariant-loop-operators l = HasNamed l.initial.operators l.initial.names.items l.operators l.names.items

abbrev pub decreases-loop-operators : goal.decreases-loop-operators
decreases-loop-operators l = length l.operators.bytes.rest
