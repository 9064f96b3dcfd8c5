use Rattle.std.proofs.Common.{length, map}
use Rattle.wasm_operators_enums.specs.Op.{op_of}
use Rattle.wasm_operators_reader.specs.Standing.{Runs}
use Rattle.wasm_operators_reader.proofs.expression.read_all.Given as goal

-- what was read so far is a run
abbrev pub invariant-loop-operators : goal.invariant-loop-operators
invariant-loop-operators l = Runs l.initial.operators (map op_of l.ops.items) l.operators

abbrev pub decreases-loop-operators : goal.decreases-loop-operators
decreases-loop-operators l = length l.operators.bytes.rest
