use Rattle.std.proofs.Common.{replicate}
use Rattle.wasm_operator_validator_fast_tables.specs.Stacks.{with_all}
use Rattle.wasm_operator_validator_fast_tables.specs.Values.{IsLowered}
use Rattle.wasm_operator_validator_fast_objects.proofs.arrays.take_alike.Given as goal

abbrev pub invariant-loop : goal.invariant-loop
invariant-loop l = IsLowered l.order l.fn.stack (with_all (replicate l.counter l.code) l.stack)
