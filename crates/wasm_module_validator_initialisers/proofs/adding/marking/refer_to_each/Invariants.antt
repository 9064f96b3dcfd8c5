-- The functions that are left lead to the same marks.
use Rattle.std.proofs.Common.{◌≡◌, drop}
use Rattle.wasm_module_validator_state.specs.invariant.Standing.{marking}
use Rattle.wasm_module_validator_initialisers.proofs.adding.marking.refer_to_each.Given as goal

abbrev pub invariant-loop-at : goal.invariant-loop-at
invariant-loop-at l = record l.fn.state { spaces = marking l.names l.fn.state.spaces } ≡ record l.state { spaces = marking (drop l.at l.names) l.state.spaces }
