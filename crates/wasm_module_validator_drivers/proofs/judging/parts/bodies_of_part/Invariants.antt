use Rattle.std.proofs.Common.{◌≡◌, length}
use Rattle.wasm_module_validator_drivers.specs.judging.Bodies.{of_part}
use Rattle.wasm_module_validator_drivers.proofs.judging.parts.bodies_of_part.Given as goal

-- of the bodies so far those of the part were kept
abbrev pub invariant-loop-body : goal.invariant-loop-body
invariant-loop-body l = record {
  can : goal.iterator-loop-body.can_next l.body-iterator;
  finite : goal.iterator-loop-body.is_finite l.body-iterator;
  counted : l.number ≡ length l.yielded;
  kept : l.mine.items ≡ of_part l.part l.parts 0 l.yielded;
}
