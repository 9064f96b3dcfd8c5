use Rattle.std.proofs.Common.{◌≡◌, length, take}
use Rattle.wasm_operator_validator_locals.proofs.tape.Tape.truncate.Given as goal

abbrev pub invariant-loop-self : goal.invariant-loop-self
invariant-loop-self g l = (take l.keep l.self.0 ≡ take l.keep l.fn.self.0) × (l.self.1 ≡ l.fn.self.1)

abbrev pub decreases-loop-self : goal.decreases-loop-self
decreases-loop-self g l = length l.self.0
