use Rattle.std.proofs.Common.{◌≡◌, length, take}
use Rattle.wasm_operator_validator_locals.proofs.inits.LocalInits.pop_ctrl.Given as goal

abbrev pub invariant-loop-self : goal.invariant-loop-self
invariant-loop-self l = (take l.height l.self.set ≡ take l.height l.fn.self.set) × (l.self.first ≡ l.fn.self.first) × (l.self.saved ≡ l.fn.self.saved)

abbrev pub decreases-loop-self : goal.decreases-loop-self
decreases-loop-self l = length l.self.set
