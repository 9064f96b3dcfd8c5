use Rattle.std.proofs.Common.{refl}
use Rattle.wasm_operator_validator_fast_tables.proofs.Nesting.{entered}
use Rattle.wasm_operator_validator_fast_tables.proofs.opens.Opens.nest.Goals as goal

pub returns : goal.returns
returns c = λ e. entered c.self.inside.frames c.args.self.now c.self.view_is c.self.invariant c.push.new.self _ c.args.frame (c.push.ensures.put e) refl
