use Rattle.std.proofs.Common.{refl}
use Rattle.wasm_operator_validator_fast_tables.proofs.Nesting.{turned}
use Rattle.wasm_operator_validator_fast_tables.proofs.opens.Opens.turn.Goals as goal

pub returns : goal.returns
returns c = turned c.self.inside.frames c.args.self.now c.self.view_is c.self.invariant c.replace.new.self _ c.args.frame c.replace.ensures refl
