use Rattle.std.proofs.Common.{refl, arith}
use Rattle.wasm_operator_validator_fast_tables.proofs.Nesting.{left}
use Rattle.wasm_operator_validator_fast_tables.proofs.opens.Opens.close.Goals as goal

pub returns : goal.returns
returns c = λ e. left c.self.inside.frames c.shorten.new.self c.args.self.now _ c.self.view_is c.shorten.ensures refl (omega (arith, c.len.ensures, c.if-len-le1.false))
