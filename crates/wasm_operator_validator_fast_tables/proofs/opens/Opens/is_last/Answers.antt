use Rattle.std.proofs.Common.{arith}
use Rattle.wasm_operator_validator_fast_tables.proofs.Nesting.{alone}
use Rattle.wasm_operator_validator_fast_tables.proofs.opens.Opens.is_last.Goals as goal

pub returns : goal.returns
returns c = λ e. alone c.self.inside.frames c.args.self.now c.self.view_is (omega (arith, c.len.ensures, c.if-len-gt1.false))
