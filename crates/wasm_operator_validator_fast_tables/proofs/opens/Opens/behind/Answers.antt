use Rattle.wasm_operator_validator_fast_tables.proofs.Nesting.{behind_is}
use Rattle.wasm_operator_validator_fast_tables.proofs.opens.Opens.behind.Goals as goal

pub returns : goal.returns
returns c = behind_is c.self.inside.frames c.args.self.now c.self.view_is c.self.invariant c.args.depth c.under.result c.under.ensures
