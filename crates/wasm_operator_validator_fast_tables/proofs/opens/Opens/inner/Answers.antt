use Rattle.wasm_operator_validator_fast_tables.proofs.Nesting.{inner_is}
use Rattle.wasm_operator_validator_fast_tables.proofs.opens.Opens.inner.Goals as goal

pub returns : goal.returns
returns c = inner_is c.self.inside.frames c.args.self.now c.self.view_is c.under.result c.under.ensures
