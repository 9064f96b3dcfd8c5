use Rattle.std.proofs.Common.{◌≡◌, subst}
use Rattle.std.specs.Prelude.{IfSome}
use Rattle.wasm_operator_validator_fast_tables.specs.declared.tables.Open.{Open}
use Rattle.wasm_operator_validator_fast_tables.specs.Tables.{results_in}
use Rattle.wasm_operator_validator_fast_tables.proofs.lookups.inner_results.Goals as goal

pub returns : goal.returns
returns c = subst (λ (o : Open). IfSome c.part.result (λ s. s.now ≡ results_in c.args.flat.now o.sig)) c.inner.ensures c.part.ensures.value
