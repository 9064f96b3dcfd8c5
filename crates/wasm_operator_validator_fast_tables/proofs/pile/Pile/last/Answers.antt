use Rattle.wasm_operator_validator_fast_tables.proofs.Tops.{last_are}
use Rattle.wasm_operator_validator_fast_tables.proofs.pile.Pile.last.Goals as goal

pub returns : goal.returns
returns g c =
    last_are c.as_slice.result.now c.self.inside.count c.args.count c.args.self.now (rw c.as_slice.ensures.value c.self.view_is) (rw c.as_slice.ensures.value c.self.invariant) c.requires
