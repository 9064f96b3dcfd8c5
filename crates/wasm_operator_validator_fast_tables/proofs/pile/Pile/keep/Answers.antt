use Rattle.wasm_operator_validator_fast_tables.proofs.Tops.{kept}
use Rattle.wasm_operator_validator_fast_tables.proofs.pile.Pile.keep.Goals as goal

pub returns : goal.returns
returns g c = kept c.self.inside.places.items c.self.inside.count c.args.count c.args.self.now c.self.view_is c.self.invariant c.requires
