use Rattle.std.proofs.Common.{◌+◌, ◌-◌, length, arith}
use Rattle.wasm_operator_validator_fast_tables.proofs.Tops.{several_on}
use Rattle.wasm_operator_validator_fast_tables.proofs.pile.Pile.put_slice.Goals as goal

pub returns-clause-put : goal.returns-clause-put
returns-clause-put g c = λ e.
    let n = c.self.inside.count in
    let places = c.self.inside.places in
    several_on places n (n + length c.args.items.now - n) c.as_mut_slice.result.now c.copy_from_slice.new.self c.args.items.now c.args.self.now c.as_mut_slice.ensures.value
    c.self.view_is c.self.invariant (omega arith) (omega (arith, c.if-count-as_slice.false)) c.copy_from_slice.ensures.after
