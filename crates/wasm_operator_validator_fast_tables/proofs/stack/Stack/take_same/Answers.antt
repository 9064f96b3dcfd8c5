use Rattle.std.proofs.Common.{◌≤◌, ◌-◌, length, refl, arith}
use Rattle.wasm_operator_validator_fast_tables.proofs.Lying.{all_off}
use Rattle.wasm_operator_validator_fast_tables.proofs.stack.Stack.take_same.Goals as goal

pub returns-clause-taken : goal.returns-clause-taken
returns-clause-taken c = λ e.
    let few : length c.args.types.now ≤ length c.self.inside.items - c.self.inside.base = omega (arith, c.len-held.ensures, c.if-count-held.false) in
    all_off c.self.inside.base (length c.args.types.now) c.args.types.now c.last.result.now c.self.inside.items c.keep.new.self c.args.self.now c.self.invariant c.self.view_is few
    c.last.ensures (c.if-not-are_same.ensures refl) (rw c.len-held.ensures at c.keep.ensures)
