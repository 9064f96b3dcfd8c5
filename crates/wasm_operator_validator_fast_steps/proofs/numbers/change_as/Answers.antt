use Rattle.std.proofs.Common.{◌+◌, ◌∷◌, [], refl}
use Rattle.wasm_operator_validator_fast_steps.proofs.Rows.{took_number}
use Rattle.wasm_operator_validator_fast_steps.proofs.numbers.change_as.Goals as goal

pub returns-clause-leads : goal.returns-clause-leads
returns-clause-leads c =
    let (rest, taken, put) = c.if-not-change.ensures refl in
    took_number c.args.tables.now c.args.bytes.now c.args.at (c.args.at + 1) c.args.opens.now.inner c.args.opens.now.outer c.args.stack.now c.change.new.self
    c.args.code c.requires.begins refl (c.args.takes ∷ []) (c.args.gives ∷ []) c.requires.number rest c.args.stack.now.1 taken put
