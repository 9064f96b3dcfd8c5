use Rattle.std.proofs.Common.{◌+◌, refl, subst}
use Rattle.wasm_operator_validator_fast_tables.specs.declared.tables.Open.{Open}
use Rattle.wasm_operator_validator_fast_tables.specs.Loop.{Leaves}
use Rattle.wasm_operator_validator_fast_tables.proofs.Lowering.{lowered_goes}
use Rattle.wasm_operator_validator_fast_steps.proofs.Frames.{finished}
use Rattle.wasm_operator_validator_fast_steps.proofs.blocks.finish.Goals as goal

pub returns-clause-goes : goal.returns-clause-goes
returns-clause-goes c = λ e ids z g fits.
    let (m, below, left) = c.leave.ensures e in
    let frame = subst (λ (o : Open). Leaves c.args.tables.now.known.flat.items o m c.leave.new.stack) c.inner-frame.ensures left in
    lowered_goes c.args.tables.now c.args.bytes.now c.args.at c.args.opens.now.inner c.args.opens.now.outer c.args.stack.now m below ids z g fits
    (finished c.args.tables.now c.args.bytes.now c.args.at (c.args.at + 1) c.args.opens.now.inner c.args.opens.now.outer m c.leave.new.stack (record { inside = c.if-at-bytes.false; code_there = c.if-bytes-at-ne11.false })
    c.if-at-bytes-2.false (c.if-not-is_last.ensures refl) frame ids z g fits)
