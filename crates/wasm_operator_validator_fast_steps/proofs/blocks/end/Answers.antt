use Rattle.std.proofs.Common.{◌+◌, ◌∷◌, refl, subst}
use Rattle.wasm_operator_validator_fast_tables.specs.declared.tables.Open.{Open}
use Rattle.wasm_operator_validator_fast_tables.specs.Loop.{Leaves}
use Rattle.wasm_operator_validator_fast_tables.proofs.Lowering.{lowered}
use Rattle.wasm_operator_validator_fast_steps.proofs.Frames.{took_end}
use Rattle.wasm_operator_validator_fast_steps.proofs.blocks.end.Goals as goal

pub returns-clause-leads : goal.returns-clause-leads
returns-clause-leads c =
    let (m, below, left) = c.if-not-leave.ensures refl in
    let frame = subst (λ (o : Open). Leaves c.args.tables.now.known.flat.items o m c.leave.new.stack) c.inner-frame.ensures left in
    lowered c.args.tables.now c.args.bytes.now c.args.at (c.args.at + 1) c.args.opens.now.inner c.args.opens.now.outer (c.close.new.self.inner ∷ c.close.new.self.outer) c.args.stack.now m c.leave.new.stack below
    (took_end c.args.tables.now c.args.bytes.now c.args.at (c.args.at + 1) c.args.opens.now.inner c.args.opens.now.outer m c.leave.new.stack c.requires refl c.close.new.self.inner c.close.new.self.outer (c.if-not-close.ensures refl) frame)
