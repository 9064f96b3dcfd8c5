use Rattle.std.proofs.Common.{◌∷◌, ◌+◌, refl}
use Rattle.wasm_operators_immediates.specs.declared.block.BlockType.TheVariants.{Empty}
use Rattle.wasm_operators_frequent.proofs.Carried.{empty_there}
use Rattle.wasm_operator_validator_fast_tables.proofs.Lowering.{lowered, lower_past}
use Rattle.wasm_operator_validator_fast_steps.proofs.Frames.{took_if}
use Rattle.wasm_operator_validator_fast_steps.proofs.blocks.begin_if.Goals as goal

pub returns-clause-leads : goal.returns-clause-leads
returns-clause-leads c =
    let (bt, g, typed) = c.in-Some.ensures in
    let (m, below, entered) = c.if-not-enter.ensures refl in
    lowered c.args.tables.now c.args.bytes.now c.args.at c.in-Some.end c.args.opens.now.inner c.args.opens.now.outer (c.enter.new.opens.inner ∷ c.enter.new.opens.outer) c.args.stack.now (0 ∷ m.0, m.1) c.enter.new.stack
    (lower_past c.args.tables.now.known.order 0 c.args.stack.now c.take-2.new.self m (c.if-not-take-2.ensures refl) below)
    (took_if c.args.tables.now c.args.bytes.now c.args.at c.in-Some.end c.args.opens.now.inner c.args.opens.now.outer (0 ∷ m.0, m.1) c.enter.new.stack c.requires.begins bt g c.in-Some.sig typed m refl c.enter.new.opens.inner c.enter.new.opens.outer entered)

pub returns-then-bytes-at-eq64-clause-leads : goal.returns-then-bytes-at-eq64-clause-leads
returns-then-bytes-at-eq64-clause-leads c =
    took_if c.args.tables.now c.args.bytes.now c.args.at (c.args.at + 1 + 1) c.args.opens.now.inner c.args.opens.now.outer c.args.stack.now c.enter_bare.new.stack c.requires.begins Empty (empty_there c.args.bytes.now (c.args.at + 1) c.requires.more c.if-bytes-at-eq64.true) c.bare.result (λ ids z g fits. c.bare.ensures.signature ids c.args.tables.now.known.flat.items) c.take.new.self (c.if-not-take.ensures refl)
    c.enter_bare.new.opens.inner c.enter_bare.new.opens.outer (c.if-not-enter_bare.ensures refl c.args.tables.now.known.flat.items)
