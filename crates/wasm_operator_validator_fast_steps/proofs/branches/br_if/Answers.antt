use Rattle.std.proofs.Common.{◌∷◌, [], refl}
use Rattle.wasm_operator_validator_fast_tables.specs.Stacks.{with_all}
use Rattle.wasm_operator_validator_fast_tables.proofs.Lowering.{lowered, lower_past}
use Rattle.wasm_operator_validator_fast_steps.proofs.Rows.{took_br_if}
use Rattle.wasm_operator_validator_fast_steps.proofs.Frames.{bare_label}
use Rattle.wasm_operator_validator_fast_steps.proofs.branches.br_if.Goals as goal

pub returns-then-is_bare-clause-leads : goal.returns-then-is_bare-clause-leads
returns-then-is_bare-clause-leads c =
    let frame = c.in-Some-frame_at.frame in
    let under = c.take.new.self in
    let (params, results) = c.is_bare.ensures c.if-is_bare.true in
    took_br_if c.args.tables.now c.args.bytes.now c.args.at c.in-Some.end c.args.opens.now.inner c.args.opens.now.outer c.args.stack.now under c.requires.begins c.in-Some.depth c.in-Some.ensures frame c.in-Some-frame_at.ensures
    [] (bare_label c.args.tables.now.known.flat.items frame.sig params results frame.kind) under under (c.if-not-take.ensures refl) refl refl

pub returns-clause-leads : goal.returns-clause-leads
returns-clause-leads c =
    let types = c.in-Some-label.types.now in
    let under = c.take_all.new.self in
    lowered c.args.tables.now c.args.bytes.now c.args.at c.in-Some.end c.args.opens.now.inner c.args.opens.now.outer (c.args.opens.now.inner ∷ c.args.opens.now.outer) c.args.stack.now
    (0 ∷ (with_all types under).0, under.1) c.put_all.new.self
    (lower_past c.args.tables.now.known.order 0 c.args.stack.now c.take-2.new.self (with_all types under) (c.if-not-take-2.ensures refl) (c.if-not-take_all.ensures refl))
    (took_br_if c.args.tables.now c.args.bytes.now c.args.at c.in-Some.end c.args.opens.now.inner c.args.opens.now.outer (0 ∷ (with_all types under).0, under.1) c.put_all.new.self c.requires.begins c.in-Some.depth c.in-Some.ensures c.in-Some-frame_at.frame c.in-Some-frame_at.ensures
    types (rw c.as_slice.ensures.value at c.in-Some-label.ensures) (with_all types under) under refl refl (c.if-not-put_all.ensures refl))
