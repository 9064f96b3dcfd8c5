use Rattle.std.proofs.Common.{◌∷◌, [], refl}
use Rattle.wasm_operator_validator_fast_tables.specs.Stacks.{with_all}
use Rattle.wasm_operator_validator_fast_tables.proofs.Lowering.{lowered}
use Rattle.wasm_operator_validator_fast_steps.proofs.Rows.{took_br}
use Rattle.wasm_operator_validator_fast_steps.proofs.Frames.{bare_label}
use Rattle.wasm_operator_validator_fast_steps.proofs.Unreaching.{leads_then}
use Rattle.wasm_operator_validator_fast_steps.proofs.branches.br.Goals as goal

pub returns-clause-leads : goal.returns-clause-leads
returns-clause-leads c =
    let opens = c.args.opens.now.inner ∷ c.args.opens.now.outer in
    let (rs, onwards) = c.in-Some-unreached.ensures.leads in
    let after = with_all rs ([], c.take_all.new.self.1) in
    leads_then c.args.tables.now c.args.bytes.now c.args.at c.in-Some.end c.in-Some-unreached.next opens opens opens c.args.stack.now after c.unreached.new.stack
    (lowered c.args.tables.now c.args.bytes.now c.args.at c.in-Some.end c.args.opens.now.inner c.args.opens.now.outer opens c.args.stack.now (with_all c.in-Some-label.types.now c.take_all.new.self) after
    (c.if-not-take_all.ensures refl)
    (took_br c.args.tables.now c.args.bytes.now c.args.at c.in-Some.end c.args.opens.now.inner c.args.opens.now.outer (with_all c.in-Some-label.types.now c.take_all.new.self) after c.requires.begins c.in-Some.depth c.in-Some.ensures c.in-Some-frame_at.frame c.in-Some-frame_at.ensures
    c.in-Some-label.types.now (rw c.as_slice.ensures.value at c.in-Some-label.ensures) c.take_all.new.self rs refl refl)) onwards

pub returns-then-inner-eq0-clause-leads : goal.returns-then-inner-eq0-clause-leads
returns-then-inner-eq0-clause-leads c =
    let frame = c.in-Some-frame_at.frame in
    let (params, results) = c.is_bare.ensures c.if-is_bare.true in
    took_br c.args.tables.now c.args.bytes.now c.args.at c.in-Some.end c.args.opens.now.inner c.args.opens.now.outer c.args.stack.now c.cut.new.self c.requires.begins c.in-Some.depth c.in-Some.ensures frame c.in-Some-frame_at.ensures
    [] (bare_label c.args.tables.now.known.flat.items frame.sig params results frame.kind) c.args.stack.now [] refl c.cut.ensures
