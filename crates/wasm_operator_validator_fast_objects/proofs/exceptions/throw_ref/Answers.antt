use Rattle.std.proofs.Common.{[], ◌∷◌, ◌+◌, refl}
use Rattle.wasm_operator_validator_fast_tables.specs.Stacks.{with_all}
use Rattle.wasm_operator_validator_fast_tables.proofs.Lowering.{lowered}
use Rattle.wasm_operator_validator_fast_steps.proofs.Throwing.{took_throw_ref}
use Rattle.wasm_operator_validator_fast_steps.proofs.Unreaching.{leads_then}
use Rattle.wasm_operator_validator_fast_objects.proofs.exceptions.throw_ref.Goals as goal

pub returns-clause-leads : goal.returns-clause-leads
returns-clause-leads c =
    let m = c.take_below.new.self in
    let opens = c.args.opens.now.inner ∷ c.args.opens.now.outer in
    let (rs, onwards) = c.in-Some.ensures.leads in
    let after = with_all rs ([], m.1) in
    leads_then c.args.tables.now c.args.bytes.now c.args.at (c.args.at + 1) c.in-Some.next opens opens opens c.args.stack.now after c.unreached.new.stack
    (lowered c.args.tables.now c.args.bytes.now c.args.at (c.args.at + 1) c.args.opens.now.inner c.args.opens.now.outer opens c.args.stack.now (28 ∷ m.0, m.1) after (c.if-not-take_below.ensures refl)
    (took_throw_ref c.args.tables.now c.args.bytes.now c.args.at (c.args.at + 1) c.args.opens.now.inner c.args.opens.now.outer (28 ∷ m.0, m.1) after c.if-not-tables.false c.requires refl m rs refl refl)) onwards
