use Rattle.std.proofs.Common.{[], ◌∷◌, ◌+◌, refl}
use Rattle.wasm_operator_validator_fast_tables.specs.Stacks.{with_all}
use Rattle.wasm_operator_validator_fast_tables.proofs.Lowering.{lowered}
use Rattle.wasm_operator_validator_fast_steps.proofs.Rows.{took_return}
use Rattle.wasm_operator_validator_fast_steps.proofs.Unreaching.{leads_then}
use Rattle.wasm_operator_validator_fast_steps.proofs.branches.return_all.Goals as goal

pub returns-clause-leads : goal.returns-clause-leads
returns-clause-leads c =
    let opens = c.args.opens.now.inner ∷ c.args.opens.now.outer in
    let (rs, onwards) = c.in-Some-unreached.ensures.leads in
    let after = with_all rs ([], c.take_all.new.self.1) in
    leads_then c.args.tables.now c.args.bytes.now c.args.at (c.args.at + 1) c.in-Some-unreached.next opens opens opens c.args.stack.now after c.unreached.new.stack
    (lowered c.args.tables.now c.args.bytes.now c.args.at (c.args.at + 1) c.args.opens.now.inner c.args.opens.now.outer opens c.args.stack.now (with_all c.in-Some.types.now c.take_all.new.self) after
    (c.if-not-take_all.ensures refl)
    (took_return c.args.tables.now c.args.bytes.now c.args.at (c.args.at + 1) c.args.opens.now.inner c.args.opens.now.outer (with_all c.in-Some.types.now c.take_all.new.self) after c.requires refl c.in-Some.types.now (rw c.as_slice.ensures.value at c.in-Some.ensures.value) c.take_all.new.self rs refl refl)) onwards
