use Rattle.std.proofs.Common.{[], ◌∷◌, refl}
use Rattle.wasm_operator_validator_fast_tables.specs.Stacks.{with_all}
use Rattle.wasm_operator_validator_fast_tables.proofs.Lowering.{lowered, lower_past}
use Rattle.wasm_operator_validator_fast_steps.proofs.Rows.{took_br_table}
use Rattle.wasm_operator_validator_fast_steps.proofs.Unreaching.{leads_then}
use Rattle.wasm_operator_validator_fast_steps.proofs.branches.br_table.Goals as goal

pub returns-clause-leads : goal.returns-clause-leads
returns-clause-leads c =
    let opens = c.args.opens.now.inner ∷ c.args.opens.now.outer in
    let (rs, onwards) = c.in-Some-unreached.ensures.leads in
    let after = with_all rs ([], c.take_all.new.self.1) in
    leads_then c.args.tables.now c.args.bytes.now c.args.at c.in-Some-labels_at.end c.in-Some-unreached.next opens opens opens c.args.stack.now after c.unreached.new.stack
    (lowered c.args.tables.now c.args.bytes.now c.args.at c.in-Some-labels_at.end c.args.opens.now.inner c.args.opens.now.outer opens c.args.stack.now (0 ∷ (with_all c.in-Some-labels_at.types.now c.take_all.new.self).0, c.take_all.new.self.1) after
    (lower_past c.args.tables.now.known.order 0 c.args.stack.now c.take.new.self (with_all c.in-Some-labels_at.types.now c.take_all.new.self) (c.if-not-take.ensures refl) (c.if-not-take_all.ensures refl))
    (took_br_table c.args.tables.now c.args.bytes.now c.args.at c.in-Some-labels_at.end c.args.opens.now.inner c.args.opens.now.outer (0 ∷ (with_all c.in-Some-labels_at.types.now c.take_all.new.self).0, c.take_all.new.self.1) after c.requires.begins c.in-Some.count c.in-Some.first c.in-Some.ensures c.if-count-bytes.false
    c.in-Some-labels_at.types.now (rw c.as_slice.ensures.value at c.in-Some-labels_at.ensures) (with_all c.in-Some-labels_at.types.now c.take_all.new.self) c.take_all.new.self rs refl refl refl)) onwards
