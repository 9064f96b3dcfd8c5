use Rattle.std.proofs.Common.{[], ◌∷◌, ◌∙◌, sym, refl, arith}
use Rattle.wasm_operator_validator_fast_tables.specs.Stacks.{with_all}
use Rattle.wasm_operator_validator_fast_tables.proofs.Lowering.{lowered, lower_past}
use Rattle.wasm_operator_validator_fast_steps.proofs.Rows.{took_return_indirect}
use Rattle.wasm_operator_validator_fast_steps.proofs.Unreaching.{leads_then}
use Rattle.wasm_operator_validator_fast_steps.proofs.calls.return_call_indirect.Goals as goal

pub returns-clause-leads : goal.returns-clause-leads
returns-clause-leads c =
    let opens = c.args.opens.now.inner ∷ c.args.opens.now.outer in
    let (rs, onwards) = c.in-Some-unreached.ensures.leads in
    let after = with_all rs ([], c.take_all.new.self.1) in
    leads_then c.args.tables.now c.args.bytes.now c.args.at c.in-Some-index_at.end c.in-Some-unreached.next opens opens opens c.args.stack.now after c.unreached.new.stack
    (lowered c.args.tables.now c.args.bytes.now c.args.at c.in-Some-index_at.end c.args.opens.now.inner c.args.opens.now.outer opens c.args.stack.now (c.calls_through-code.result ∷ (with_all c.in-Some-returned.params.now c.take_all.new.self).0, c.take_all.new.self.1) after
    (lower_past c.args.tables.now.known.order c.calls_through-code.result c.args.stack.now c.take.new.self (with_all c.in-Some-returned.params.now c.take_all.new.self) (c.if-not-take.ensures refl) (c.if-not-take_all.ensures refl))
    (took_return_indirect c.args.tables.now c.args.bytes.now c.args.at c.in-Some-index_at.end c.args.opens.now.inner c.args.opens.now.outer (c.calls_through-code.result ∷ (with_all c.in-Some-returned.params.now c.take_all.new.self).0, c.take_all.new.self.1) after c.requires
    (sym c.tail_call.ensures ∙ c.if-not-tail_call.false) c.in-Some-index_at.table c.calls_through-code.result (c.calls_through-code.ensures c.if-code-ge-NO_CODE.false) c.in-Some.ty c.in-Some.middle c.in-Some.ensures
    c.in-Some-index_at.ensures c.in-Some-returned.params.now c.in-Some-returned.ensures (with_all c.in-Some-returned.params.now c.take_all.new.self) c.take_all.new.self rs refl refl refl)) onwards

pub returns-clause-forward : goal.returns-clause-forward
returns-clause-forward c = omega (arith, c.in-Some.ensures.forward, c.in-Some-index_at.ensures.forward, c.in-Some-unreached.ensures.forward)

pub returns-clause-inside : goal.returns-clause-inside
returns-clause-inside c = c.in-Some-unreached.ensures.inside
