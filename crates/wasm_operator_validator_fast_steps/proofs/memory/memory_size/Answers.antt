use Rattle.std.proofs.Common.{refl, arith}
use Rattle.wasm_operator_validator_fast_steps.proofs.Rows.{took_memory_size}
use Rattle.wasm_operator_validator_fast_steps.proofs.memory.memory_size.Goals as goal

pub returns-clause-leads : goal.returns-clause-leads
returns-clause-leads c =
    took_memory_size c.args.tables.now c.args.bytes.now c.args.at c.in-Some.end c.args.opens.now.inner c.args.opens.now.outer c.args.stack.now c.put.new.self
    c.in-Some.memory c.addresses_of-address.result c.requires (c.addresses_of-address.ensures c.if-address-ge-NO_CODE.false) c.in-Some.ensures (c.if-not-put.ensures refl)

pub returns-clause-forward : goal.returns-clause-forward
returns-clause-forward c = omega (arith, c.in-Some.ensures.forward)

pub returns-clause-inside : goal.returns-clause-inside
returns-clause-inside c = c.in-Some.ensures.inside
