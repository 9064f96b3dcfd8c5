use Rattle.std.proofs.Common.{arith}
use Rattle.wasm_operator_validator_fast_steps.proofs.Indexed.{argued, argued_long}
use Rattle.wasm_operator_validator_fast_steps.proofs.indices.long_argument_at.Goals as goal

pub returns : goal.returns
returns c = λ positive.
    let few = c.if-address-ge2.false in
    argued_long c.args.tables.now c.args.bytes.now c.args.at c.args.natural c.in-Some-reach_at.end c.addresses_of-address.result
    (argued c.args.tables.now c.args.bytes.now c.args.at c.args.natural c.in-Some.memory c.in-Some.middle c.in-Some-reach_at.offset c.in-Some-reach_at.end c.addresses_of-address.result
    c.in-Some.ensures.named (rw c.memory64.ensures at c.in-Some-reach_at.ensures) c.if-flags-natural.false c.if-offset-ge4294967296.false
    (c.addresses_of-address.ensures (omega (arith, few))))
    few (omega (arith, c.in-Some.ensures.forward, c.in-Some-reach_at.ensures.forward))
