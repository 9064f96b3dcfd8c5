use Rattle.std.proofs.Common.{refl, arith}
use Rattle.wasm_operators_immediates.specs.Kinds.{Plain}
use Rattle.wasm_operator_validator_fast_steps.proofs.Rows.{took_load}
use Rattle.wasm_operator_validator_fast_steps.proofs.memory.load.Goals as goal

pub returns-clause-leads : goal.returns-clause-leads
returns-clause-leads c =
    let (rest, taken, put) = c.if-not-change.ensures refl in
    took_load c.args.tables.now c.args.bytes.now c.args.at c.in-Some.end c.args.opens.now.inner c.args.opens.now.outer c.args.stack.now c.change.new.self c.args.code
    c.load_shape-natural.result.0 c.load_shape-natural.result.1 c.in-Some.address c.requires (c.load_shape-natural.ensures.access c.if-gives-ge-NO_CODE.false) c.in-Some.ensures
    rest c.args.stack.now.1 taken put

pub returns-clause-forward : goal.returns-clause-forward
returns-clause-forward c = omega (arith, (c.in-Some.ensures.read Plain).forward)

pub returns-clause-inside : goal.returns-clause-inside
returns-clause-inside c = (c.in-Some.ensures.read Plain).inside
