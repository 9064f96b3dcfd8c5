use Rattle.std.proofs.Common.{refl, subst, arith}
use Rattle.wasm_operator_validator_fast_tables.specs.Stacks.{Values}
use Rattle.wasm_operator_validator_fast_tables.specs.Values.{IsLowered}
use Rattle.wasm_operator_validator_fast_objects.proofs.StructRows.{took_struct_get}
use Rattle.wasm_operator_validator_fast_objects.proofs.structs.near_struct_get.Goals as goal

pub returns-clause-leads : goal.returns-clause-leads
returns-clause-leads c =
    let t = c.args.tables.now in
    let under = c.change_below.new.self in
    let (same, below, low) = c.if-not-change_below.ensures refl in
    let (rest, taken, put) = c.if-not-change.ensures refl in
    took_struct_get t c.args.bytes.now c.args.at c.args.middle c.in-Some.end c.args.opens.now.inner c.args.opens.now.outer c.args.stack.now c.change.new.self
    c.in-Some.code c.requires.begins c.in-Some.field c.in-Some.ensures c.if-field.false rest under.1
    (subst (λ (v : Values). IsLowered t.known.order c.args.stack.now v) taken low) put

pub returns-clause-forward : goal.returns-clause-forward
returns-clause-forward c = omega (arith, c.requires.begins.code_there.forward, c.in-Some.ensures.struct.read.forward, c.in-Some.ensures.read.forward)

pub returns-clause-inside : goal.returns-clause-inside
returns-clause-inside c = c.in-Some.ensures.read.inside
