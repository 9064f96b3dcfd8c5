use Rattle.std.proofs.Common.{◌∷◌, refl, arith}
use Rattle.wasm_operator_validator_fast_tables.proofs.Lowering.{lower_past}
use Rattle.wasm_operator_validator_fast_steps.proofs.Rows.{not_not}
use Rattle.wasm_operator_validator_fast_objects.proofs.Objects.{lower_on}
use Rattle.wasm_operator_validator_fast_objects.proofs.ArrayRows.{took_array_fill}
use Rattle.wasm_operator_validator_fast_objects.proofs.arrays.array_fill.Goals as goal

pub returns-clause-leads : goal.returns-clause-leads
returns-clause-leads c =
    let count = c.take.new.self in
    let element = c.take_below.new.self in
    let place = c.take-else-not-take_below.new.self in
    let left = c.take_below-else-not-take-2.new.self in
    let code = c.in-Some.code in
    took_array_fill c.args.tables.now c.args.bytes.now c.args.at c.args.middle c.in-Some.end c.args.opens.now.inner c.args.opens.now.outer c.args.stack.now left code c.in-Some.element c.requires
    c.in-Some.ensures (not_not _ c.if-not-element.false)
    (lower_past c.args.tables.now.known.order 0 c.args.stack.now count (c.in-Some.element.code ∷ 0 ∷ code ∷ left.0, left.1) (c.if-not-take.ensures refl)
    (lower_on c.args.tables.now.known.order c.in-Some.element.code count element (0 ∷ code ∷ left.0, left.1) (c.if-not-take_below.ensures refl)
    (lower_past c.args.tables.now.known.order 0 element place (code ∷ left.0, left.1) (c.if-not-take-2.ensures refl) (c.if-not-take_below-2.ensures refl))))

pub returns-clause-forward : goal.returns-clause-forward
returns-clause-forward c = omega (arith, c.requires.code_there.forward, c.in-Some.ensures.read.forward)

pub returns-clause-inside : goal.returns-clause-inside
returns-clause-inside c = c.in-Some.ensures.read.inside
