use Rattle.std.proofs.Common.{◌≡◌, ◌∷◌, ℕ, refl, subst, arith}
use Rattle.wasm_operator_validator_fast_tables.proofs.Lowering.{lower_past}
use Rattle.wasm_operator_validator_fast_steps.proofs.Rows.{not_not}
use Rattle.wasm_operator_validator_fast_objects.specs.Objects.{NamesArray}
use Rattle.wasm_operator_validator_fast_objects.proofs.Objects.{lower_on}
use Rattle.wasm_operator_validator_fast_objects.proofs.ArrayRows.{took_array_copy}
use Rattle.wasm_operator_validator_fast_objects.proofs.arrays.array_copy.Goals as goal

pub returns-clause-leads : goal.returns-clause-leads
returns-clause-leads c =
    let count = c.take.new.self in
    let from = c.take-else-not-take.new.self in
    let source = c.take_below.new.self in
    let to = c.take-else-not-take_below.new.self in
    let left = c.take_below-else-not-take-3.new.self in
    let code = c.in-Some.code in
    let same : c.in-Some-array_named.from ≡ code = grind (arith, c.if-from-code.false) in
    took_array_copy c.args.tables.now c.args.bytes.now c.args.at c.args.middle c.in-Some-array_named.end c.args.opens.now.inner c.args.opens.now.outer c.args.stack.now left code c.in-Some.element c.requires
    c.in-Some.next c.in-Some.ensures c.in-Some-array_named._element
    (subst (λ (k : ℕ). NamesArray c.args.bytes.now c.args.tables.now c.in-Some.next k c.in-Some-array_named._element c.in-Some-array_named.end) same c.in-Some-array_named.ensures)
    (not_not _ c.if-not-element.false)
    (lower_past c.args.tables.now.known.order 0 c.args.stack.now count (0 ∷ code ∷ 0 ∷ code ∷ left.0, left.1) (c.if-not-take.ensures refl)
    (lower_past c.args.tables.now.known.order 0 count from (code ∷ 0 ∷ code ∷ left.0, left.1) (c.if-not-take-2.ensures refl)
    (lower_on c.args.tables.now.known.order code from source (0 ∷ code ∷ left.0, left.1) (c.if-not-take_below.ensures refl)
    (lower_past c.args.tables.now.known.order 0 source to (code ∷ left.0, left.1) (c.if-not-take-3.ensures refl) (c.if-not-take_below-2.ensures refl)))))

pub returns-clause-forward : goal.returns-clause-forward
returns-clause-forward c = omega (arith, c.requires.code_there.forward, c.in-Some.ensures.read.forward, c.in-Some-array_named.ensures.read.forward)

pub returns-clause-inside : goal.returns-clause-inside
returns-clause-inside c = c.in-Some-array_named.ensures.read.inside
