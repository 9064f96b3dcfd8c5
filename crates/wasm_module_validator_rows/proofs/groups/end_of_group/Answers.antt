use Rattle.std.proofs.Common.{◌≡◌, ◌∙◌, ℕ, ◌+◌, ◌≤◌, sym, ⊎_elim, arith}
use Rattle.std.proofs.lemmas.Bool.{cases_lt}
use Rattle.wasm_module_validator_rows.specs.Types.{group_start, group_end}
use Rattle.wasm_module_validator_rows.proofs.Grouping.{around, same_group}
use Rattle.wasm_module_validator_rows.proofs.groups.end_of_group.Goals as goal

pub loop-behind-init : goal.loop-behind-init
loop-behind-init c =
    let r = c.requires.counted in
    let k = c.requires.known in
    let a = around c.args.types.now.groups c.args.id (omega arith) in
    let n = a.ends in
    let w = a.known in
    let fits = c.ranges.total.fits in
    record { from = omega arith; inside = omega arith; outside = omega arith; known = omega arith; some = omega arith }

pub loop-behind-preserved-then-start_of_group-start : goal.loop-behind-preserved-then-start_of_group-start
loop-behind-preserved-then-start_of_group-start c =
    let groups = c.args.types.now.groups in
    let r = c.requires.counted in
    let from = c.loop-behind.invariant.from in
    let outside = c.loop-behind.invariant.outside in
    let known = c.loop-behind.invariant.known in
    let some = c.loop-behind.invariant.some in
    let more = c.loop-behind-test.true in
    let step = c.min-step.ensures in
    let next = c.saturating_mul-step.ensures in
    let same : group_start groups (c.loop-behind.within + c.min-step.result) ≡ group_start groups c.args.id =
    sym c.start_of_group.ensures ∙ c.if-start_of_group-start.true ∙ c.requires.start in
    let within = (same_group groups c.args.id (c.loop-behind.within + c.min-step.result) (omega arith) (omega arith)).0 same in
    record { from = omega arith; inside = omega arith; outside = outside; known = known; some = omega arith }

pub loop-behind-preserved : goal.loop-behind-preserved
loop-behind-preserved c =
    let groups = c.args.types.now.groups in
    let r = c.requires.counted in
    let from = c.loop-behind.invariant.from in
    let known = c.loop-behind.invariant.known in
    let some = c.loop-behind.invariant.some in
    let more = c.loop-behind-test.true in
    let step = c.min-step.ensures in
    let middle : ℕ = c.loop-behind.within + c.min-step.result in
    let told = same_group groups c.args.id middle (omega arith) (omega arith) in
    let past : group_end groups c.args.id ≤ middle = ⊎_elim
    (λ lt. absurd (c.if-start_of_group-start.false (c.start_of_group.ensures ∙ told.1 lt ∙ sym c.requires.start)))
    (λ le. le)
    (cases_lt middle (group_end groups c.args.id)) in
    record { from = from; inside = c.loop-behind.invariant.inside; outside = omega arith; known = omega arith; some = omega arith }
