use Rattle.std.proofs.Common.{◌∙◌, ◌+◌, ℕ, List, drop, ap, sym}
use Rattle.std.proofs.lemmas.List.{at_drop_more, at_drop_all}
use Rattle.wasm_module_validator_state.specs.Items.{Items}
use Rattle.wasm_module_validator_state.specs.invariant.Standing.{marking}
use Rattle.wasm_module_validator_initialisers.proofs.adding.marking.refer_to_each.Goals as goal

pub loop-at-preserved : goal.loop-at-preserved
loop-at-preserved c =
    let xs = c.args.names.now in
    let i = c.loop-at.at in
    let before = c.loop-at.state in
    let rest = drop (i + 1) xs in
    let step = at_drop_more (λ (ys : List ℕ). record before { spaces = marking ys before.spaces }) xs i 0 c.loop-at-test.true in
    c.loop-at.invariant ∙ step ∙ sym (ap (λ (t : Items). record t { spaces = marking rest t.spaces }) c.refer_to_function.ensures.added)

pub returns : goal.returns
returns c =
    let last = c.loop-at.state in
    record { marked = sym (c.loop-at.invariant ∙ at_drop_all (λ (ys : List ℕ). record last { spaces = marking ys last.spaces }) c.args.names.now c.loop-at.at c.loop-at-test.false) }
