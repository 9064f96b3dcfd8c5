use Rattle.std.proofs.Common.{◌∙◌, ap, List, ℕ}
use Rattle.wasm_operator_validator_fast_tables.specs.Stacks.{with_all}
use Rattle.wasm_operator_validator_fast_steps.proofs.Passing.{gives_none, gives_one}
use Rattle.wasm_operator_validator_fast_steps.proofs.calls.put_results.Goals as goal

pub returns-then-sig-eq0 : goal.returns-then-sig-eq0
returns-then-sig-eq0 c = λ e. gives_none c.args.tables.now.known.flat.items c.args.sig c.args.stack.now c.if-sig-eq0.true

pub returns-then-sig-eq1 : goal.returns-then-sig-eq1
returns-then-sig-eq1 c = λ e.
    let flat = c.as_slice-flat.ensures.value in
    (rw flat at (c.put.ensures e)) ∙ ap (λ (xs : List ℕ). with_all xs c.args.stack.now) (gives_one c.args.tables.now.known.flat.items c.args.sig c.args.stack.now c.if-sig-eq1.true (rw flat at c.if-place-flat.false))

pub returns : goal.returns
returns c = λ e.
    c.put_all.ensures e ∙ ap (λ (xs : List ℕ). with_all xs c.args.stack.now) (rw c.as_slice.ensures.value at c.in-Some.ensures.value)
