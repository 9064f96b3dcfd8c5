use Rattle.std.proofs.Common.{List, ℕ, subst}
use Rattle.wasm_operator_validator_fast_tables.specs.Stacks.{with_all}
use Rattle.wasm_operator_validator_fast_tables.specs.Values.{IsLowered}
use Rattle.wasm_operator_validator_fast_steps.proofs.Passing.{takes_none}
use Rattle.wasm_operator_validator_fast_steps.proofs.calls.take_params.Goals as goal

pub returns-then-sig-eq0-clause-taken : goal.returns-then-sig-eq0-clause-taken
returns-then-sig-eq0-clause-taken c = λ e. takes_none c.args.tables.now.known.flat.items c.args.sig c.args.stack.now c.args.tables.now.known.order c.if-sig-eq0.true

pub returns-clause-usable : goal.returns-clause-usable
returns-clause-usable c = λ e. rw c.as_slice.ensures.value at c.in-Some.ensures.within

pub returns-clause-taken : goal.returns-clause-taken
returns-clause-taken c = λ e.
    subst (λ (xs : List ℕ). IsLowered c.args.tables.now.known.order c.args.stack.now (with_all xs c.take_all.new.self)) (rw c.as_slice.ensures.value at c.in-Some.ensures.value) (c.take_all.ensures e)
