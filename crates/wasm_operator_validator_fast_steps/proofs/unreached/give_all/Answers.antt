use Rattle.std.proofs.Common.{◌∙◌, ap}
use Rattle.wasm_operator_validator_fast_tables.specs.Stacks.{Values, with_all}
use Rattle.wasm_operator_validator_fast_steps.proofs.Unreaching.{some_given}
use Rattle.wasm_operator_validator_fast_steps.proofs.unreached.give_all.Goals as goal

pub returns-then-results-le-MANY : goal.returns-then-results-le-MANY
returns-then-results-le-MANY c = λ e. (c.args.results.now, c.put_all.ensures e ∙ ap (with_all c.args.results.now) c.cut.ensures)

pub returns : goal.returns
returns c = λ e.
    some_given c.put_all-2.new.self c.args.stack.now.1 (ap (λ (v : Values). v.1) (c.put_all-2.ensures e) ∙ c.keep-kept.ensures.under)
