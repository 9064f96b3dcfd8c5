use Rattle.std.proofs.Common.{◌∷◌, List, ℕ, subst}
use Rattle.wasm_operator_validator_fast_steps.specs.Labels.{Takes}
use Rattle.wasm_operator_validator_fast_steps.proofs.Passing.{no_items}
use Rattle.wasm_operator_validator_fast_steps.proofs.labels.is_taken_once.Goals as goal

pub returns-then-is_bare_at-clause-taken : goal.returns-then-is_bare_at-clause-taken
returns-then-is_bare_at-clause-taken c = λ e met.
    subst (λ (ts : List ℕ). Takes c.args.flat.now (c.args.opens.now.inner ∷ c.args.opens.now.outer) ts c.args.depth) (no_items c.args.types.now c.if-types-eq0.true)
    (c.is_bare_at.ensures c.if-is_bare_at.true c.args.flat.now)
