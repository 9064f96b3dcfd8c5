use Rattle.std.proofs.Common.{◌∙◌, ap, subst}
use Rattle.wasm_types.specs.settings.Limits.{IsWithinCeilings}
use Rattle.wasm_module_validator_payloads.specs.Progress.{Kept, Progress}
use Rattle.wasm_module_validator_payloads.proofs.progress.InProgress.types.Goals as goal

pub returns-clause-within : goal.returns-clause-within
returns-clause-within c =
    let kept = ap (λ x. x.collected) c.self-inside.view_is ∙ ap (λ (q : Progress). q.kept) c.self.view_is in
    subst IsWithinCeilings (ap (λ (k : Kept). k.items.spaces.settings.limits) kept) c.self-inside.invariant.1.2
