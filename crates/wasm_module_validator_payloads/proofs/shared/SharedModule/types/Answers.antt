use Rattle.std.proofs.Common.{ap, subst}
use Rattle.wasm_types.specs.settings.Limits.{IsWithinCeilings}
use Rattle.wasm_module_validator_payloads.specs.Progress.{Kept}
use Rattle.wasm_module_validator_payloads.proofs.shared.SharedModule.types.Goals as goal

pub returns-clause-within : goal.returns-clause-within
returns-clause-within c =
    subst IsWithinCeilings (ap (λ (k : Kept). k.items.spaces.settings.limits) c.self.view_is) c.self.invariant.2
