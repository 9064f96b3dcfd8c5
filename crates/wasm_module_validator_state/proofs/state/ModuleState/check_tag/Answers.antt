use Rattle.std.proofs.Common.{subst}
use Rattle.wasm_types.specs.settings.Settings.{Settings}
use Rattle.wasm_module_validator_checks.specs.rules.Valid.{IsValidTagType}
use Rattle.wasm_module_validator_checks.specs.externs.Refusals.{IsNeeded, allowing}
use Rattle.wasm_operator_validator_stacks.specs.resources.Meaning.{Meaning}
use Rattle.wasm_module_validator_resources.specs.Reading.{meaning_of}
use Rattle.wasm_module_validator_state.proofs.state.ModuleState.check_tag.Goals as goal

pub returns-in-Err-clause-refused : goal.returns-in-Err-clause-refused
returns-in-Err-clause-refused c =
    subst (λ (m : Meaning). IsNeeded c.args.self.now.spaces.settings.features
    (λ b. IsValidTagType (allowing b c.args.self.now.spaces.settings) m.«module» c.args.ty.now) c.in-Err.error.kind) c.resources.ensures
    (subst (λ (z : Settings). IsNeeded z.features
    (λ b. IsValidTagType (allowing b z) (meaning_of c.resources.result.types.now.groups c.resources.result.«module».now).«module» c.args.ty.now) c.in-Err.error.kind) c.settings.ensures
    c.in-Err.ensures.refused)
