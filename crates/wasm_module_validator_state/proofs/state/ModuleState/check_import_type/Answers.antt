use Rattle.std.proofs.Common.{subst, IfErr}
use Rattle.wasm_types.specs.settings.Settings.{Settings}
use Rattle.wasm_module_validator_checks.specs.rules.Valid.{IsValidImport}
use Rattle.wasm_module_validator_checks.specs.externs.Refusals.{IsRefusal, allowing}
use Rattle.wasm_operator_validator_stacks.specs.resources.Meaning.{Meaning}
use Rattle.wasm_module_validator_resources.specs.Reading.{meaning_of}
use Rattle.wasm_module_validator_state.proofs.state.ModuleState.check_import_type.Goals as goal

pub returns-clause-refused : goal.returns-clause-refused
returns-clause-refused c =
    subst (λ (m : Meaning). IfErr c.check_import.result (λ e. IsRefusal c.args.self.now.spaces.settings.features
    (λ b. IsValidImport (allowing b c.args.self.now.spaces.settings) m.«module» c.args.ty.now) e.kind)) c.resources.ensures
    (subst (λ (z : Settings). IfErr c.check_import.result (λ e. IsRefusal z.features
    (λ b. IsValidImport (allowing b z) (meaning_of c.resources.result.types.now.groups c.resources.result.«module».now).«module» c.args.ty.now) e.kind)) c.settings.ensures
    c.check_import.ensures.refused)
