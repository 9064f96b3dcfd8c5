use Rattle.std.proofs.Common.{◌≡◌, ◌∙◌, ap, subst}
use Rattle.std.specs.Prelude.{option_map, slice_get}
use Rattle.wasm_operator_validator_resources.specs.Meaning.{Meaning, global_in}
use Rattle.wasm_module_validator_resources.specs.Reading.{meaning_of}
use Rattle.wasm_module_validator_payloads.specs.Progress.{Kept}
use Rattle.wasm_module_validator_drivers.proofs.resources.ValidatorResourcesWasmModuleResources.global_at.Goals as goal

pub returns : goal.returns
returns c =
    subst (λ (m : Meaning). option_map (global_in m) c.global_at.result ≡ slice_get m.«module».globals c.args.at) (c.resources.ensures ∙ ap (λ (p : Kept). meaning_of p.groups p.items.spaces) c.deref.ensures) c.global_at.ensures
