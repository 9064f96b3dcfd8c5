use Rattle.std.proofs.Common.{◌≡◌, ◌∙◌, ap, subst}
use Rattle.std.specs.Prelude.{option_map, slice_get}
use Rattle.wasm_operator_validator_resources.specs.Meaning.{Meaning, reference_in}
use Rattle.wasm_module_validator_resources.specs.Reading.{meaning_of}
use Rattle.wasm_module_validator_payloads.specs.Progress.{Kept}
use Rattle.wasm_module_validator_drivers.proofs.resources.ValidatorResourcesWasmModuleResources.element_type_at.Goals as goal

pub returns : goal.returns
returns c =
    subst (λ (m : Meaning). option_map (reference_in m) c.element_type_at.result ≡ slice_get m.«module».elements c.args.at) (c.resources.ensures ∙ ap (λ (p : Kept). meaning_of p.groups p.items.spaces) c.deref.ensures) c.element_type_at.ensures
