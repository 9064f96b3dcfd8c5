use Rattle.std.proofs.Common.{◌∙◌, ap}
use Rattle.std.specs.Prelude.{slice_get}
use Rattle.wasm_operator_validator_resources.specs.Meaning.{table_in}
use Rattle.wasm_module_validator_resources.specs.index_spaces.Spaces.{Spaces}
use Rattle.wasm_module_validator_resources.specs.Reading.{names_in}
use Rattle.wasm_module_validator_resources.proofs.Finding.{mapped}
use Rattle.wasm_module_validator_payloads.specs.Progress.{Kept}
use Rattle.wasm_module_validator_payloads.specs.state.Items.{Items}
use Rattle.wasm_module_validator_drivers.proofs.resources.ValidatorResourcesWasmModuleResources.table_at.Goals as goal

pub returns-clause-exact : goal.returns-clause-exact
returns-clause-exact c =
    c.table_at.ensures ∙ ap (λ (m : Spaces). slice_get m.tables c.args.at) (c.module.ensures ∙ (ap (λ (i : Items). i.spaces) c.state.ensures ∙ ap (λ (p : Kept). p.items.spaces) c.deref.ensures))

pub returns-clause-meaning : goal.returns-clause-meaning
returns-clause-meaning c =
    let k = c.args.self.now.shared.value in
    mapped (table_in (names_in k.groups k.items.spaces.types)) k.items.spaces.tables c.args.at c.table_at.result (returns-clause-exact c)
