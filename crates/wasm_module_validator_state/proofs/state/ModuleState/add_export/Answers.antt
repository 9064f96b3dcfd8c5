use Rattle.std.proofs.Common.{◌∙◌, ◌∷◌, ◌++◌, [], ap}
use Rattle.wasm_module_validator_state.specs.Adding.{exporting}
use Rattle.wasm_module_validator_state.specs.Items.{Items}
use Rattle.wasm_module_validator_state.proofs.Making.{make_exported}
use Rattle.wasm_module_validator_state.proofs.state.ModuleState.add_export.Goals as goal

pub returns-clause-exported : goal.returns-clause-exported
returns-clause-exported c =
    let after = c.self-2.view_is ∙ c.refer_to_exported.ensures in
    make_exported c.args.types.now.groups c.args.name.now c.args.kind c.args.index c.args.self.now _ _ _ _ _
    (ap (λ (m : Items). m.spaces) after ∙ ap (λ (m : Items). exporting c.args.kind c.args.index m.spaces) c.self.view_is)
    (ap (λ (m : Items). m.imports) after ∙ ap (λ (m : Items). m.imports) c.self.view_is)
    (ap (λ (m : Items). m.exports) after ∙ c.in-Ok-insert.ensures.added
    ∙ ap (λ (m : Items). m.exports ++ record { name = c.args.name.now; kind = c.args.kind; index = c.args.index } ∷ []) c.self.view_is)
    c.in-Ok-combine_export.ensures.sum
    (ap (λ (m : Items). m.next_code) after ∙ ap (λ (m : Items). m.next_code) c.self.view_is)
