use Rattle.std.proofs.Common.{◌∙◌, ap, subst, sym}
use Rattle.wasm_sections_items.specs.imports.Spells.{ImportTree}
use Rattle.wasm_module_validator_exports.specs.names.Imports.{with_import as with_name}
use Rattle.wasm_module_validator_state.specs.Adding.{importing}
use Rattle.wasm_module_validator_state.specs.Items.{Items}
use Rattle.wasm_module_validator_resources.specs.Named.{IsReadOver}
use Rattle.wasm_module_validator_state.specs.laws.Importing.{valid_typed, import_read}
use Rattle.wasm_module_validator_state.proofs.Making.{make_imported}
use Rattle.wasm_module_validator_state.proofs.state.ModuleState.add_import.Goals as goal

pub returns-clause-imported : goal.returns-clause-imported
returns-clause-imported c =
    let i : ImportTree = record { module_name = c.args.module.now; field_name = c.args.name.now; ty = c.args.ty } in
    let after = c.self-2.view_is ∙ c.in-Ok-push_import.ensures.added in
    make_imported c.args.types.now.groups i c.check_import_type.new.ty c.args.self.now _ _ _ _ _ c.in-Ok.ensures.named
    (valid_typed c.args.types.now.groups c.args.self.now.spaces c.args.self.now.spaces.settings c.args.ty c.in-Ok.ensures.answer)
    (ap (λ (m : Items). m.spaces) after ∙ ap (λ (m : Items). importing c.check_import_type.new.ty m.spaces) c.self.view_is)
    (ap (λ (m : Items). m.imports) after ∙ c.in-Ok-insert.ensures.added
    ∙ (λ k. with_name c.args.module.now c.args.name.now (c.next_place-place.ensures k) (ap (λ (m : Items). m.imports) c.self.view_is k)))
    (ap (λ (m : Items). m.exports) after ∙ ap (λ (m : Items). m.exports) c.self.view_is)
    c.in-Ok-combine_import.ensures.sum
    (ap (λ (m : Items). m.next_code) after ∙ ap (λ (m : Items). m.next_code) c.self.view_is)

pub returns-clause-read : goal.returns-clause-read
returns-clause-read c =
    let after = c.self-2.view_is ∙ c.in-Ok-push_import.ensures.added in
    let spaces = ap (λ (m : Items). m.spaces) after ∙ ap (λ (m : Items). importing c.check_import_type.new.ty m.spaces) c.self.view_is in
    subst (IsReadOver c.args.types.now.groups) (sym spaces)
    (import_read c.args.types.now.groups c.args.self.now.spaces c.args.self.now.spaces.settings c.args.ty c.check_import_type.new.ty c.in-Ok.ensures.named c.in-Ok.ensures.answer c.requires)
