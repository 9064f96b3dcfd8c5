use Rattle.std.proofs.Common.{◌∙◌, ◌∷◌, ◌++◌, [], ap, sym, subst}
use Rattle.wasm_sections_items.specs.declared.imports.kind.ExternalKind.TheVariants.{Func}
use Rattle.wasm_module_validator_exports.specs.names.Exports.{IsNew, names_of}
use Rattle.wasm_module_validator_resources.specs.Named.{IsReadOver}
use Rattle.wasm_module_validator_state.specs.Adding.{exporting}
use Rattle.wasm_module_validator_state.specs.Items.{Items}
use Rattle.wasm_module_validator_state.specs.laws.Importing.{export_read}
use Rattle.wasm_module_validator_state.proofs.Making.{make_exported}
use Rattle.wasm_module_validator_state.proofs.state.ModuleState.export_function.Goals as goal

pub returns-clause-exportable : goal.returns-clause-exportable
returns-clause-exportable c = record {
  valid = c.in-Some.ensures.there;
  room = λ t. cc;
  size = c.in-Some.ensures.sum.1;
  new = subst (λ (m : Items). IsNew c.args.name.now (names_of m.exports)) c.self.view_is c.in-Added.ensures.0;
}

pub returns-clause-exported : goal.returns-clause-exported
returns-clause-exported c =
    make_exported c.args.types.now.groups c.args.name.now Func c.args.index c.args.self.now _ _ _ _ _
    (c.refer_to_function.ensures ∙ ap (λ (m : Items). exporting Func c.args.index m.spaces) c.self.view_is)
    (ap (λ (m : Items). m.imports) c.self.view_is)
    (c.in-Added.ensures.1 ∙ ap (λ (m : Items). m.exports ++ record { name = c.args.name.now; kind = Func; index = c.args.index } ∷ []) c.self.view_is)
    c.in-Some.ensures.sum.0
    (ap (λ (m : Items). m.next_code) c.self.view_is)

pub returns-clause-read : goal.returns-clause-read
returns-clause-read c =
    let spaces = c.refer_to_function.ensures ∙ ap (λ (m : Items). exporting Func c.args.index m.spaces) c.self.view_is in
    subst (IsReadOver c.args.types.now.groups) (sym spaces) (export_read c.args.types.now.groups c.args.self.now.spaces c.requires Func c.args.index)
