use Rattle.std.proofs.Common.{◌∙◌, ◌<◌, length, refl, ap, subst, sym}
use Rattle.wasm_sections_items.specs.imports.Spells.{ImportTree}
use Rattle.wasm_sections_items.specs.declared.imports.type_ref.TypeRef.TheVariants.{Func}
use Rattle.wasm_module_validator_exports.specs.names.Imports.{with_import as with_name}
use Rattle.wasm_module_validator_state.specs.Adding.{importing}
use Rattle.wasm_module_validator_state.specs.Items.{Items, next_place}
use Rattle.wasm_module_validator_resources.specs.Named.{IsReadOver}
use Rattle.wasm_module_validator_state.specs.laws.Importing.{function_known, import_read}
use Rattle.wasm_module_validator_state.proofs.Making.{make_imported}
use Rattle.wasm_module_validator_state.proofs.state.ModuleState.import_function.Goals as goal

pub import_function_named-requires : goal.import_function_named-requires
import_function_named-requires c =
    subst (λ (m : Items). c.args.type_index < length m.spaces.types) (sym c.self.view_is)
    (function_known c.args.types.now.groups c.args.self.now.spaces c.args.type_index c.in-Some.ensures.function)

pub returns-clause-importable : goal.returns-clause-importable
returns-clause-importable c = record {
  valid = c.in-Some.ensures.function;
  room = subst (λ (m : Items). length m.spaces.functions < m.spaces.settings.limits.functions) c.self.view_is c.in-Some-import_function_named.ensures.room;
  size = c.in-Some.ensures.sum.1;
}

pub returns-clause-imported : goal.returns-clause-imported
returns-clause-imported c =
    let i : ImportTree = record { module_name = c.args.module.now; field_name = c.args.name.now; ty = Func c.args.type_index } in
    make_imported c.args.types.now.groups i (Func c.args.type_index) c.args.self.now _ _ _ _ _ refl
    (function_known c.args.types.now.groups c.args.self.now.spaces c.args.type_index c.in-Some.ensures.function)
    (c.in-Some-import_function_named.ensures.added ∙ ap (λ (m : Items). importing (Func c.args.type_index) m.spaces) c.self.view_is)
    (c.in-Some-import_function_named.ensures.named
    ∙ ap (λ (m : Items). with_name c.args.module.now c.args.name.now (next_place (Func c.args.type_index) m.spaces) m.imports) c.self.view_is)
    (ap (λ (m : Items). m.exports) c.self.view_is)
    c.in-Some.ensures.sum.0
    (ap (λ (m : Items). m.next_code) c.self.view_is)

pub returns-clause-read : goal.returns-clause-read
returns-clause-read c =
    let spaces = c.in-Some-import_function_named.ensures.added ∙ ap (λ (m : Items). importing (Func c.args.type_index) m.spaces) c.self.view_is in
    subst (IsReadOver c.args.types.now.groups) (sym spaces)
    (import_read c.args.types.now.groups c.args.self.now.spaces c.args.self.now.spaces.settings (Func c.args.type_index) (Func c.args.type_index) refl c.in-Some.ensures.function c.requires)
