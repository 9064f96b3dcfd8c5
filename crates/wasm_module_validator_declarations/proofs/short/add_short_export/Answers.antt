use Rattle.std.proofs.Common.{◌≡◌, Ok, Result, subst}
use Rattle.wasm_types.specs.decoding.ErrorValue.{ErrorValue}
use Rattle.wasm_sections_items.specs.declared.imports.kind.ExternalKind.{ExternalKind}
use Rattle.wasm_sections_items.specs.declared.imports.kind.ExternalKind.TheVariants.{Func}
use Rattle.wasm_sections_items.specs.imports.Spells.{ExportTree}
use Rattle.wasm_module_validator_section_order.specs.rules_in_order.Between.{IsBetween}
use Rattle.wasm_module_validator_declarations.specs.Short.{SpellsExport}
use Rattle.wasm_module_validator_declarations.proofs.ShortItems.{other_export}
use Rattle.wasm_module_validator_declarations.proofs.Telling.{export_told}
use Rattle.wasm_module_validator_declarations.proofs.Leaving.{export_left, export_settings, export_types}
use Rattle.wasm_module_validator_declarations.proofs.short.add_short_export.Goals as goal

pub returns-then-not-is_function-clause-added : goal.returns-then-not-is_function-clause-added
returns-then-not-is_function-clause-added c =
    let e = c.in-Some.export in
    other_export c.args.limits.now c.args.types.now.groups c.args.state.now c.add_other_export.new.state c.args.bytes.now c.args.at c.in-Some.end
    (record { name = e.name.now; kind = e.kind; index = e.index }) c.in-Some.ensures c.add_other_export.result c.add_other_export.ensures.added

pub returns-clause-added : goal.returns-clause-added
returns-clause-added c =
    let e = c.in-Some.export in
    let x : ExportTree = record { name = e.name.now; kind = Func; index = e.index } in
    let same : e.kind ≡ Func = c.is_function.ensures c.if-not-is_function.false in
    let none : Result (Unit {0}) ErrorValue = Ok tt in
    record {
      item = x;
      bytes = subst (λ (k : ExternalKind). IsBetween (SpellsExport c.args.limits.now (record { name = e.name.now; kind = k; index = e.index })) c.args.bytes.now c.args.at c.in-Some.end) same c.in-Some.ensures;
      added = (
        export_told c.args.types.now.groups c.args.state.now none x c.in-Some-export_function.ensures.exportable,
        export_left c.args.types.now.groups c.args.state.now x c.export_function.new.self c.in-Some-export_function.ensures.exported,
      );
    }

pub returns-clause-settings : goal.returns-clause-settings
returns-clause-settings c =
    let e = c.in-Some.export in
    export_settings c.args.types.now.groups c.args.state.now (record { name = e.name.now; kind = Func; index = e.index }) c.export_function.new.self c.in-Some-export_function.ensures.exported

pub returns-clause-types : goal.returns-clause-types
returns-clause-types c =
    let e = c.in-Some.export in
    export_types c.args.types.now.groups c.args.state.now (record { name = e.name.now; kind = Func; index = e.index }) c.export_function.new.self c.in-Some-export_function.ensures.exported
