use Rattle.std.proofs.Common.{◌∙◌, Ok, Result, ap}
use Rattle.wasm_types.specs.decoding.ErrorValue.{ErrorValue}
use Rattle.wasm_sections_items.specs.declared.imports.type_ref.TypeRef.TheVariants.{Func}
use Rattle.wasm_sections_items.specs.imports.Spells.{ImportTree, kind_byte}
use Rattle.wasm_module_validator_declarations.proofs.ShortItems.{short_import}
use Rattle.wasm_module_validator_declarations.proofs.Telling.{import_told}
use Rattle.wasm_module_validator_declarations.proofs.Leaving.{import_left, import_settings, import_types}
use Rattle.wasm_module_validator_declarations.proofs.short.add_short_import.Goals as goal

pub returns-clause-added : goal.returns-clause-added
returns-clause-added c =
    let from = c.in-Some.module.now in
    let name = c.in-Some-short_name_at.name.now in
    let index = c.in-Some-short_u32_at.index in
    let x : ImportTree = record { module_name = from; field_name = name; ty = Func index } in
    let none : Result (Unit {0}) ErrorValue = Ok tt in
    record {
      item = x;
      bytes = short_import c.args.bytes.now c.args.at c.in-Some.second c.in-Some-short_name_at.middle index c.in-Some-short_u32_at.end from name c.args.limits.now
          c.in-Some.ensures.name c.in-Some-short_name_at.ensures.name c.in-Some-short_name_at.ensures.inside
          (c.in-Some-kind_of.ensures.byte ∙ ap kind_byte (c.is_function.ensures c.if-not-is_function.false)) c.in-Some-short_u32_at.ensures.found;
      added = (
        import_told c.args.types.now.groups c.args.state.now none x c.in-Some-import_function.ensures.importable,
        import_left c.args.types.now.groups c.args.state.now x c.import_function.new.self c.in-Some-import_function.ensures.imported,
      );
    }

pub returns-clause-settings : goal.returns-clause-settings
returns-clause-settings c =
    import_settings c.args.types.now.groups c.args.state.now
    (record { module_name = c.in-Some.module.now; field_name = c.in-Some-short_name_at.name.now; ty = Func c.in-Some-short_u32_at.index }) c.import_function.new.self
    c.in-Some-import_function.ensures.imported

pub returns-clause-types : goal.returns-clause-types
returns-clause-types c =
    import_types c.args.types.now.groups c.args.state.now
    (record { module_name = c.in-Some.module.now; field_name = c.in-Some-short_name_at.name.now; ty = Func c.in-Some-short_u32_at.index }) c.import_function.new.self
    c.in-Some-import_function.ensures.imported
