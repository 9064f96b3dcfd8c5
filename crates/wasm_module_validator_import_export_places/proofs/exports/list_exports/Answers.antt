use Rattle.std.proofs.Common.{length, sym, ap, subst, List}
use Rattle.wasm_sections_items.specs.imports.Spells.{ExportTree, SpelledExport}
use Rattle.wasm_module_validator_rules.specs.Binary.{contents}
use Rattle.wasm_module_validator_import_export_places.specs.Listing.{WritesExports}
use Rattle.wasm_module_validator_import_export_places.proofs.Parting.{not_broken, no_items, items_at}
use Rattle.wasm_module_validator_import_export_places.proofs.exports.list_exports.Goals as goal

pub returns-in-Broken-clause-listed : goal.returns-in-Broken-clause-listed
returns-in-Broken-clause-listed c z m h = not_broken c.args.bytes.now (contents 7 h.outer.parts) (c.in-Broken.ensures.found z h.outer h.framed)

pub returns-in-Absent-clause-listed : goal.returns-in-Absent-clause-listed
returns-in-Absent-clause-listed c z m h =
    let e = no_items (SpelledExport z) m.exports c.args.bytes.now (contents 7 h.outer.parts) (c.in-Absent.ensures.found z h.outer h.framed) h.sections.exports in
    (sym (ap length e), subst (λ (xs : List ExportTree). WritesExports c.args.bytes.now xs c.args.rows.now) (sym e) tt)

pub returns-in-At-clause-listed : goal.returns-in-At-clause-listed
returns-in-At-clause-listed c z m h =
    let (content, rest, g, q) = items_at (SpelledExport z) m.exports c.args.bytes.now (contents 7 h.outer.parts) c.in-At.start (c.in-At.ensures.found z h.outer h.framed) h.sections.exports in
    c.exports_from.ensures.listed z m.exports content rest g q
