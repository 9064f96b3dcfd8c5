use Rattle.std.proofs.Common.{length, sym, ap, subst, List}
use Rattle.wasm_sections_items.specs.imports.Spells.{ImportTree, SpelledImport}
use Rattle.wasm_module_validator_rules.specs.Binary.{contents}
use Rattle.wasm_module_validator_import_export_places.specs.Listing.{WritesImports}
use Rattle.wasm_module_validator_import_export_places.proofs.Parting.{not_broken, no_items, items_at}
use Rattle.wasm_module_validator_import_export_places.proofs.imports.list_imports.Goals as goal

pub returns-in-Broken-clause-listed : goal.returns-in-Broken-clause-listed
returns-in-Broken-clause-listed c z m h = not_broken c.args.bytes.now (contents 2 h.outer.parts) (c.in-Broken.ensures.found z h.outer h.framed)

pub returns-in-Absent-clause-listed : goal.returns-in-Absent-clause-listed
returns-in-Absent-clause-listed c z m h =
    let e = no_items (SpelledImport z) m.imports c.args.bytes.now (contents 2 h.outer.parts) (c.in-Absent.ensures.found z h.outer h.framed) h.sections.imports in
    (sym (ap length e), subst (λ (xs : List ImportTree). WritesImports c.args.bytes.now xs c.args.rows.now) (sym e) tt)

pub returns-in-At-clause-listed : goal.returns-in-At-clause-listed
returns-in-At-clause-listed c z m h =
    let (content, rest, g, q) = items_at (SpelledImport z) m.imports c.args.bytes.now (contents 2 h.outer.parts) c.in-At.start (c.in-At.ensures.found z h.outer h.framed) h.sections.imports in
    c.imports_from.ensures.listed z m.imports content rest g q
