use Rattle.std.specs.Prelude.{Option}
use Rattle.wasm_operators_encoding.specs.expressions.Code.{Code}
use Rattle.wasm_module_validator_initialisers.specs.segments.Trees.{bytes_of}
use Rattle.wasm_module_validator_initialisers.specs.segments.Refusals.{RefusesTable}
use Rattle.wasm_sections_items.specs.segments.Tables.{init_of}
use Rattle.wasm_module_validator_resources.specs.rules_in_order.Texts.{SpelledInit}
use Rattle.wasm_module_validator_initialisers.proofs.Moved.{refused_for_memory}
use Rattle.wasm_module_validator_initialisers.proofs.NewTables.{init_spelled}
use Rattle.wasm_module_validator_initialisers.proofs.adding.tables.judge_table.Goals as goal

pub returns-in-Err-name_init-clause-refused : goal.returns-in-Err-name_init-clause-refused
returns-in-Err-name_init-clause-refused g c =
    let e = c.in-Err-name_init.error in
    let text = init_of bytes_of c.args.table.now.init in
    refused_for_memory e.kind ((o : Option Code) × SpelledInit c.args.settings.now text o)
    (RefusesTable c.args.settings.now (g.R.WasmModuleResources.meaning c.args.resources.now) c.args.imported_globals c.args.offset c.args.table.now e)
    (λ n q. c.in-Err-name_init.ensures.refused n q.0 q.1) (init_spelled c.args.settings.now _ _ _ _ text c.in-Ok.ensures.answer.1)
