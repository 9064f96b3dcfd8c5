use Rattle.wasm_module_validator_initialisers.specs.segments.Trees.{table_read}
use Rattle.wasm_module_validator_initialisers.proofs.Parts.{turn_is, turn_denied}
use Rattle.wasm_module_validator_initialisers.proofs.segments.tables.check_table.Goals as goal

pub returns-in-Err-check_init-clause-in_turn : goal.returns-in-Err-check_init-clause-in_turn
returns-in-Err-check_init-clause-in_turn g c =
    turn_denied c.args.settings.now (g.R.WasmModuleResources.meaning c.args.resources.now) c.args.imported_globals c.check_table_type.new.ty (table_read c.args.table.now)
    c.in-Ok.ensures.named _ c.in-Err-check_init.ensures.answer

pub returns-clause-in_turn : goal.returns-clause-in_turn
returns-clause-in_turn g c =
    turn_is c.args.settings.now (g.R.WasmModuleResources.meaning c.args.resources.now) c.args.imported_globals c.check_table_type.new.ty (table_read c.args.table.now)
    c.in-Ok.ensures.named c.in-Ok.ensures.answer c.in-Ok-check_init.ensures.answer
