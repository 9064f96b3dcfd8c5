use Rattle.wasm_module_validator_import_export_places.proofs.Standing.{number_found}
use Rattle.wasm_module_validator_import_export_places.proofs.names.number_at.Goals as goal

pub returns-clause-found : goal.returns-clause-found
returns-clause-found c = number_found c.args.bytes.now c.args.at c.short_u32_at.result c.short_u32_at.ensures.found c.short_u32_at.ensures.none
