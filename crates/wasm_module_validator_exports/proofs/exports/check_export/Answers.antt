use Rattle.wasm_module_validator_exports.proofs.exports.check_export.Goals as goal

pub returns-in-Global-clause-refused : goal.returns-in-Global-clause-refused
returns-in-Global-clause-refused g c = rw c.in-Global.is c.check_global.ensures.refused
