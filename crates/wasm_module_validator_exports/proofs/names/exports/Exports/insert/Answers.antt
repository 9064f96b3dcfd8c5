use Rattle.std.proofs.Common.{◌∙◌}
use Rattle.wasm_module_validator_exports.proofs.names.exports.Exports.insert.Goals as goal

pub returns-in-Taken-clause-kept : goal.returns-in-Taken-clause-kept
returns-in-Taken-clause-kept c = c.refuse.ensures.kept ∙ c.in-Taken.ensures.1
