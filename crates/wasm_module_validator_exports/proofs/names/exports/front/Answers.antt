use Rattle.std.proofs.Common.{rules}
use Rattle.wasm_module_validator_exports.proofs.names.exports.front.Goals as goal

pub range-requires-clause-end_boundary : goal.range-requires-clause-end_boundary
range-requires-clause-end_boundary c = search rules
