use Rattle.std.proofs.Common.{rules}
use Rattle.wasm_module_validator_canonical_types.proofs.matches.fields.field_matches.Goals as goal

pub returns-else-not-a : goal.returns-else-not-a
returns-else-not-a c = search rules
