use Rattle.std.proofs.Common.{rules}
use Rattle.wasm_operator_validator_locals.proofs.inits.LocalInits.is_uninit.Goals as goal

pub returns-in-Set : goal.returns-in-Set
returns-in-Set c = search rules
