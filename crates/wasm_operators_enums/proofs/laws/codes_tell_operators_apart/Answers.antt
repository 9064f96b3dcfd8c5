use Rattle.wasm_operators_enums.proofs.Codes.{apart}
use Rattle.wasm_operators_enums.proofs.laws.codes_tell_operators_apart.Goals as goal

pub returns : goal.returns
returns c = apart
