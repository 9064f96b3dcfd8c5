use Rattle.std.proofs.Common.{refl}
use Rattle.wasm_operators_tests.proofs.list.list_is_whole.Goals as goal

pub returns : goal.returns
returns g c = refl
