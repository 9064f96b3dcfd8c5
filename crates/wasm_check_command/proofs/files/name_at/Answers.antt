use Rattle.std.proofs.lemmas.Grind.{elements}
use Rattle.std.proofs.Common.{arith}
use Rattle.wasm_check_command.proofs.files.name_at.Goals as goal

pub returns : goal.returns
returns c = grind (arith, elements)
