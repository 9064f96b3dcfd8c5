use Rattle.std.proofs.lemmas.Grind.{elements}
use Rattle.std.proofs.Common.{arith}
use Rattle.wasm_check_command.proofs.tables.word_at.Goals as goal

pub returns : goal.returns
returns g c = grind (arith, elements)
