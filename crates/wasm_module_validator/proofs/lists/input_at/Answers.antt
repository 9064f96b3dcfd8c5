use Rattle.std.proofs.Common.{arith}
use Rattle.std.proofs.lemmas.Grind.{elements}
use Rattle.wasm_module_validator.proofs.lists.input_at.Goals as goal

pub returns : goal.returns
returns c = grind (arith, elements)
