use Rattle.std.proofs.lemmas.Grind.{elements}
use Rattle.std.proofs.Common.{arith}
use Rattle.wasm_operator_validator_locals.proofs.locals.Locals.get_first.Goals as goal

pub returns-then-index-first : goal.returns-then-index-first
returns-then-index-first c = grind (arith, elements)
