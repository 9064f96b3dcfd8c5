use Rattle.std.proofs.Common.{arith}
use Rattle.std.proofs.lemmas.Grind.{elements, moves, pieces}
use Rattle.wasm_module_validator_index_spaces.proofs.module.Module.function_at.Goals as goal

pub returns-clause-value : goal.returns-clause-value
returns-clause-value c = first_of (grind (arith, elements), first_of (search (pieces, arith), grind (arith, moves)))
