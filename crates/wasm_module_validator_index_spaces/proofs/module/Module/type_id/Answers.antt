use Rattle.std.proofs.Common.{arith}
use Rattle.std.proofs.lemmas.Grind.{elements, moves, pieces}
use Rattle.wasm_module_validator_index_spaces.proofs.module.Module.type_id.Goals as goal

pub returns : goal.returns
returns c = first_of (grind (arith, elements), first_of (search (pieces, arith), grind (arith, moves)))
