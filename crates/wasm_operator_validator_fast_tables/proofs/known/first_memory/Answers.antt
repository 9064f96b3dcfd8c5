use Rattle.std.proofs.Common.{sym}
use Rattle.wasm_operator_validator_fast_tables.proofs.known.first_memory.Goals as goal

pub returns : goal.returns
returns g c = λ lt. (c.in-Some.memory, sym c.in-Some.ensures, c.address_of.ensures)
