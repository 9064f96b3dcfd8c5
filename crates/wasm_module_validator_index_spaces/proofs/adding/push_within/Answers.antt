use Rattle.std.proofs.Common.{rules}
use Rattle.wasm_module_validator_index_spaces.proofs.adding.push_within.Goals as goal

pub returns-then-len-most-clause-stays : goal.returns-then-len-most-clause-stays
returns-then-len-most-clause-stays c = search rules
