use Rattle.std.proofs.Common.{rules}
use Rattle.wasm_module_validator_type_list.proofs.beside.BesideCompare.compare.Goals as goal

pub returns-in-Some : goal.returns-in-Some
returns-in-Some c = search rules
