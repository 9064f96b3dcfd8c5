use Rattle.std.proofs.Common.{rules}
use Rattle.wasm_module_validator_initialisers.proofs.elements.naming.push_name.Goals as goal

pub returns-clause-named : goal.returns-clause-named
returns-clause-named c = search rules
