use Rattle.wasm_types.proofs.Values.{same_declared, group_declared}
use Rattle.wasm_types.proofs.laws.read_values_declare_the_same.Goals as goal

pub returns-clause-subtypes : goal.returns-clause-subtypes
returns-clause-subtypes c = same_declared

pub returns-clause-groups : goal.returns-clause-groups
returns-clause-groups c = group_declared
