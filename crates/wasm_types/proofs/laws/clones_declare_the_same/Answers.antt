use Rattle.wasm_types.proofs.Copies.{subtype_copied, group_copied}
use Rattle.wasm_types.proofs.laws.clones_declare_the_same.Goals as goal

pub returns-clause-subtypes : goal.returns-clause-subtypes
returns-clause-subtypes c = subtype_copied

pub returns-clause-groups : goal.returns-clause-groups
returns-clause-groups c = group_copied
