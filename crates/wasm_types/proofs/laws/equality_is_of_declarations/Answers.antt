use Rattle.wasm_types.proofs.Equality.{same_subtypes, same_groups}
use Rattle.wasm_types.proofs.laws.equality_is_of_declarations.Goals as goal

pub returns-clause-subtypes : goal.returns-clause-subtypes
returns-clause-subtypes c = same_subtypes c.equality_is_identity.ensures.value c.equality_is_identity.ensures.storage

pub returns-clause-groups : goal.returns-clause-groups
returns-clause-groups c = same_groups c.equality_is_identity.ensures.value c.equality_is_identity.ensures.storage
