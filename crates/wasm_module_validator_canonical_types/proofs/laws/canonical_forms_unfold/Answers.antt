use Rattle.wasm_module_validator_canonical_types.specs.laws.Written.{allowed_referenced}
use Rattle.wasm_module_validator_canonical_types.specs.laws.Unfolding.{canonical_group}
use Rattle.wasm_module_validator_canonical_types.specs.laws.Formed.{canonical_formed}
use Rattle.wasm_module_validator_canonical_types.proofs.laws.canonical_forms_unfold.Goals as goal

pub returns-clause-allowed : goal.returns-clause-allowed
returns-clause-allowed c = allowed_referenced

pub returns-clause-unfold : goal.returns-clause-unfold
returns-clause-unfold c = canonical_group

pub returns-clause-formed : goal.returns-clause-formed
returns-clause-formed c = λ known gc ids ds k m s w. canonical_formed known ids k gc ds m s w
