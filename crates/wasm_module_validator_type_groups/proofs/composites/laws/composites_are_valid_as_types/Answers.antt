use Rattle.wasm_module_validator_type_groups.specs.composites.laws.Validity.{composite_valid}
use Rattle.wasm_module_validator_type_groups.proofs.composites.laws.composites_are_valid_as_types.Goals as goal

pub returns : goal.returns
returns c = λ groups formed k bits x w. composite_valid groups formed k bits x w
