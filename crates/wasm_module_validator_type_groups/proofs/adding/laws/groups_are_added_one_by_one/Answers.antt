use Rattle.wasm_module_validator_type_groups.proofs.Runs.{run_longer}
use Rattle.wasm_module_validator_type_groups.proofs.adding.laws.groups_are_added_one_by_one.Goals as goal

pub returns : goal.returns
returns c = λ z before after gs g. run_longer z g before after gs
