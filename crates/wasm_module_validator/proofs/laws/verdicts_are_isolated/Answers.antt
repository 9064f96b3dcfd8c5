use Rattle.wasm_module_validator.specs.laws.Alone.{alone_rows, few_are_alone, few_have_room, few_rows, first_has_room, no_more_than, verdicts_are_alone}
use Rattle.wasm_module_validator.proofs.laws.verdicts_are_isolated.Goals as goal

pub returns-clause-alone : goal.returns-clause-alone
returns-clause-alone c = verdicts_are_alone

pub returns-clause-first : goal.returns-clause-first
returns-clause-first c = first_has_room

pub returns-clause-few : goal.returns-clause-few
returns-clause-few c = few_have_room

pub returns-clause-once : goal.returns-clause-once
returns-clause-once c = no_more_than

pub returns-clause-rows : goal.returns-clause-rows
returns-clause-rows c = alone_rows

pub returns-clause-modules : goal.returns-clause-modules
returns-clause-modules c = few_are_alone

pub returns-clause-few_rows : goal.returns-clause-few_rows
returns-clause-few_rows c = few_rows
