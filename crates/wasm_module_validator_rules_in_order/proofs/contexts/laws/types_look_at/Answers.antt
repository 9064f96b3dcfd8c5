use Rattle.wasm_module_validator_rules_in_order.specs.contexts.laws.Types.{value_agrees, function_agrees, table_agrees, global_agrees, tag_agrees, import_agrees}
use Rattle.wasm_module_validator_rules_in_order.proofs.contexts.laws.types_look_at.Goals as goal

pub returns-clause-values : goal.returns-clause-values
returns-clause-values c = value_agrees

pub returns-clause-functions : goal.returns-clause-functions
returns-clause-functions c = function_agrees

pub returns-clause-tables : goal.returns-clause-tables
returns-clause-tables c = table_agrees

pub returns-clause-globals : goal.returns-clause-globals
returns-clause-globals c = global_agrees

pub returns-clause-tags : goal.returns-clause-tags
returns-clause-tags c = tag_agrees

pub returns-clause-imports : goal.returns-clause-imports
returns-clause-imports c = import_agrees
