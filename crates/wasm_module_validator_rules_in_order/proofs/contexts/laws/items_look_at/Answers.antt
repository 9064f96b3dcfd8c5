use Rattle.wasm_module_validator_rules_in_order.specs.contexts.laws.Items.{valid_table_agrees, valid_global_agrees, element_agrees, data_agrees, export_agrees, start_agrees}
use Rattle.wasm_module_validator_rules_in_order.proofs.contexts.laws.items_look_at.Goals as goal

pub returns-clause-tables : goal.returns-clause-tables
returns-clause-tables c = valid_table_agrees

pub returns-clause-globals : goal.returns-clause-globals
returns-clause-globals c = valid_global_agrees

pub returns-clause-elements : goal.returns-clause-elements
returns-clause-elements c = element_agrees

pub returns-clause-segments : goal.returns-clause-segments
returns-clause-segments c = data_agrees

pub returns-clause-exports : goal.returns-clause-exports
returns-clause-exports c = export_agrees

pub returns-clause-start : goal.returns-clause-start
returns-clause-start c = start_agrees
