use Rattle.std.proofs.Common.{refl}
use Rattle.wasm_module_validator_checks.specs.rules.Spaces.{table_in as table_written, global_in as global_written}
use Rattle.wasm_module_validator_resources.specs.index_spaces.Spaces.{own_function, imported_function}
use Rattle.wasm_module_validator_resources.specs.Reading.{context_of}
use Rattle.wasm_module_validator_state.specs.laws.Reading.{function_more, table_more, global_more, tag_more, element_more, reference_more}
use Rattle.wasm_module_validator_state.proofs.laws.contexts_grow.Goals as goal

pub returns-clause-functions : goal.returns-clause-functions
returns-clause-functions c = λ groups s x. function_more groups s (own_function x) refl

pub returns-clause-imported_functions : goal.returns-clause-imported_functions
returns-clause-imported_functions c = λ groups s exact x. function_more groups s (imported_function exact x) refl

pub returns-clause-tables : goal.returns-clause-tables
returns-clause-tables c = λ groups s t u e. table_more groups s u (table_written (context_of groups s).types t) e

pub returns-clause-globals : goal.returns-clause-globals
returns-clause-globals c = λ groups s t u e. global_more groups s u (global_written (context_of groups s).types t) e

pub returns-clause-imported_globals : goal.returns-clause-imported_globals
returns-clause-imported_globals c = λ groups s t u e. global_more groups s u (global_written (context_of groups s).types t) e

pub returns-clause-tags : goal.returns-clause-tags
returns-clause-tags c = λ groups s x lt. tag_more groups s x lt

pub returns-clause-elements : goal.returns-clause-elements
returns-clause-elements c = λ groups s r. element_more groups s r _ refl

pub returns-clause-references : goal.returns-clause-references
returns-clause-references c = λ groups s x. reference_more groups s x
