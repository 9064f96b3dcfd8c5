use Rattle.wasm_module_validator_section_order.specs.sections.laws.Kinds.{types_tell, imports_tell, functions_tell, tables_tell, memories_tell, tags_tell}
use Rattle.wasm_module_validator_section_order.specs.sections.laws.Kinds.{globals_tell, exports_tell, elements_tell, segments_tell}
use Rattle.wasm_module_validator_section_order.proofs.sections.laws.walks_tell_of_sections.Goals as goal

pub returns-clause-types : goal.returns-clause-types
returns-clause-types c = types_tell

pub returns-clause-imports : goal.returns-clause-imports
returns-clause-imports c = imports_tell

pub returns-clause-functions : goal.returns-clause-functions
returns-clause-functions c = functions_tell

pub returns-clause-tables : goal.returns-clause-tables
returns-clause-tables c = tables_tell

pub returns-clause-memories : goal.returns-clause-memories
returns-clause-memories c = memories_tell

pub returns-clause-tags : goal.returns-clause-tags
returns-clause-tags c = tags_tell

pub returns-clause-globals : goal.returns-clause-globals
returns-clause-globals c = globals_tell

pub returns-clause-exports : goal.returns-clause-exports
returns-clause-exports c = exports_tell

pub returns-clause-elements : goal.returns-clause-elements
returns-clause-elements c = elements_tell

pub returns-clause-segments : goal.returns-clause-segments
returns-clause-segments c = segments_tell
