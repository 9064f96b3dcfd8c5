use Rattle.wasm_types_fields.specs.WorkedFieldLaws.{field_bytes, function_bytes, functions_compared, functions_hashed, index_bytes, texts_written}
use Rattle.wasm_types_fields.proofs.laws.fields_are_worked.Goals as goal

pub returns-clause-fields : goal.returns-clause-fields
returns-clause-fields c = field_bytes

pub returns-clause-functions : goal.returns-clause-functions
returns-clause-functions c = function_bytes

pub returns-clause-compared : goal.returns-clause-compared
returns-clause-compared c = functions_compared

pub returns-clause-hashed : goal.returns-clause-hashed
returns-clause-hashed c = functions_hashed

pub returns-clause-indices : goal.returns-clause-indices
returns-clause-indices c = index_bytes

pub returns-clause-texts : goal.returns-clause-texts
returns-clause-texts c = texts_written
