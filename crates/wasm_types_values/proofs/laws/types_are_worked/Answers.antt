use Rattle.wasm_types_values.specs.WorkedTypeLaws.{abstract_bytes, index_bytes, reference_bytes, value_bytes, kinds_told, texts_written}
use Rattle.wasm_types_values.proofs.laws.types_are_worked.Goals as goal

pub returns-clause-abstract_types : goal.returns-clause-abstract_types
returns-clause-abstract_types c = abstract_bytes

pub returns-clause-indices : goal.returns-clause-indices
returns-clause-indices c = index_bytes

pub returns-clause-references : goal.returns-clause-references
returns-clause-references c = reference_bytes

pub returns-clause-values : goal.returns-clause-values
returns-clause-values c = value_bytes

pub returns-clause-kinds : goal.returns-clause-kinds
returns-clause-kinds c = kinds_told

pub returns-clause-texts : goal.returns-clause-texts
returns-clause-texts c = texts_written
