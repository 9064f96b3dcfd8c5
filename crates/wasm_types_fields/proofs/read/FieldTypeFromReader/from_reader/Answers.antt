-- A storage type is read, and then the mutability.
use Rattle.wasm_types_values.specs.Laws.{reaches_then}
use Rattle.wasm_types_fields.proofs.read.FieldTypeFromReader.from_reader.Goals as goal

pub returns-clause-forward : goal.returns-clause-forward
returns-clause-forward c = reaches_then _ _ _ c.in_ok-element_type.ensures.forward c.in_ok-mutable.ensures.forward
