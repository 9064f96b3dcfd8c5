-- A byte is read, and then the rest.
use Rattle.wasm_types_reader.specs.Laws.{reaches_then}
use Rattle.wasm_types_values.proofs.read_value.StorageTypeFromReader.from_reader.Goals as goal

pub returns-clause-forward : goal.returns-clause-forward
returns-clause-forward c = reaches_then _ _ _ c.in_ok-byte.ensures.forward c.in_ok-ty.ensures.forward
