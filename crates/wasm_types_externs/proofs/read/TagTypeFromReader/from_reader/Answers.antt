-- A byte is read, and then an index.
use Rattle.wasm_types_values.specs.Laws.{reaches_then}
use Rattle.wasm_types_externs.proofs.read.TagTypeFromReader.from_reader.Goals as goal

pub returns-clause-forward : goal.returns-clause-forward
returns-clause-forward c =
    reaches_then _ _ _ c.in_ok-attribute.ensures.forward c.in_ok-func_type_idx.ensures.forward
