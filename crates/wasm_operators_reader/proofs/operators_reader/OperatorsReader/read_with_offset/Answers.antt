use Rattle.wasm_operators_reader.proofs.operators_reader.OperatorsReader.read_with_offset.Goals as goal

pub returns-clause-read : goal.returns-clause-read
returns-clause-read c = (c.in_ok-op.ensures.read, c.original_position-place.ensures)
