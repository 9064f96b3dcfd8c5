use Rattle.wasm_operator_validator_fast_tables.proofs.Writing.{heap_there}
use Rattle.wasm_operator_validator_fast_tables.proofs.written.heap_at.Goals as goal

pub returns : goal.returns
returns c = heap_there c.args.bytes.now c.args.tables.now c.args.at c.in-Some.code c.in-Some.top c.in-Some._place c.in-Some.end c.in-Some.ensures
