use Rattle.wasm_operator_validator_fast_tables.proofs.Writing.{abstract_there}
use Rattle.wasm_operator_validator_fast_tables.proofs.written.placed_heap_at.Goals as goal

pub returns : goal.returns
returns c = abstract_there c.args.bytes.now c.args.tables.now c.args.at c.in-Some.code c.in-Some.top c.if-at-bytes.false c.if-not-tables.false c.in-Some.ensures
