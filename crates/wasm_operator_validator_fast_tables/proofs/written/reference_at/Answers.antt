use Rattle.wasm_operator_validator_fast_tables.proofs.Writing.{nullable_there, never_null_there, short_there}
use Rattle.wasm_operator_validator_fast_tables.proofs.written.reference_at.Goals as goal

pub returns-then-byte-eq99 : goal.returns-then-byte-eq99
returns-then-byte-eq99 c = nullable_there c.args.bytes.now c.args.tables.now c.args.at c.in-Some.code c.in-Some._top c.in-Some.place c.in-Some.end c.requires c.if-byte-eq99.true c.in-Some.ensures

pub returns-then-byte-eq100 : goal.returns-then-byte-eq100
returns-then-byte-eq100 c = never_null_there c.args.bytes.now c.args.tables.now c.args.at c.in-Some-placed_heap_at.code c.in-Some-placed_heap_at._top c.in-Some-placed_heap_at.place
    c.in-Some-placed_heap_at.end c.requires c.if-byte-eq100.true c.in-Some-placed_heap_at.ensures

pub returns : goal.returns
returns c = short_there c.args.bytes.now c.args.tables.now c.args.at c.in-Some-abstract_of.code c.in-Some-abstract_of._top c.requires c.if-not-tables.false c.in-Some-abstract_of.ensures
