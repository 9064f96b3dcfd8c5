use Rattle.wasm_operator_validator_fast_tables.proofs.Writing.{block_there}
use Rattle.wasm_operator_validator_fast_steps.proofs.blocks.other_block_at.Goals as goal

pub returns : goal.returns
returns c = rw c.single.ensures (block_there c.args.bytes.now c.args.tables.now c.args.at c.in-Some._code c.in-Some.place c.in-Some.end c.in-Some.ensures)
