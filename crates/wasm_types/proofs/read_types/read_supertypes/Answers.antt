use Rattle.wasm_types_fields.specs.Decode.{module_index}
use Rattle.wasm_types.specs.DecodeTypes.{supertypes}
use Rattle.wasm_types.proofs.Counts.{only_none}
use Rattle.wasm_types.proofs.read_types.read_supertypes.Goals as goal

pub returns-then-count-eq0-clause-answer : goal.returns-then-count-eq0-clause-answer
unfolding supertypes
returns-then-count-eq0-clause-answer c =
    only_none module_index c.args.reader.now c.read_size.new.self c.in_ok-count.count c.in_ok-count.ensures.answer c.new.result.items c.if-count-eq0.true c.new.ensures.items
