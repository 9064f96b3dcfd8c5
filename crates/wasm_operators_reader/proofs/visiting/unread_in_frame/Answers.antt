use Rattle.wasm_operators_reader.specs.FirstByte.{vector_by_first}
use Rattle.wasm_operators_reader.proofs.visiting.unread_in_frame.Goals as goal

pub returns-clause-told : goal.returns-clause-told
returns-clause-told c =
    rw c.in-Some.is (c.first_of.ensures.told (vector_by_first c.args.reader.now.rest) c.args.reader.now.place c.vector_by_first.ensures.is)
