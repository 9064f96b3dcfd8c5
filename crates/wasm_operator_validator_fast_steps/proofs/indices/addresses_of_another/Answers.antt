use Rattle.std.proofs.lemmas.Option.{slice_get-get_or}
use Rattle.wasm_operator_validator_fast_steps.proofs.indices.addresses_of_another.Goals as goal

pub returns : goal.returns
returns c = λ lt ids m knows.
    let held = c.as_slice-memories.ensures.value in
    rw held (knows.memories c.args.memory _ (slice_get-get_or c.args.tables.now.known.memories.items c.args.memory 0 (rw held at c.if-index-memories.false)))
