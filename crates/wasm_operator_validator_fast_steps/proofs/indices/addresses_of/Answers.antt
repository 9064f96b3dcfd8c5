use Rattle.wasm_operator_validator_fast_steps.proofs.indices.addresses_of.Goals as goal

pub returns-then-memory-eq0 : goal.returns-then-memory-eq0
returns-then-memory-eq0 c = λ lt ids m knows. rw c.if-memory-eq0.true (knows.memory lt)
