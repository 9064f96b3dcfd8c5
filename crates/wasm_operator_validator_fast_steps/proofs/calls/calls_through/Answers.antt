use Rattle.wasm_operator_validator_fast_steps.proofs.calls.calls_through.Goals as goal

pub returns-then-table-eq0 : goal.returns-then-table-eq0
returns-then-table-eq0 c = λ lt ids m knows. rw c.if-table-eq0.true (knows.table lt)
