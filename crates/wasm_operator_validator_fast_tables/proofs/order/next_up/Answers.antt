use Rattle.wasm_operator_validator_fast_tables.proofs.order.next_up.Goals as goal

pub returns-then-steps-far : goal.returns-then-steps-far
returns-then-steps-far c ids n h = h.far

pub returns : goal.returns
returns c ids n h = h.up
