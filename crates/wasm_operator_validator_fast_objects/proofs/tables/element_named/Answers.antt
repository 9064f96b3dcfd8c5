use Rattle.wasm_operator_validator_fast_objects.proofs.tables.element_named.Goals as goal

pub returns : goal.returns
returns c = record { index = c.in-Some.index; read = c.in-Some.ensures; is = c.in-Some-element_at.ensures }
