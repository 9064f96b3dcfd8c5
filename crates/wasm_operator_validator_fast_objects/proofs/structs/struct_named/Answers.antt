use Rattle.wasm_operator_validator_fast_objects.proofs.structs.struct_named.Goals as goal

pub returns : goal.returns
returns c = record { type = c.in-Some.index; read = c.in-Some.ensures; is = c.in-Some-struct_at.ensures }
