use Rattle.wasm_module_validator_streaming.specs.laws.Running.{goes_on, body_goes_on, end_accepts, payload_denied, body_denied, bytes_refused}
use Rattle.wasm_module_validator_streaming.proofs.laws.pieces_are_judged.Goals as goal

pub returns-clause-passes : goal.returns-clause-passes
returns-clause-passes c = goes_on

pub returns-clause-valid_body : goal.returns-clause-valid_body
returns-clause-valid_body c = body_goes_on

pub returns-clause-ended : goal.returns-clause-ended
returns-clause-ended c = end_accepts

pub returns-clause-refused_payload : goal.returns-clause-refused_payload
returns-clause-refused_payload c = payload_denied

pub returns-clause-refused_body : goal.returns-clause-refused_body
returns-clause-refused_body c = body_denied

pub returns-clause-refused_bytes : goal.returns-clause-refused_bytes
returns-clause-refused_bytes c = bytes_refused
