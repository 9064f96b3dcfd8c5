-- A module that was judged frame by frame, with its bodies, runs soundly.
use Rattle.wasm_module_validator.specs.declared.validator.Validator.{Validator}
use Rattle.wasm_module_validator.specs.Methods.{RunsSoundlyWhole}
use Rattle.wasm_module_validator.specs.laws.Verdict.{read_is_accepted}
use Rattle.wasm_module_validator.proofs.Validity.{accepted_sound}

pub whole_is_sound : (v : Validator) → RunsSoundlyWhole v
whole_is_sound v z bytes q read reached bodies = accepted_sound z bytes (read_is_accepted z bytes q read bodies)
