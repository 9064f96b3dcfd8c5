use Rattle.std.proofs.Common.{refl}
use Rattle.wasm_operator_validator_soundness.proofs.Steps.{activation_sound}
use Rattle.wasm_operator_validator_expression.specs.laws.Ways.{bodies_are_expressions}
use Rattle.wasm_operator_validator_soundness.specs.accepted.Accepted.{AcceptedBodiesAreSound}
use Rattle.wasm_operator_validator_soundness.proofs.accepted.accepted_bodies_are_sound.Goals as goal

sound : AcceptedBodiesAreSound
sound m w b saved s h = let (c, spelled, body) = (bodies_are_expressions m w b saved s).0 h
    in (c, spelled, λ locals answers k a fit runs answered. activation_sound _ w.params c locals answers k a refl refl body fit runs answered)

pub returns : goal.returns
returns c = sound
