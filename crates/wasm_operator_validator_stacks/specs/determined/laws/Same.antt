-- Steps of a check one after the other change the operands of the innermost frame alone.
use Rattle.std.proofs.Common.{◌∙◌, List, [], ◌∷◌, refl}
use Rattle.wasm_operator_validator_state.specs.State.{Open, State}
use Rattle.wasm_operator_validator_state.specs.Steps.{IsOpen, SameFrames, Same}
use Rattle.wasm_operator_validator_stacks.specs.determined.Operators.{Stays}

frames_refl : (os : List Open) → IsOpen os → SameFrames os os
frames_refl [] i = i
frames_refl (o ∷ outer) i = (refl, refl, refl, refl)

frames_trans : (os ps qs : List Open) → SameFrames os ps → SameFrames ps qs → SameFrames os qs
frames_trans [] ps qs b c = absurd b
frames_trans (o ∷ outer) [] qs b c = absurd b
frames_trans (o ∷ outer) (p ∷ others) [] b c = absurd c
frames_trans (o ∷ outer) (p ∷ others) (q ∷ more) b c = (c.0 ∙ b.0, c.1 ∙ b.1, c.2 ∙ b.2, c.3 ∙ b.3)

pub same_refl : (σ : State) → IsOpen σ.opens → Same σ σ
same_refl σ i = record { given = refl; inits = refl; frames = frames_refl σ.opens i; failed = refl; saved = refl }

pub same_trans : (σ ρ τ : State) → Same σ ρ → Same ρ τ → Same σ τ
same_trans σ ρ τ a b = record {
  given = b.given ∙ a.given;
  inits = b.inits ∙ a.inits;
  frames = frames_trans σ.opens ρ.opens τ.opens a.frames b.frames;
  failed = b.failed ∙ a.failed;
  saved = b.saved ∙ a.saved;
}

pub stays_refl : (σ : State) → Stays σ σ
stays_refl σ = record { given = refl; failed = refl; saved = refl }

pub stays_trans : (σ ρ τ : State) → Stays σ ρ → Stays ρ τ → Stays σ τ
stays_trans σ ρ τ a b = record { given = b.given ∙ a.given; failed = b.failed ∙ a.failed; saved = b.saved ∙ a.saved }

pub stays_same : (σ τ : State) → Same σ τ → Stays σ τ
stays_same σ τ a = record { given = a.given; failed = a.failed; saved = a.saved }
