-- When memory may be wanted, and when not.
use Rattle.std.specs.Prelude.{◌≡◌, ℕ, [], None, false, slice_get}
use Rattle.wasm_operators_immediates.specs.declared.proposal.Proposal.TheVariants.{Mvp}
use Rattle.wasm_operators_enums.specs.declared.memory.MemoryOperator.TheVariants as memory
use Rattle.wasm_operators_enums.specs.Op as op
use Rattle.wasm_operators_enums.specs.Op.{Op}
use Rattle.wasm_operator_validator_state.specs.resources.Meaning.{Meaning}
use Rattle.wasm_operator_validator_state.specs.State.{State, initialised}
use Rattle.wasm_operator_validator_state.specs.Entering.{MayBegin}
use Rattle.wasm_operator_validator_memory.specs.Variables.{HasTypes}

pub record RoomLaws : Type 0 where
  pub dropped : (m : Meaning) (σ : State) → MayBegin σ Mvp false → HasTypes m σ (op.Parametric op.Drop)
  pub unknown : (m : Meaning) (σ : State) (x : ℕ) → None ≡ slice_get σ.given.locals x → HasTypes m σ (op.Memory (memory.LocalGet x)) → ⊥
  pub uninitialised : (m : Meaning) (σ : State) (x : ℕ) → initialised m σ.given σ.inits x ≡ false → HasTypes m σ (op.Memory (memory.LocalGet x)) → ⊥
  pub ended : (m : Meaning) (σ : State) (o : Op) → σ.opens ≡ [] → HasTypes m σ o → ⊥
