-- Which of the locals that a body declares have a value from the start: those of types with a default value.
use Rattle.std.specs.Prelude.{◌≡◌, ◌≤◌, ◌<◌, ◌+◌, ℕ, [], length}
use Rattle.wasm_types.specs.values.declared.value.ValType.{ValType}
use Rattle.wasm_operator_validator_rules.specs.Context.{defaultable}
use Rattle.wasm_operator_validator_state.specs.resources.Meaning.{Meaning, type_in}
use Rattle.wasm_operator_validator_state.specs.State.{State, initialised}
use Rattle.wasm_operator_validator_stacks.specs.Defining.{with_locals}

pub record DeclaredLaws : Type 0 where
  pub declared : (m : Meaning) (σ : State) (count : ℕ) (t : ValType) (i : ℕ) → σ.given.params ≤ length σ.given.locals → i < count
      → initialised m (with_locals σ count t).given [] (length σ.given.locals + i) ≡ defaultable (type_in m t)
  pub earlier : (m : Meaning) (σ : State) (count : ℕ) (t : ValType) (x : ℕ) → x < length σ.given.locals
      → initialised m (with_locals σ count t).given σ.inits x ≡ initialised m σ.given σ.inits x
