-- The types of branches on casts, as their check finds them (WebAssembly 3.0, validation, control instructions).
use Rattle.std.specs.Prelude.{◌≡◌, Bool, true, false, IsTrue, Some, if◌then◌else◌}
use Rattle.wasm_types.specs.trees.Types.{HeapOf}
use Rattle.wasm_types.specs.trees.Trees.{TypeTree}
use Rattle.wasm_types.specs.values.declared.value.ValType.{ValType}
use Rattle.wasm_types.specs.values.declared.value.ValType.TheVariants as vals
use Rattle.wasm_types.specs.values.Reference.{Reference}
use Rattle.wasm_operator_validator_rules.specs.Aggregates.{heap_named, is_castable}
use Rattle.wasm_operator_validator_rules.specs.Objects.{IsCast}
use Rattle.wasm_operator_validator_resources.specs.Meaning.{Meaning, heap_in}
use Rattle.wasm_operator_validator_state.specs.State.{State}
use Rattle.wasm_operator_validator_objects.specs.Rows.{here}

-- a written type is this one, and not of continuations
pub record IsCastable (m : Meaning) (σ : State) (written named : Reference) : Type 0 where
  pub nullable : named.nullable ≡ written.nullable
  pub heap : heap_named (here m σ) written.heap ≡ Some (heap_in m named.heap)
  pub castable : IsTrue (is_castable (heap_in m named.heap))

abbrev pub IsNotCastable : Meaning → State → Reference → Type 0
IsNotCastable m σ written = (h : HeapOf TypeTree) → heap_named (here m σ) written.heap ≡ Some h → IsTrue (is_castable h) → ⊥

-- both types of a cast are these
pub record IsCastOf (m : Meaning) (σ : State) (from to first second : Reference) : Type 0 where
  pub first_nullable : first.nullable ≡ from.nullable
  pub second_nullable : second.nullable ≡ to.nullable
  pub cast : IsCast (here m σ) from to (heap_in m first.heap) (heap_in m second.heap)

abbrev pub IsNoCast : Meaning → State → Reference → Reference → Type 0
IsNoCast m σ from to = (h k : HeapOf TypeTree) → IsCast (here m σ) from to h k → ⊥

-- what is left of the first type, by the second
abbrev pub left_over : Reference → Reference → Reference
left_over first second = if second.nullable then record first { nullable = false } else first

-- a branch on a cast takes the second type, and leaves what is left; one on a cast that fails does so the other way round
abbrev pub AreTaken : Bool → Reference → Reference → ValType → ValType → Type 0
AreTaken true first second taken left = (taken ≡ vals.Ref (left_over first second)) × (left ≡ vals.Ref second)
AreTaken false first second taken left = (taken ≡ vals.Ref second) × (left ≡ vals.Ref (left_over first second))
