-- What is known of references that may be shared or not.
use Rattle.std.specs.Prelude.{Bool}
use Rattle.wasm_types.specs.trees.Types.{ref, abstract}
use Rattle.wasm_types.specs.values.declared.heap.AbstractHeapType.{AbstractHeapType}
use Rattle.wasm_types.specs.values.declared.heap.AbstractHeapType.TheVariants.{Eq}
use Rattle.wasm_types.specs.values.Trees.{abstract_of}
use Rattle.wasm_operator_validator_rules.specs.Operands.{Operand, known, OperandBelow}
use Rattle.wasm_operator_validator_resources.specs.Meaning.{Meaning}
use Rattle.wasm_operator_validator_state.specs.declared.operand.MaybeType.{MaybeType}
use Rattle.wasm_operator_validator_state.specs.State.{Stands}
use Rattle.wasm_operator_validator_objects.specs.Rows.{nullable_to}

-- both may be taken for references that can be compared
abbrev pub AreOf : Meaning → MaybeType → MaybeType → Bool → Type 0
AreOf m a b s = Stands m a (known (nullable_to Eq s)) × Stands m b (known (nullable_to Eq s))

abbrev pub reference_of : AbstractHeapType → Bool → Bool → Operand
reference_of kind n s = known (ref n (abstract s (abstract_of kind)))

-- What is known of a converted reference, by what was known: it stands for what each conversion gives, and for what is above one alone.
pub record IsConverted (m : Meaning) (a b : MaybeType) (from to : AbstractHeapType) : Type 0 where
  pub least : (n s : Bool) → Stands m a (reference_of from n s) → Stands m b (reference_of to n s)
  pub reached : (t : Operand) → Stands m b t → (n s : Bool) × Stands m a (reference_of from n s) × OperandBelow (reference_of to n s) t

-- it cannot be converted
abbrev pub IsUnconvertible : Meaning → MaybeType → AbstractHeapType → Type 0
IsUnconvertible m a from = (n s : Bool) → Stands m a (reference_of from n s) → ⊥
