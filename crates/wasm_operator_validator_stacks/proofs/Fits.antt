-- What is known of an operand against a type.
use Rattle.std.proofs.Common.{◌≡◌, ◌↔◌, Bool, true, false, IsTrue, subst}
use Rattle.wasm_types.specs.values.declared.heap.AbstractHeapType.{AbstractHeapType}
use Rattle.wasm_types.specs.values.declared.heap.HeapType.TheVariants.{Abstract}
use Rattle.wasm_types.specs.values.declared.value.ValType.{ValType}
use Rattle.wasm_types.specs.values.declared.value.ValType.TheVariants as vals
use Rattle.wasm_types.specs.values.Reference.{Reference}
use Rattle.wasm_types.specs.values.ValueKinds.{is_reference}
use Rattle.wasm_types.specs.trees.Below.{Below}
use Rattle.wasm_operator_validator_rules.specs.Operands.{known, some_reference, OperandBelow}
use Rattle.wasm_operator_validator_state.specs.resources.Meaning.{Meaning, type_in}
use Rattle.wasm_operator_validator_stacks.specs.Layout.{IsAbstractFit}

pub abstract_fit : (m : Meaning) (r : Reference) (s : Bool) (a : AbstractHeapType) (t : ValType) (b : Bool) → r ≡ record { nullable = false; heap = Abstract s a }
    → IsTrue b ↔ Below (type_in m (vals.Ref r)) (type_in m t) → IsTrue b ↔ IsAbstractFit m s a t
unfolding type_in
abstract_fit m r s a t b e i = subst (λ (x : Reference). IsTrue b ↔ Below (type_in m (vals.Ref x)) (type_in m t)) e i

pub reference_fit : (m : Meaning) (t : ValType) (b : Bool) → b ≡ is_reference t → IsTrue b ↔ OperandBelow some_reference (known (type_in m t))
unfolding type_in
reference_fit m vals.I32 b e = (λ x. let y : false ≡ true = rw e at x in cc, λ x. absurd x)
reference_fit m vals.I64 b e = (λ x. let y : false ≡ true = rw e at x in cc, λ x. absurd x)
reference_fit m vals.F32 b e = (λ x. let y : false ≡ true = rw e at x in cc, λ x. absurd x)
reference_fit m vals.F64 b e = (λ x. let y : false ≡ true = rw e at x in cc, λ x. absurd x)
reference_fit m vals.V128 b e = (λ x. let y : false ≡ true = rw e at x in cc, λ x. absurd x)
reference_fit m (vals.Ref r) b e = (λ x. tt, λ x. e)
