-- What the code names as a reference type is one.
use Rattle.std.proofs.Common.{◌≡◌, ap, Some, None}
use Rattle.wasm_types.specs.values.Reference.{Reference}
use Rattle.wasm_types.specs.values.ValueKinds.{reference_in as reference_of}
use Rattle.wasm_types.specs.values.declared.value.ValType.{ValType}
use Rattle.wasm_types.specs.values.declared.value.ValType.TheVariants as value
use Rattle.wasm_operator_validator_state.specs.resources.Meaning.{Meaning, type_in, reference_in}
use Rattle.wasm_module_validator_checks.specs.rules.Spaces.{value_in}

module _ (m : Meaning) where
  -- what stands for a reference is one
  pub is_reference : (t : ValType) (q : Reference) → type_in m t ≡ value_in m.«module».types (value.Ref q) → reference_of t ≡ None → ⊥
  unfolding type_in
  is_reference value.I32 q e n = cc
  is_reference value.I64 q e n = cc
  is_reference value.F32 q e n = cc
  is_reference value.F64 q e n = cc
  is_reference value.V128 q e n = cc
  is_reference (value.Ref r) q e n = cc

  pub reference_is : (t : ValType) (r : Reference) → reference_of t ≡ Some r → type_in m t ≡ reference_in m r
  unfolding type_in
  reference_is value.I32 r e = absurd cc
  reference_is value.I64 r e = absurd cc
  reference_is value.F32 r e = absurd cc
  reference_is value.F64 r e = absurd cc
  reference_is value.V128 r e = absurd cc
  reference_is (value.Ref q) r e = ap (reference_in m) (the_reference e)
    where
      the_reference : Some q ≡ Some r → q ≡ r
      the_reference f = cc
