-- What is shared.
use Rattle.std.proofs.Common.{◌≡◌, ◌↔◌, ◌∙◌, Bool, true, false, IsTrue, Some, None, refl, sym, ap}
use Rattle.wasm_types.specs.trees.Below.{value_is_shared, heap_is_shared}
use Rattle.wasm_types.specs.values.declared.value.ValType.{ValType}
use Rattle.wasm_types.specs.values.declared.value.ValType.TheVariants as vals
use Rattle.wasm_types.specs.values.Reference.{Reference}
use Rattle.wasm_types.specs.values.ValueKinds.{reference_in}
use Rattle.wasm_operator_validator_state.specs.resources.Meaning.{Meaning, type_in, heap_in}

pub inside_shared : (s inside x : Bool) → s ≡ inside → s ≡ true → IsTrue x ↔ (IsTrue inside → IsTrue x)
inside_shared s inside x e h = (λ a b. a, λ f. f (sym e ∙ h))

pub outside_shared : (s inside x : Bool) → s ≡ inside → s ≡ false → IsTrue true ↔ (IsTrue inside → IsTrue x)
outside_shared s inside x e h = (λ a b. let y : false ≡ true = sym h ∙ (e ∙ b) in cc, λ f. refl)

-- a number may always be shared
pub number_is_shared : (m : Meaning) (t : ValType) → None ≡ reference_in t → value_is_shared (type_in m t) ≡ true
unfolding type_in
number_is_shared m vals.I32 e = refl
number_is_shared m vals.I64 e = refl
number_is_shared m vals.F32 e = refl
number_is_shared m vals.F64 e = refl
number_is_shared m vals.V128 e = refl
number_is_shared m (vals.Ref r) e = cc

pub reference_is_shared : (m : Meaning) (t : ValType) (r : Reference) → Some r ≡ reference_in t → value_is_shared (type_in m t) ≡ heap_is_shared (heap_in m r.heap)
unfolding type_in
reference_is_shared m vals.I32 r e = cc
reference_is_shared m vals.I64 r e = cc
reference_is_shared m vals.F32 r e = cc
reference_is_shared m vals.F64 r e = cc
reference_is_shared m vals.V128 r e = cc
reference_is_shared m (vals.Ref s) r e = let f : s ≡ r = cc in ap (λ (x : Reference). heap_is_shared (heap_in m x.heap)) f
