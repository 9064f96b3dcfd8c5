-- A value type of which the features are checked, and then its reference.
use Rattle.std.proofs.Common.{◌≡◌, ℕ, refl, Result, Ok, Err, OnOk}
use Rattle.wasm_types.specs.decoding.ErrorValue.{ErrorValue}
use Rattle.wasm_types.specs.decoding.Denials.{Tells}
use Rattle.wasm_types.specs.decoding.DenialLaws.{denies_from}
use Rattle.wasm_types.specs.trees.Gates.{ValueIsAllowed}
use Rattle.wasm_types.specs.values.declared.value.ValType.{ValType}
use Rattle.wasm_types.specs.values.declared.value.ValType.TheVariants.{I32, I64, F32, F64, V128, Ref}
use Rattle.wasm_types.specs.values.Reference.{Reference}
use Rattle.wasm_types.specs.values.Values.{value_of}
use Rattle.wasm_operator_validator_rules.specs.Context.{IsType}
use Rattle.wasm_operator_validator_resources.specs.Meaning.{Meaning, type_in}
use Rattle.wasm_operator_validator_resources.specs.Answers.{IsWritten, IsNamedReference}

pub named_value : {X : Type 0} (r : Result X ErrorValue) (m : Meaning) (bits : ℕ) (a b : Reference) → ValueIsAllowed bits (value_of (Ref a))
    → Tells r (IsWritten m a.heap) → OnOk r (IsNamedReference m a b) → Tells r (IsType bits m.«module» (Ref a) (type_in m (Ref b)))
unfolding type_in
named_value (Ok x) m bits a b allowed known named =
    record { allowed = allowed; known = known; is = rw (named.nullable, named.heap.same) refl }
named_value (Err e) m bits a b allowed known named = denies_from e.kind _ _ (λ t. t.known) known

pub plain_value : (m : Meaning) (bits : ℕ) (t : ValType) → ((r : Reference) → t ≡ Ref r → ⊥) → ValueIsAllowed bits (value_of t)
    → IsType bits m.«module» t (type_in m t)
unfolding type_in
plain_value m bits I32 n allowed = record { allowed = allowed; known = tt; is = refl }
plain_value m bits I64 n allowed = record { allowed = allowed; known = tt; is = refl }
plain_value m bits F32 n allowed = record { allowed = allowed; known = tt; is = refl }
plain_value m bits F64 n allowed = record { allowed = allowed; known = tt; is = refl }
plain_value m bits V128 n allowed = record { allowed = allowed; known = tt; is = refl }
plain_value m bits (Ref r) n allowed = absurd (n r refl)
