-- Value types by ids, in place of those that a module writes.
use Rattle.std.proofs.Common.{◌≡◌, ℕ, refl, Result, Ok, Err, OnOk}
use Rattle.wasm_types.specs.decoding.ErrorValue.{ErrorValue}
use Rattle.wasm_types.specs.trees.declared.index.UnpackedIndex.{UnpackedIndex}
use Rattle.wasm_types.specs.trees.declared.index.UnpackedIndex.TheVariants as index
use Rattle.wasm_types.specs.trees.Gates.{ValueIsAllowed}
use Rattle.wasm_types.specs.trees.Types.{HeapOf, abstract, concrete, exact, heap_map}
use Rattle.wasm_types.specs.values.declared.value.ValType.{ValType}
use Rattle.wasm_types.specs.values.declared.value.ValType.TheVariants.{I32, I64, F32, F64, V128, Ref}
use Rattle.wasm_types.specs.values.Reference.{Reference}
use Rattle.wasm_types.specs.values.Trees.{heap_of}
use Rattle.wasm_types.specs.values.Values.{value_of}
use Rattle.wasm_operator_validator_rules.specs.Operands.{ValueType}
use Rattle.wasm_operator_validator_rules.specs.Context.{Module, IsType, written_type}
use Rattle.wasm_operator_validator_state.specs.resources.Meaning.{Meaning, type_in}
use Rattle.wasm_operator_validator_state.specs.resources.Answers.{IsNamedReference}
use Rattle.wasm_module_validator_rules.specs.Spaces.{with_types, value_in}

-- what is written means the same by the types of a module alone
same_heap : (g : Module) (h : HeapOf UnpackedIndex) → heap_map (written_type (with_types g.types)) h ≡ heap_map (written_type g) h
same_heap g (abstract s a) = refl
same_heap g (concrete (index.Module n)) = refl
same_heap g (concrete (index.RecGroup n)) = refl
same_heap g (concrete (index.Id i)) = refl
same_heap g (exact (index.Module n)) = refl
same_heap g (exact (index.RecGroup n)) = refl
same_heap g (exact (index.Id i)) = refl

same_reference : (m : Meaning) (a b : Reference) → IsNamedReference m a b → type_in m (Ref b) ≡ value_in m.«module».types (Ref a)
unfolding type_in
same_reference m a b n = rw (n.nullable, n.heap.same, same_heap m.«module» (heap_of a.heap)) refl

pub named : {X : Type 0} (r : Result X ErrorValue) (m : Meaning) (a b : Reference) → OnOk r (IsNamedReference m a b)
    → OnOk r (type_in m (Ref b) ≡ value_in m.«module».types (Ref a))
named (Ok x) m a b n = same_reference m a b n
named (Err e) m a b n = tt

pub plain_named : (m : Meaning) (t : ValType) → ((r : Reference) → t ≡ Ref r → ⊥) → type_in m t ≡ value_in m.«module».types t
unfolding type_in
plain_named m I32 n = refl
plain_named m I64 n = refl
plain_named m F32 n = refl
plain_named m F64 n = refl
plain_named m V128 n = refl
plain_named m (Ref r) n = absurd (n r refl)

pub plain : (m : Meaning) (bits : ℕ) (t : ValType) → ((r : Reference) → t ≡ Ref r → ⊥) → ValueIsAllowed bits (value_of t)
    → (x : ValueType) × IsType bits m.«module» t x
plain m bits I32 n allowed = (_, record { allowed = allowed; known = tt; is = refl })
plain m bits I64 n allowed = (_, record { allowed = allowed; known = tt; is = refl })
plain m bits F32 n allowed = (_, record { allowed = allowed; known = tt; is = refl })
plain m bits F64 n allowed = (_, record { allowed = allowed; known = tt; is = refl })
plain m bits V128 n allowed = (_, record { allowed = allowed; known = tt; is = refl })
plain m bits (Ref r) n allowed = absurd (n r refl)
