-- The readers of types are lawful.
use Rattle.std.proofs.Common.{◌≡◌, ℕ, suc, ◌-◌, refl, sym, subst, cond, Option, Some, None, Bool, true, false}
use Rattle.std.specs.Prelude.{◌==◌, nat_lt, ℤ, pos, negsuc, ◌*ℤ◌, ◌+ℤ◌}
use Rattle.wasm_types_reader.specs.decoding.declared.Refusal.TheVariants.{Other}
use Rattle.wasm_types_reader.specs.decoding.Decoder.{Outcome, Done, Short, Fault, Decoder, continue_with, ◌>>=◌, pure, byte, IsLawful, TakesOne, IsBeyond}
use Rattle.wasm_types_reader.specs.decoding.Laws.{lawful-byte, lawful->>=, lawful-pure, lawful-refuse, lawful-if, lawful-look, lawful-choice_or, TakesOne-byte}
use Rattle.wasm_types_reader.specs.decoding.ListLaws.{lawful-from_place, lawful-refuse_at}
use Rattle.wasm_types_reader.specs.decoding.Leb.{u32, s33, signed, seven_bits}
use Rattle.wasm_types_reader.specs.decoding.LebLaws.{lawful-unsigned}
use Rattle.wasm_types_reader.specs.decoding.SignedLaws.{lawful-signed}
use Rattle.wasm_types_trees.specs.declared.index.UnpackedIndex.TheVariants.{Module}
use Rattle.wasm_types_values.specs.declared.heap.AbstractHeapType.{AbstractHeapType}
use Rattle.wasm_types_values.specs.declared.heap.HeapType.TheVariants.{Abstract, Concrete, Exact}
use Rattle.wasm_types_values.specs.declared.value.ValType.TheVariants.{I32, I64, F32, F64, V128, Ref}
use Rattle.wasm_types_values.specs.declared.value.StorageType.TheVariants.{I8, I16, Val}
use Rattle.wasm_types_values.specs.Decode.{type_of_byte, with_type, abstract_heap_type, concrete_from, exact_from, concrete_heap_type}
use Rattle.wasm_types_values.specs.Decode.{exact_heap_type, heap_type_after, begins_index, heap_type_at, heap_type, reference, reference_after}
use Rattle.wasm_types_values.specs.Decode.{reference_type}
use Rattle.wasm_types_values.specs.DecodeValues.{numbers, reference_value_after, value_type_after, value_type, storage_type_after, storage_type}

lawful-with_type : {A : Type 0} (o : Option AbstractHeapType) (f : AbstractHeapType → A) → IsLawful (with_type o f)
lawful-with_type (Some ty) f = lawful-pure (f ty)
lawful-with_type None f = lawful-refuse Other 1

pub lawful-abstract_heap_type : IsLawful abstract_heap_type
unfolding abstract_heap_type
lawful-abstract_heap_type = lawful->>= byte _ lawful-byte (λ b. lawful-with_type (type_of_byte b) (λ ty. ty))

lawful-concrete_from : (p : ℕ) (v : ℤ) → IsLawful (concrete_from p v)
lawful-concrete_from p (pos n) = lawful-if (nat_lt n 0x10_0000) _ _ (lawful-pure (Concrete (Module n))) (lawful-refuse Other 0)
lawful-concrete_from p (negsuc n) = lawful-refuse_at Other p

lawful-concrete_heap_type : IsLawful concrete_heap_type
unfolding concrete_heap_type
lawful-concrete_heap_type = lawful-from_place (λ p. s33 >>= concrete_from p) (λ p. lawful->>= s33 (concrete_from p) (lawful-signed 4 5) (lawful-concrete_from p))

lawful-exact_heap_type : IsLawful exact_heap_type
unfolding exact_heap_type
lawful-exact_heap_type = lawful-from_place (λ p. u32 >>= exact_from p)
    (λ p. lawful->>= u32 (exact_from p) (lawful-unsigned 4 4) (λ n. lawful-if (nat_lt n 0x10_0000) _ _ (lawful-pure (Exact (Module n))) (lawful-refuse_at Other p)))

lawful-heap_type_after : (b : ℕ) → IsLawful (heap_type_after b)
unfolding heap_type_after
lawful-heap_type_after b =
    lawful-if (b == 0x65) _ _ (lawful->>= abstract_heap_type _ lawful-abstract_heap_type (λ ty. lawful-pure (Abstract true ty)))
    (lawful-if (b == 0x62) _ _ lawful-exact_heap_type (lawful-with_type (type_of_byte b) (Abstract false)))

-- one after the other, and then a third, grouped the other way
regroup : {A B C : Type 0} (o : Outcome A) (f : A → Decoder B) (g : B → Decoder C) → continue_with (continue_with o f) g ≡ continue_with o (λ x. f x >>= g)
regroup (Done x s) f g = refl
regroup (Short p h) f g = refl
regroup (Fault k p) f g = refl

-- a number with a sign begins with a byte
signed_takes : {A : Type 0} (k r : ℕ) (g : ℤ → Decoder A) → ((v : ℤ) → IsLawful (g v)) → TakesOne (signed (suc k) r >>= g)
unfolding signed
signed_takes k r g l s h =
    let f : ℕ → Decoder ℤ = λ b. cond (nat_lt b 128) (pure (seven_bits b)) (signed k r >>= λ m. pure (pos 128 *ℤ m +ℤ pos (b - 128))) in
    let lf : (b : ℕ) → IsLawful (f b) = λ b. lawful-if (nat_lt b 128) (pure (seven_bits b)) (signed k r >>= λ m. pure (pos 128 *ℤ m +ℤ pos (b - 128)))
    (lawful-pure _) (lawful->>= (signed k r) _ (lawful-signed k r) (λ m. lawful-pure _)) in
    subst (IsBeyond s.place) (sym (regroup (byte s) f g)) (TakesOne-byte (λ b. f b >>= g) (λ b. lawful->>= (f b) g (lf b) l) s h)

TakesOne-concrete_heap_type : TakesOne concrete_heap_type
unfolding concrete_heap_type
TakesOne-concrete_heap_type s h = signed_takes 3 5 (concrete_from s.place) (lawful-concrete_from s.place) s h

TakesOne-if : {A : Type 0} (b : Bool) (d e : Decoder A) → TakesOne d → TakesOne e → TakesOne (cond b d e)
TakesOne-if true d e l m = l
TakesOne-if false d e l m = m

pub lawful-heap_type : IsLawful heap_type
unfolding heap_type
lawful-heap_type = lawful-look heap_type_at
    (λ b. lawful-if (begins_index b) concrete_heap_type _ lawful-concrete_heap_type (lawful->>= byte heap_type_after lawful-byte lawful-heap_type_after))
    (λ b. TakesOne-if (begins_index b) concrete_heap_type _ TakesOne-concrete_heap_type (TakesOne-byte heap_type_after lawful-heap_type_after))

pub lawful-reference_after : (b : ℕ) → IsLawful (reference_after b)
unfolding reference_after
lawful-reference_after b =
    lawful-if (b == 0x64) _ _ (lawful->>= heap_type _ lawful-heap_type (λ h. lawful-pure (reference false h)))
    (lawful-if (b == 0x63) _ _ (lawful->>= heap_type _ lawful-heap_type (λ h. lawful-pure (reference true h)))
    (lawful-if (b == 0x65) _ _ (lawful->>= abstract_heap_type _ lawful-abstract_heap_type (λ ty. lawful-pure (reference true (Abstract true ty))))
    (lawful-with_type (type_of_byte b) (λ ty. reference true (Abstract false ty)))))

pub lawful-reference_type : IsLawful reference_type
unfolding reference_type
lawful-reference_type = lawful->>= byte reference_after lawful-byte lawful-reference_after

pub lawful-value_type_after : (b : ℕ) → IsLawful (value_type_after b)
unfolding value_type_after
lawful-value_type_after b = lawful-choice_or numbers reference_value_after b (lawful-pure I32, (lawful-pure I64, (lawful-pure F32, (lawful-pure F64, (lawful-pure V128, tt)))))
    (lawful->>= (reference_after b) _ (lawful-reference_after b) (λ r. lawful-pure (Ref r)))

pub lawful-value_type : IsLawful value_type
unfolding value_type
lawful-value_type = lawful->>= byte value_type_after lawful-byte lawful-value_type_after

lawful-storage_type_after : (b : ℕ) → IsLawful (storage_type_after b)
unfolding storage_type_after
lawful-storage_type_after b =
    lawful-if (b == 0x78) _ _ (lawful-pure I8)
    (lawful-if (b == 0x77) _ _ (lawful-pure I16) (lawful->>= (value_type_after b) _ (lawful-value_type_after b) (λ v. lawful-pure (Val v))))

pub lawful-storage_type : IsLawful storage_type
unfolding storage_type
lawful-storage_type = lawful->>= byte storage_type_after lawful-byte lawful-storage_type_after
