-- Value types and storage types are read exactly where bytes spell them.
use Rattle.std.proofs.Common.{◌≡◌, ℕ, List, [], ◌∷◌, refl, sym, subst, arith, eqb, true, false}
use Rattle.std.proofs.lemmas.Bool.{eqb-true, eqb-false}
use Rattle.wasm_types_reader.specs.decoding.Decoder.{pure, Decides}
use Rattle.wasm_types_reader.specs.decoding.ExactLaws.{Mapped, decides-same, decides-pure, decides-if, decides-map, decides-byte}
use Rattle.wasm_types_values.specs.declared.value.ValType.{ValType}
use Rattle.wasm_types_values.specs.declared.value.ValType.TheVariants.{I32, I64, F32, F64, V128, Ref}
use Rattle.wasm_types_values.specs.declared.value.StorageType.{StorageType}
use Rattle.wasm_types_values.specs.declared.value.StorageType.TheVariants.{I8, I16, Val}
use Rattle.wasm_types_values.specs.Spelled.{SpelledReference, SpelledValue, SpelledStorage}
use Rattle.wasm_types_values.specs.Decode.{reference_after}
use Rattle.wasm_types_values.specs.DecodeValues.{reference_value_after, value_type_after, value_type, storage_type_after, storage_type}
use Rattle.wasm_types_values.specs.HeapLaws.{heads, tails}
use Rattle.wasm_types_values.specs.ReferenceLaws.{reference_begins, reference_some, decides-reference_after}

value_some : (v : ValType) → SpelledValue v [] → ⊥
value_some I32 e = cc
value_some I64 e = cc
value_some F32 e = cc
value_some F64 e = cc
value_some V128 e = cc
value_some (Ref r) e = reference_some r e

-- a number's byte spells the number alone
only_i32 : (v : ValType) (text : List ℕ) → SpelledValue v (0x7f ∷ text) → (v ≡ I32) × (text ≡ [])
only_i32 I32 text e = (refl, tails 0x7f 0x7f text [] e)
only_i32 I64 text e = absurd (omega (arith, heads 0x7f 0x7e text [] e))
only_i32 F32 text e = absurd (omega (arith, heads 0x7f 0x7d text [] e))
only_i32 F64 text e = absurd (omega (arith, heads 0x7f 0x7c text [] e))
only_i32 V128 text e = absurd (omega (arith, heads 0x7f 0x7b text [] e))
only_i32 (Ref r) text e = absurd (omega (arith, reference_begins 0x7f text r.nullable r.heap e))

only_i64 : (v : ValType) (text : List ℕ) → SpelledValue v (0x7e ∷ text) → (v ≡ I64) × (text ≡ [])
only_i64 I32 text e = absurd (omega (arith, heads 0x7e 0x7f text [] e))
only_i64 I64 text e = (refl, tails 0x7e 0x7e text [] e)
only_i64 F32 text e = absurd (omega (arith, heads 0x7e 0x7d text [] e))
only_i64 F64 text e = absurd (omega (arith, heads 0x7e 0x7c text [] e))
only_i64 V128 text e = absurd (omega (arith, heads 0x7e 0x7b text [] e))
only_i64 (Ref r) text e = absurd (omega (arith, reference_begins 0x7e text r.nullable r.heap e))

only_f32 : (v : ValType) (text : List ℕ) → SpelledValue v (0x7d ∷ text) → (v ≡ F32) × (text ≡ [])
only_f32 I32 text e = absurd (omega (arith, heads 0x7d 0x7f text [] e))
only_f32 I64 text e = absurd (omega (arith, heads 0x7d 0x7e text [] e))
only_f32 F32 text e = (refl, tails 0x7d 0x7d text [] e)
only_f32 F64 text e = absurd (omega (arith, heads 0x7d 0x7c text [] e))
only_f32 V128 text e = absurd (omega (arith, heads 0x7d 0x7b text [] e))
only_f32 (Ref r) text e = absurd (omega (arith, reference_begins 0x7d text r.nullable r.heap e))

only_f64 : (v : ValType) (text : List ℕ) → SpelledValue v (0x7c ∷ text) → (v ≡ F64) × (text ≡ [])
only_f64 I32 text e = absurd (omega (arith, heads 0x7c 0x7f text [] e))
only_f64 I64 text e = absurd (omega (arith, heads 0x7c 0x7e text [] e))
only_f64 F32 text e = absurd (omega (arith, heads 0x7c 0x7d text [] e))
only_f64 F64 text e = (refl, tails 0x7c 0x7c text [] e)
only_f64 V128 text e = absurd (omega (arith, heads 0x7c 0x7b text [] e))
only_f64 (Ref r) text e = absurd (omega (arith, reference_begins 0x7c text r.nullable r.heap e))

only_v128 : (v : ValType) (text : List ℕ) → SpelledValue v (0x7b ∷ text) → (v ≡ V128) × (text ≡ [])
only_v128 I32 text e = absurd (omega (arith, heads 0x7b 0x7f text [] e))
only_v128 I64 text e = absurd (omega (arith, heads 0x7b 0x7e text [] e))
only_v128 F32 text e = absurd (omega (arith, heads 0x7b 0x7d text [] e))
only_v128 F64 text e = absurd (omega (arith, heads 0x7b 0x7c text [] e))
only_v128 V128 text e = (refl, tails 0x7b 0x7b text [] e)
only_v128 (Ref r) text e = absurd (omega (arith, reference_begins 0x7b text r.nullable r.heap e))

reference_to : (b : ℕ) (v : ValType) (text : List ℕ) → Mapped Ref (λ r t. SpelledReference r (b ∷ t)) v text → SpelledValue v (b ∷ text)
reference_to b v text m = subst (λ (w : ValType). SpelledValue w (b ∷ text)) (sym m.2) m.1

module _ (b : ℕ) (not_i32 : eqb b 0x7f ≡ false) (not_i64 : eqb b 0x7e ≡ false) (not_f32 : eqb b 0x7d ≡ false) (not_f64 : eqb b 0x7c ≡ false) (not_v128 : eqb b 0x7b ≡ false) where
  reference_from : (v : ValType) (text : List ℕ) → SpelledValue v (b ∷ text) → Mapped Ref (λ r t. SpelledReference r (b ∷ t)) v text
  reference_from I32 text e = absurd (eqb-false _ _ not_i32 (heads b 0x7f text [] e))
  reference_from I64 text e = absurd (eqb-false _ _ not_i64 (heads b 0x7e text [] e))
  reference_from F32 text e = absurd (eqb-false _ _ not_f32 (heads b 0x7d text [] e))
  reference_from F64 text e = absurd (eqb-false _ _ not_f64 (heads b 0x7c text [] e))
  reference_from V128 text e = absurd (eqb-false _ _ not_v128 (heads b 0x7b text [] e))
  reference_from (Ref r) text e = (r, e, refl)

  decides-reference_value : Decides (reference_value_after b) (λ v text. SpelledValue v (b ∷ text))
  decides-reference_value = decides-same _ _ _ (decides-map (reference_after b) Ref (λ r t. SpelledReference r (b ∷ t)) (decides-reference_after b)) (reference_to b) reference_from

number_decides : (b n : ℕ) (x : ValType) → eqb b n ≡ true → SpelledValue x (n ∷ []) →
    ((v : ValType) (text : List ℕ) → SpelledValue v (n ∷ text) → (v ≡ x) × (text ≡ [])) → Decides (pure x) (λ v text. SpelledValue v (b ∷ text))
number_decides b n x t here only = subst (λ (c : ℕ). Decides (pure x) (λ v text. SpelledValue v (c ∷ text))) (sym (eqb-true _ _ t))
    (decides-pure x (λ v text. SpelledValue v (n ∷ text)) here only)

pub decides-value_type_after : (b : ℕ) → Decides (value_type_after b) (λ v text. SpelledValue v (b ∷ text))
unfolding value_type_after
decides-value_type_after b =
    decides-if (eqb b 0x7f) _ _ _ (λ t. number_decides b 0x7f I32 t refl only_i32) (λ not_i32.
    decides-if (eqb b 0x7e) _ _ _ (λ t. number_decides b 0x7e I64 t refl only_i64) (λ not_i64.
    decides-if (eqb b 0x7d) _ _ _ (λ t. number_decides b 0x7d F32 t refl only_f32) (λ not_f32.
    decides-if (eqb b 0x7c) _ _ _ (λ t. number_decides b 0x7c F64 t refl only_f64) (λ not_f64.
    decides-if (eqb b 0x7b) _ _ _ (λ t. number_decides b 0x7b V128 t refl only_v128) (λ not_v128.
    decides-reference_value b not_i32 not_i64 not_f32 not_f64 not_v128)))))

pub decides-value_type : Decides value_type SpelledValue
unfolding value_type
decides-value_type = decides-byte value_type_after SpelledValue value_some decides-value_type_after

-- ---- storage types

value_begins : (v : ValType) (c : ℕ) (text : List ℕ) → SpelledValue v (c ∷ text) → c ≡ 0x77 → ⊥
value_begins I32 c text e h = omega (arith, heads c 0x7f text [] e)
value_begins I64 c text e h = omega (arith, heads c 0x7e text [] e)
value_begins F32 c text e h = omega (arith, heads c 0x7d text [] e)
value_begins F64 c text e h = omega (arith, heads c 0x7c text [] e)
value_begins V128 c text e h = omega (arith, heads c 0x7b text [] e)
value_begins (Ref r) c text e h = omega (arith, reference_begins c text r.nullable r.heap e)

value_begins_8 : (v : ValType) (c : ℕ) (text : List ℕ) → SpelledValue v (c ∷ text) → c ≡ 0x78 → ⊥
value_begins_8 I32 c text e h = omega (arith, heads c 0x7f text [] e)
value_begins_8 I64 c text e h = omega (arith, heads c 0x7e text [] e)
value_begins_8 F32 c text e h = omega (arith, heads c 0x7d text [] e)
value_begins_8 F64 c text e h = omega (arith, heads c 0x7c text [] e)
value_begins_8 V128 c text e h = omega (arith, heads c 0x7b text [] e)
value_begins_8 (Ref r) c text e h = omega (arith, reference_begins c text r.nullable r.heap e)

storage_some : (x : StorageType) → SpelledStorage x [] → ⊥
storage_some I8 e = cc
storage_some I16 e = cc
storage_some (Val v) e = value_some v e

only_i8 : (x : StorageType) (text : List ℕ) → SpelledStorage x (0x78 ∷ text) → (x ≡ I8) × (text ≡ [])
only_i8 I8 text e = (refl, tails 0x78 0x78 text [] e)
only_i8 I16 text e = absurd (omega (arith, heads 0x78 0x77 text [] e))
only_i8 (Val v) text e = absurd (value_begins_8 v 0x78 text e refl)

only_i16 : (x : StorageType) (text : List ℕ) → SpelledStorage x (0x77 ∷ text) → (x ≡ I16) × (text ≡ [])
only_i16 I8 text e = absurd (omega (arith, heads 0x77 0x78 text [] e))
only_i16 I16 text e = (refl, tails 0x77 0x77 text [] e)
only_i16 (Val v) text e = absurd (value_begins v 0x77 text e refl)

value_to : (b : ℕ) (x : StorageType) (text : List ℕ) → Mapped Val (λ v t. SpelledValue v (b ∷ t)) x text → SpelledStorage x (b ∷ text)
value_to b x text m = subst (λ (y : StorageType). SpelledStorage y (b ∷ text)) (sym m.2) m.1

value_from : (b : ℕ) → eqb b 0x78 ≡ false → eqb b 0x77 ≡ false → (x : StorageType) (text : List ℕ) → SpelledStorage x (b ∷ text) → Mapped Val (λ v t. SpelledValue v (b ∷ t)) x text
value_from b i j I8 text e = absurd (eqb-false _ _ i (heads b 0x78 text [] e))
value_from b i j I16 text e = absurd (eqb-false _ _ j (heads b 0x77 text [] e))
value_from b i j (Val v) text e = (v, e, refl)

packed_decides : (b n : ℕ) (x : StorageType) → eqb b n ≡ true → SpelledStorage x (n ∷ []) →
    ((y : StorageType) (text : List ℕ) → SpelledStorage y (n ∷ text) → (y ≡ x) × (text ≡ [])) → Decides (pure x) (λ y text. SpelledStorage y (b ∷ text))
packed_decides b n x t here only = subst (λ (c : ℕ). Decides (pure x) (λ y text. SpelledStorage y (c ∷ text))) (sym (eqb-true _ _ t))
    (decides-pure x (λ y text. SpelledStorage y (n ∷ text)) here only)

decides-storage_type_after : (b : ℕ) → Decides (storage_type_after b) (λ x text. SpelledStorage x (b ∷ text))
unfolding storage_type_after
decides-storage_type_after b =
    decides-if (eqb b 0x78) _ _ _ (λ t. packed_decides b 0x78 I8 t refl only_i8) (λ i.
    decides-if (eqb b 0x77) _ _ _ (λ t. packed_decides b 0x77 I16 t refl only_i16) (λ j.
    decides-same _ _ _ (decides-map (value_type_after b) Val (λ v t. SpelledValue v (b ∷ t)) (decides-value_type_after b)) (value_to b) (value_from b i j)))

pub decides-storage_type : Decides storage_type SpelledStorage
unfolding storage_type
decides-storage_type = decides-byte storage_type_after SpelledStorage storage_some decides-storage_type_after
