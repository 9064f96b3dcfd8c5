-- The readers of fields, signatures and indices are lawful, and read what the bytes spell.
use Rattle.std.proofs.Common.{◌≡◌, ℕ, ◌<◌, ◌≤◌, List, [], ◌∷◌, ◌++◌, refl, sym, ap, ◌∙◌, subst, arith, ltb, eqb, Bool, true, false}
use Rattle.std.specs.Prelude.{nat_lt}
use Rattle.std.proofs.lemmas.Bool.{ltb-true, ltb-false, eqb-true, eqb-false}
use Rattle.std.proofs.lemmas.List.{append-nil}
use Rattle.wasm_types_values.specs.decoding.declared.Refusal.TheVariants.{Other}
use Rattle.wasm_types_values.specs.decoding.Decoder.{Decoder, Grammar, ◌>>=◌, pure, refuse, byte, IsLawful, Decides, Then}
use Rattle.wasm_types_values.specs.decoding.Laws.{lawful-byte, lawful->>=, lawful-pure, lawful-refuse, lawful-choice, lawful-if}
use Rattle.wasm_types_values.specs.decoding.ExactLaws.{decides->>=, decides-same, decides-pure, decides-if, decides-map, decides-byte, decides-refuse, Mapped}
use Rattle.wasm_types_values.specs.decoding.Leb.{u32, IsUnsigned}
use Rattle.wasm_types_values.specs.decoding.LebLaws.{lawful-unsigned, decides-u32}
use Rattle.wasm_types_values.specs.decoding.Lists.{listed_within, IsListedWithin}
use Rattle.wasm_types_values.specs.decoding.ListLaws.{lawful-listed_within, decides-listed_within}
use Rattle.wasm_types_values.specs.settings.Settings.{Settings}
use Rattle.wasm_types_values.specs.types_trees.declared.index.UnpackedIndex.{UnpackedIndex}
use Rattle.wasm_types_values.specs.types_trees.declared.index.UnpackedIndex.TheVariants.{Module, RecGroup, Id}
use Rattle.wasm_types_values.specs.declared.value.ValType.{ValType}
use Rattle.wasm_types_values.specs.declared.value.StorageType.{StorageType}
use Rattle.wasm_types_values.specs.DecodeValues.{value_type, storage_type}
use Rattle.wasm_types_values.specs.DecodeLaws.{lawful-value_type, lawful-storage_type}
use Rattle.wasm_types_values.specs.Spelled.{SpelledValue, SpelledStorage}
use Rattle.wasm_types_values.specs.ValueLaws.{decides-value_type, decides-storage_type}
use Rattle.wasm_types_fields.specs.declared.field.FieldType.{FieldType}
use Rattle.wasm_types_fields.specs.Signatures.{Signature}
use Rattle.wasm_types_fields.specs.Spells.{IsMutability, SpelledField, SpelledFields, SpelledSignature, SpelledIndex}
use Rattle.wasm_types_fields.specs.Decode.{mutabilities, mutability, field_type, fields, signature, index_of, module_index}

-- ---- mutability

pub lawful-mutability : IsLawful mutability
unfolding mutability
lawful-mutability = lawful->>= byte _ lawful-byte (λ b. lawful-choice mutabilities _ b (lawful-pure false, (lawful-pure true, tt)) (lawful-refuse Other 0))

heads : (a b : ℕ) (s t : List ℕ) → a ∷ s ≡ b ∷ t → a ≡ b
heads a b s t e = cc

tails : (a b : ℕ) (s t : List ℕ) → a ∷ s ≡ b ∷ t → s ≡ t
tails a b s t e = cc

mutability_some : (m : Bool) → IsMutability m [] → ⊥
mutability_some false h = cc
mutability_some true h = cc

only_const : (m : Bool) (text : List ℕ) → IsMutability m (0 ∷ text) → (m ≡ false) × (text ≡ [])
only_const false text h = (refl, tails 0 0 text [] h)
only_const true text h = absurd cc

only_var : (m : Bool) (text : List ℕ) → IsMutability m (1 ∷ text) → (m ≡ true) × (text ≡ [])
only_var false text h = absurd cc
only_var true text h = (refl, tails 1 1 text [] h)

-- this byte alone
after_byte : (b n : ℕ) (x : Bool) → eqb b n ≡ true → IsMutability x (n ∷ []) →
    ((m : Bool) (text : List ℕ) → IsMutability m (n ∷ text) → (m ≡ x) × (text ≡ [])) → Decides (pure x) (λ m text. IsMutability m (b ∷ text))
after_byte b n x t here only = subst (λ (c : ℕ). Decides (pure x) (λ m text. IsMutability m (c ∷ text))) (sym (eqb-true _ _ t))
    (decides-pure x (λ m text. IsMutability m (n ∷ text)) here only)

no_other : (b : ℕ) → eqb b 0 ≡ false → eqb b 1 ≡ false → (m : Bool) (text : List ℕ) → IsMutability m (b ∷ text) → ⊥
no_other b i j false text h = eqb-false _ _ i (heads b 0 text [] h)
no_other b i j true text h = eqb-false _ _ j (heads b 1 text [] h)

pub decides-mutability : Decides mutability IsMutability
unfolding mutability
decides-mutability = decides-byte _ IsMutability mutability_some (λ b.
    decides-if (eqb b 0) _ _ _ (λ t. after_byte b 0 false t refl only_const) (λ i.
    decides-if (eqb b 1) _ _ _ (λ t. after_byte b 1 true t refl only_var) (λ j.
    decides-refuse Other 0 _ (no_other b i j))))

-- ---- fields

pub lawful-field_type : IsLawful field_type
unfolding field_type
lawful-field_type = lawful->>= storage_type _ lawful-storage_type (λ s. lawful->>= mutability _ lawful-mutability (λ m. lawful-pure (record { element_type = s; mutable = m })))

abbrev field_with : StorageType → Bool → FieldType
field_with s m = record { element_type = s; mutable = m }

abbrev field_parts : Grammar FieldType
field_parts = Then SpelledStorage (λ s. Mapped (field_with s) IsMutability)

field_to : (x : FieldType) (text : List ℕ) → field_parts x text → SpelledField x text
field_to x text h = subst (λ (y : FieldType). SpelledField y text) (sym h.second.2)
    (record { storage = h.front; mutability = h.back; stored = h.first; writable = h.second.1; whole = h.whole })

field_from : (x : FieldType) (text : List ℕ) → SpelledField x text → field_parts x text
field_from x text h = record { value = x.element_type; front = h.storage; back = h.mutability; first = h.stored; second = (x.mutable, h.writable, refl); whole = h.whole }

pub decides-field_type : Decides field_type SpelledField
unfolding field_type
decides-field_type = decides-same _ field_parts SpelledField
    (decides->>= storage_type _ SpelledStorage _ decides-storage_type (λ s. decides-map mutability (field_with s) IsMutability decides-mutability)) field_to field_from

module _ (z : Settings) where
  pub lawful-fields : IsLawful (fields z)
  unfolding fields
  lawful-fields = lawful-listed_within z.limits.fields field_type lawful-field_type

  pub decides-fields : Decides (fields z) (SpelledFields z)
  unfolding fields
  decides-fields = decides-listed_within z.limits.fields field_type SpelledField decides-field_type

-- ---- signatures

module _ (limit : ℕ) where
  abbrev values : Decoder (List ValType)
  values = listed_within limit value_type

  abbrev SpelledValues : Grammar (List ValType)
  SpelledValues = IsListedWithin limit SpelledValue

  lawful-values : IsLawful values
  lawful-values = lawful-listed_within limit value_type lawful-value_type

  decides-values : Decides values SpelledValues
  decides-values = decides-listed_within limit value_type SpelledValue decides-value_type

module _ (z : Settings) where
  pub lawful-signature : IsLawful (signature z)
  unfolding signature
  lawful-signature = lawful->>= (values z.limits.params) _ (lawful-values z.limits.params)
      (λ ps. lawful->>= (values z.limits.results) _ (lawful-values z.limits.results) (λ rs. lawful-pure (record { params = ps; results = rs })))

  abbrev signature_with : List ValType → List ValType → Signature
  signature_with ps rs = record { params = ps; results = rs }

  abbrev signature_parts : Grammar Signature
  signature_parts = Then (SpelledValues z.limits.params) (λ ps. Mapped (signature_with ps) (SpelledValues z.limits.results))

  signature_to : (f : Signature) (text : List ℕ) → signature_parts f text → SpelledSignature z f text
  signature_to f text h = subst (λ (y : Signature). SpelledSignature z y text) (sym h.second.2)
      (record { params = h.front; results = h.back; taken = h.first; given = h.second.1; whole = h.whole })

  signature_from : (f : Signature) (text : List ℕ) → SpelledSignature z f text → signature_parts f text
  signature_from f text h = record { value = f.params; front = h.params; back = h.results; first = h.taken; second = (f.results, h.given, refl); whole = h.whole }

  pub decides-signature : Decides (signature z) (SpelledSignature z)
  unfolding signature
  decides-signature = decides-same _ signature_parts (SpelledSignature z)
      (decides->>= (values z.limits.params) _ (SpelledValues z.limits.params) _ (decides-values z.limits.params)
      (λ ps. decides-map (values z.limits.results) (signature_with ps) (SpelledValues z.limits.results) (decides-values z.limits.results))) signature_to signature_from

-- ---- indices

pub lawful-module_index : IsLawful module_index
unfolding module_index
lawful-module_index = lawful->>= u32 index_of (lawful-unsigned 4 4)
    (λ n. lawful-if (nat_lt n 0x10_0000) (pure (Module n)) (refuse Other 0) (lawful-pure (Module n)) (lawful-refuse Other 0))

-- the index of this number, and nothing behind it
abbrev OnlyIndex : ℕ → Grammar UnpackedIndex
OnlyIndex n i text = (i ≡ Module n) × (text ≡ []) × (n < 0x10_0000)

only_index : (n : ℕ) → Decides (index_of n) (OnlyIndex n)
only_index n = decides-if (ltb n 0x10_0000) (pure (Module n)) (refuse Other 0) (OnlyIndex n)
    (λ t. let small : n < 0x10_0000 = ltb-true _ _ t in decides-pure (Module n) (OnlyIndex n) (refl, refl, small) (λ i text h. (h.0, h.1)))
    (λ f. let large : 0x10_0000 ≤ n = ltb-false _ _ f in decides-refuse Other 0 (OnlyIndex n) (λ i text h. omega (arith, h.2, large)))

index_to : (i : UnpackedIndex) (text : List ℕ) → Then (IsUnsigned 32) OnlyIndex i text → SpelledIndex i text
index_to i text h =
    let whole : text ≡ h.front = h.whole ∙ ap (λ (z : List ℕ). h.front ++ z) h.second.1 ∙ append-nil h.front in
    subst (λ (j : UnpackedIndex). SpelledIndex j text) (sym h.second.0) (subst (IsUnsigned 32 h.value) (sym whole) h.first, h.second.2)

index_back : (i : UnpackedIndex) (text : List ℕ) → SpelledIndex i text → Then (IsUnsigned 32) OnlyIndex i text
index_back (Module n) text h = record { value = n; front = text; back = []; first = h.0; second = (refl, refl, h.1); whole = sym (append-nil text) }
index_back (RecGroup n) text h = absurd h
index_back (Id i) text h = absurd h

pub decides-module_index : Decides module_index SpelledIndex
unfolding module_index
decides-module_index =
    decides-same _ (Then (IsUnsigned 32) OnlyIndex) SpelledIndex (decides->>= u32 index_of (IsUnsigned 32) OnlyIndex decides-u32 only_index) index_to index_back
