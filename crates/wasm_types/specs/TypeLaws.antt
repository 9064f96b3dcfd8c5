-- The readers of composite types and subtypes are lawful, and read what the bytes spell.
use Rattle.std.proofs.Common.{◌≡◌, ℕ, List, [], ◌∷◌, ◌++◌, refl, sym, ap, subst, arith, eqb, Bool, true, false, Option, Some, None, inl, inr}
use Rattle.std.proofs.lemmas.Bool.{eqb-true, eqb-false}
use Rattle.wasm_types_decoding.specs.declared.Refusal.TheVariants.{Other}
use Rattle.wasm_types_decoding.specs.Decoder.{Decoder, Grammar, ◌>>=◌, pure, refuse, byte, IsLawful, Decides, Then}
use Rattle.wasm_types_decoding.specs.Laws.{lawful-byte, lawful->>=, lawful-pure, lawful-refuse, lawful-choice, lawful-if}
use Rattle.wasm_types_decoding.specs.ExactLaws.{decides->>=, decides-same, decides-pure, decides-refuse, decides-if, decides-map, decides-byte, Mapped}
use Rattle.wasm_types_decoding.specs.Lists.{listed_within, IsListedWithin}
use Rattle.wasm_types_decoding.specs.ListLaws.{lawful-listed_within, decides-listed_within}
use Rattle.wasm_types_settings.specs.Settings.{Settings}
use Rattle.wasm_types_trees.specs.declared.index.UnpackedIndex.{UnpackedIndex}
use Rattle.wasm_types_fields.specs.Spells.{SpelledField, SpelledFields, SpelledSignature, SpelledIndex}
use Rattle.wasm_types_fields.specs.Decode.{field_type, fields, signature, module_index}
use Rattle.wasm_types_fields.specs.DecodeLaws.{lawful-field_type, decides-field_type, lawful-fields, decides-fields, lawful-signature}
use Rattle.wasm_types_fields.specs.DecodeLaws.{decides-signature, lawful-module_index, decides-module_index}
use Rattle.wasm_types.specs.Spells.{final_byte}
use Rattle.wasm_types.specs.SpellsTypes.{InnerValue, function, array_of, struct_of, continuation, CompositeValue, SubValue, SpelledInner}
use Rattle.wasm_types.specs.SpellsTypes.{Optionally, Nothing, composite_with, SpelledDescriptor, SpelledDescribes, SpelledComposite, sub_with}
use Rattle.wasm_types.specs.SpellsTypes.{SpelledDeclared, SpelledSub, GroupValue, group_with, SpelledTypes, SpelledGroup}
use Rattle.wasm_types.specs.DecodeTypes.{inners, inner_after, optional, last_after, descriptor_after, describes_after, composite_after}
use Rattle.wasm_types.specs.DecodeTypes.{composite, supertypes, declared_sub, sub_after, sub_type, explicit_group, group_after, rec_group}

heads : (a b : ℕ) (s t : List ℕ) → a ∷ s ≡ b ∷ t → a ≡ b
heads a b s t e = cc

tails : (a b : ℕ) (s t : List ℕ) → a ∷ s ≡ b ∷ t → s ≡ t
tails a b s t e = cc

module _ (settings : Settings) where
  -- ---- the type itself

  pub lawful-inner_after : (b : ℕ) → IsLawful (inner_after settings b)
  unfolding inner_after
  lawful-inner_after b = lawful-choice (inners settings) (refuse Other 1) b (
    lawful->>= (signature settings) _ (lawful-signature settings) (λ f. lawful-pure (function f)),
    (
      lawful->>= field_type _ lawful-field_type (λ x. lawful-pure (array_of x)),
      (
        lawful->>= (fields settings) _ (lawful-fields settings) (λ xs. lawful-pure (struct_of xs)),
        (lawful->>= module_index _ lawful-module_index (λ i. lawful-pure (continuation i)), tt),
      ),
    ),
  )
      (lawful-refuse Other 1)

  inner_some : (x : InnerValue) → SpelledInner settings x [] → ⊥
  inner_some (function f) h = let e = h.1 in cc
  inner_some (array_of x) h = let e = h.1 in cc
  inner_some (struct_of xs) h = let e = h.1 in cc
  inner_some (continuation i) h = let e = h.1 in cc

  -- the byte that a type begins with
  abbrev inner_byte : InnerValue → ℕ
  inner_byte (function f) = 0x60
  inner_byte (array_of x) = 0x5e
  inner_byte (struct_of xs) = 0x5f
  inner_byte (continuation i) = 0x5d

  inner_begins : (x : InnerValue) (b : ℕ) (text : List ℕ) → SpelledInner settings x (b ∷ text) → b ≡ inner_byte x
  inner_begins (function f) b text h = heads b 0x60 text h.0 h.1
  inner_begins (array_of x) b text h = heads b 0x5e text h.0 h.1
  inner_begins (struct_of xs) b text h = heads b 0x5f text h.0 h.1
  inner_begins (continuation i) b text h = heads b 0x5d text h.0 h.1

  -- an alternative: what follows its byte is exactly what d reads
  module _ {A : Type 0} (tag : ℕ) (d : Decoder A) (f : A → InnerValue) (g : Grammar A) (decides : Decides d g) where
    alternative : ((x : A) (text : List ℕ) → g x text → SpelledInner settings (f x) (tag ∷ text)) →
        ((y : InnerValue) (text : List ℕ) → SpelledInner settings y (tag ∷ text) → Mapped f g y text)
        → Decides (d >>= λ x. pure (f x)) (λ y text. SpelledInner settings y (tag ∷ text))
    alternative to from = decides-same _ (Mapped f g) _ (decides-map d f g decides)
        (λ y text m. subst (λ (z : InnerValue). SpelledInner settings z (tag ∷ text)) (sym m.2) (to m.0 text m.1)) from

  from_function : (y : InnerValue) (text : List ℕ) → SpelledInner settings y (0x60 ∷ text) → Mapped function (SpelledSignature settings) y text
  from_function (function f) text h = (f, subst (SpelledSignature settings f) (sym (tails 0x60 0x60 text h.0 h.1)) h.2, refl)
  from_function (array_of x) text h = absurd (omega (arith, heads 0x60 0x5e text h.0 h.1))
  from_function (struct_of xs) text h = absurd (omega (arith, heads 0x60 0x5f text h.0 h.1))
  from_function (continuation i) text h = absurd (omega (arith, heads 0x60 0x5d text h.0 h.1))

  from_array : (y : InnerValue) (text : List ℕ) → SpelledInner settings y (0x5e ∷ text) → Mapped array_of SpelledField y text
  from_array (function f) text h = absurd (omega (arith, heads 0x5e 0x60 text h.0 h.1))
  from_array (array_of x) text h = (x, subst (SpelledField x) (sym (tails 0x5e 0x5e text h.0 h.1)) h.2, refl)
  from_array (struct_of xs) text h = absurd (omega (arith, heads 0x5e 0x5f text h.0 h.1))
  from_array (continuation i) text h = absurd (omega (arith, heads 0x5e 0x5d text h.0 h.1))

  from_struct : (y : InnerValue) (text : List ℕ) → SpelledInner settings y (0x5f ∷ text) → Mapped struct_of (SpelledFields settings) y text
  from_struct (function f) text h = absurd (omega (arith, heads 0x5f 0x60 text h.0 h.1))
  from_struct (array_of x) text h = absurd (omega (arith, heads 0x5f 0x5e text h.0 h.1))
  from_struct (struct_of xs) text h = (xs, subst (SpelledFields settings xs) (sym (tails 0x5f 0x5f text h.0 h.1)) h.2, refl)
  from_struct (continuation i) text h = absurd (omega (arith, heads 0x5f 0x5d text h.0 h.1))

  from_continuation : (y : InnerValue) (text : List ℕ) → SpelledInner settings y (0x5d ∷ text) → Mapped continuation SpelledIndex y text
  from_continuation (function f) text h = absurd (omega (arith, heads 0x5d 0x60 text h.0 h.1))
  from_continuation (array_of x) text h = absurd (omega (arith, heads 0x5d 0x5e text h.0 h.1))
  from_continuation (struct_of xs) text h = absurd (omega (arith, heads 0x5d 0x5f text h.0 h.1))
  from_continuation (continuation i) text h = (i, subst (SpelledIndex i) (sym (tails 0x5d 0x5d text h.0 h.1)) h.2, refl)

  decides-function : Decides (signature settings >>= λ f. pure (function f)) (λ y text. SpelledInner settings y (0x60 ∷ text))
  decides-function = alternative 0x60 (signature settings) function (SpelledSignature settings) (decides-signature settings) (λ f text h. (text, refl, h)) from_function

  decides-array : Decides (field_type >>= λ x. pure (array_of x)) (λ y text. SpelledInner settings y (0x5e ∷ text))
  decides-array = alternative 0x5e field_type array_of SpelledField decides-field_type (λ x text h. (text, refl, h)) from_array

  decides-struct : Decides (fields settings >>= λ xs. pure (struct_of xs)) (λ y text. SpelledInner settings y (0x5f ∷ text))
  decides-struct = alternative 0x5f (fields settings) struct_of (SpelledFields settings) (decides-fields settings) (λ xs text h. (text, refl, h)) from_struct

  decides-continuation : Decides (module_index >>= λ i. pure (continuation i)) (λ y text. SpelledInner settings y (0x5d ∷ text))
  decides-continuation = alternative 0x5d module_index continuation SpelledIndex decides-module_index (λ i text h. (text, refl, h)) from_continuation

  at_tag : {A : Type 0} (d : Decoder A) (g : Grammar A) (b n : ℕ) → eqb b n ≡ true → Decides d (λ y text. g y (n ∷ text)) → Decides d (λ y text. g y (b ∷ text))
  at_tag d g b n t h = subst (λ (c : ℕ). Decides d (λ y text. g y (c ∷ text))) (sym (eqb-true _ _ t)) h

  no_inner : (b : ℕ) → eqb b 0x60 ≡ false → eqb b 0x5e ≡ false → eqb b 0x5f ≡ false → eqb b 0x5d ≡ false → (x : InnerValue) (text : List ℕ) → SpelledInner settings x (b ∷ text) → ⊥
  no_inner b p q r s (function f) text h = eqb-false _ _ p (heads b 0x60 text h.0 h.1)
  no_inner b p q r s (array_of x) text h = eqb-false _ _ q (heads b 0x5e text h.0 h.1)
  no_inner b p q r s (struct_of xs) text h = eqb-false _ _ r (heads b 0x5f text h.0 h.1)
  no_inner b p q r s (continuation i) text h = eqb-false _ _ s (heads b 0x5d text h.0 h.1)

  pub decides-inner_after : (b : ℕ) → Decides (inner_after settings b) (λ x text. SpelledInner settings x (b ∷ text))
  unfolding inner_after
  decides-inner_after b =
      decides-if (eqb b 0x60) _ _ _ (λ t. at_tag _ (SpelledInner settings) b 0x60 t decides-function) (λ p.
      decides-if (eqb b 0x5e) _ _ _ (λ t. at_tag _ (SpelledInner settings) b 0x5e t decides-array) (λ q.
      decides-if (eqb b 0x5f) _ _ _ (λ t. at_tag _ (SpelledInner settings) b 0x5f t decides-struct) (λ r.
      decides-if (eqb b 0x5d) _ _ _ (λ t. at_tag _ (SpelledInner settings) b 0x5d t decides-continuation) (λ s.
      decides-refuse Other 1 _ (no_inner b p q r s)))))

  -- ---- what may stand before it

  module _ {A B : Type 0} (tag : ℕ) (d : Decoder A) (next : Option A → ℕ → Decoder B) where
    lawful-optional : IsLawful d → ((o : Option A) (b : ℕ) → IsLawful (next o b)) → (b : ℕ) → IsLawful (optional tag d next b)
    lawful-optional l m b = lawful-if (eqb b tag) _ _ (lawful->>= d _ l (λ x. lawful->>= byte _ lawful-byte (λ c. m (Some x) c))) (m None b)

    module _ (g : Grammar A) (h : Option A → Grammar B) (decides : Decides d g)
        (nexts : (o : Option A) (b : ℕ) → Decides (next o b) (λ y text. h o y (b ∷ text)))
        (some : (o : Option A) (y : B) → h o y [] → ⊥)
        (apart : (y : B) (text : List ℕ) → h None y (tag ∷ text) → ⊥) where
      whole_next : (o : Option A) → Decides (byte >>= next o) (h o)
      whole_next o = decides-byte (next o) (h o) (some o) (nexts o)

      prefixed_to : (y : B) (text : List ℕ) → Then g (λ x. h (Some x)) y text → Optionally tag g h y (tag ∷ text)
      prefixed_to y text t = inr (record { value = t.value; front = t.front; back = t.back; first = t.first; second = t.second; whole = ap (λ (z : List ℕ). tag ∷ z) t.whole })

      prefixed_from : (y : B) (text : List ℕ) → Optionally tag g h y (tag ∷ text) → Then g (λ x. h (Some x)) y text
      prefixed_from y text (inl n) = absurd (apart y text n)
      prefixed_from y text (inr p) = record {
        value = p.value;
        front = p.front;
        back = p.back;
        first = p.first;
        second = p.second;
        whole = tails tag
            tag text (p.front ++ p.back) p.whole;
      }

      bare_from : (b : ℕ) → eqb b tag ≡ false → (y : B) (text : List ℕ) → Optionally tag g h y (b ∷ text) → h None y (b ∷ text)
      bare_from b f y text (inl n) = n
      bare_from b f y text (inr p) = absurd (eqb-false _ _ f (heads b tag text (p.front ++ p.back) p.whole))

      decides-optional : (b : ℕ) → Decides (optional tag d next b) (λ y text. Optionally tag g h y (b ∷ text))
      decides-optional b = decides-if (eqb b tag) _ _ _
          (λ t. at_tag _ (Optionally tag g h) b tag t (decides-same _ (Then g (λ x. h (Some x))) _
          (decides->>= d _ g _ decides (λ x. whole_next (Some x))) prefixed_to prefixed_from))
          (λ f. decides-same (next None b) (λ y text. h None y (b ∷ text)) _ (nexts None b) (λ y text n. inl n) (bare_from b f))

      optional_some : (y : B) → Optionally tag g h y [] → ⊥
      optional_some y (inl n) = some None y n
      optional_some y (inr p) = let e = p.whole in cc

  -- ---- composite types

  pub lawful-last_after : (s : Option (Unit {0})) (e d : Option UnpackedIndex) (b : ℕ) → IsLawful (last_after settings s e d b)
  unfolding last_after
  lawful-last_after s e d b = lawful->>= (inner_after settings b) _ (lawful-inner_after b) (λ x. lawful-pure (composite_with s e d x))

  pub lawful-descriptor_after : (s : Option (Unit {0})) (e : Option UnpackedIndex) (b : ℕ) → IsLawful (descriptor_after settings s e b)
  unfolding descriptor_after
  lawful-descriptor_after s e b = lawful-optional 0x4d module_index (last_after settings s e) lawful-module_index (lawful-last_after s e) b

  pub lawful-describes_after : (s : Option (Unit {0})) (b : ℕ) → IsLawful (describes_after settings s b)
  unfolding describes_after
  lawful-describes_after s b = lawful-optional 0x4c module_index (descriptor_after settings s) lawful-module_index (lawful-descriptor_after s) b

  pub lawful-composite_after : (b : ℕ) → IsLawful (composite_after settings b)
  unfolding composite_after
  lawful-composite_after b = lawful-optional 0x65 (pure tt) (describes_after settings) (lawful-pure tt) lawful-describes_after b

  pub lawful-composite : IsLawful (composite settings)
  unfolding composite
  lawful-composite = lawful->>= byte (composite_after settings) lawful-byte lawful-composite_after

  abbrev Last : Option (Unit {0}) → Option UnpackedIndex → Option UnpackedIndex → Grammar CompositeValue
  Last s e d = Mapped (composite_with s e d) (SpelledInner settings)

  decides-last_after : (s : Option (Unit {0})) (e d : Option UnpackedIndex) (b : ℕ) → Decides (last_after settings s e d b) (λ c text. Last s e d c (b ∷ text))
  unfolding last_after
  decides-last_after s e d b = decides-map (inner_after settings b) (composite_with s e d) (λ x text. SpelledInner settings x (b ∷ text)) (decides-inner_after b)

  last_some : (s : Option (Unit {0})) (e d : Option UnpackedIndex) (c : CompositeValue) → Last s e d c [] → ⊥
  last_some s e d c m = inner_some m.0 m.1

  -- bytes that begin no type
  abbrev IsLow : ℕ → Type 0
  IsLow n = (x : InnerValue) → n ≡ inner_byte x → ⊥

  last_apart : (n : ℕ) → IsLow n → (s : Option (Unit {0})) (e d : Option UnpackedIndex) (c : CompositeValue) (text : List ℕ) → Last s e d c (n ∷ text) → ⊥
  last_apart n low s e d c text m = low m.0 (inner_begins m.0 n text m.1)

  low_4c : IsLow 0x4c
  low_4c (function f) e = omega (arith, e)
  low_4c (array_of x) e = omega (arith, e)
  low_4c (struct_of xs) e = omega (arith, e)
  low_4c (continuation i) e = omega (arith, e)

  low_4d : IsLow 0x4d
  low_4d (function f) e = omega (arith, e)
  low_4d (array_of x) e = omega (arith, e)
  low_4d (struct_of xs) e = omega (arith, e)
  low_4d (continuation i) e = omega (arith, e)

  low_4f : IsLow 0x4f
  low_4f (function f) e = omega (arith, e)
  low_4f (array_of x) e = omega (arith, e)
  low_4f (struct_of xs) e = omega (arith, e)
  low_4f (continuation i) e = omega (arith, e)

  low_50 : IsLow 0x50
  low_50 (function f) e = omega (arith, e)
  low_50 (array_of x) e = omega (arith, e)
  low_50 (struct_of xs) e = omega (arith, e)
  low_50 (continuation i) e = omega (arith, e)

  low_65 : IsLow 0x65
  low_65 (function f) e = omega (arith, e)
  low_65 (array_of x) e = omega (arith, e)
  low_65 (struct_of xs) e = omega (arith, e)
  low_65 (continuation i) e = omega (arith, e)

  decides-descriptor_after : (s : Option (Unit {0})) (e : Option UnpackedIndex) (b : ℕ) → Decides (descriptor_after settings s e b)
      (λ c text. SpelledDescriptor settings s e c (b ∷ text))
  unfolding descriptor_after
  decides-descriptor_after s e = decides-optional 0x4d module_index (last_after settings s e) SpelledIndex (Last s e) decides-module_index
      (decides-last_after s e) (last_some s e) (last_apart 0x4d low_4d s e None)

  descriptor_some : (s : Option (Unit {0})) (e : Option UnpackedIndex) (c : CompositeValue) → SpelledDescriptor settings s e c [] → ⊥
  descriptor_some s e c (inl m) = last_some s e None c m
  descriptor_some s e c (inr p) = let w = p.whole in cc

  descriptor_apart : (n : ℕ) → IsLow n → (n ≡ 0x4d → ⊥) → (s : Option (Unit {0})) (e : Option UnpackedIndex) (c : CompositeValue) (text : List ℕ) →
      SpelledDescriptor settings s e c (n ∷ text) → ⊥
  descriptor_apart n low not_4d s e c text (inl m) = last_apart n low s e None c text m
  descriptor_apart n low not_4d s e c text (inr p) = not_4d (heads n 0x4d text (p.front ++ p.back) p.whole)

  decides-describes_after : (s : Option (Unit {0})) (b : ℕ) → Decides (describes_after settings s b) (λ c text. SpelledDescribes settings s c (b ∷ text))
  unfolding describes_after
  decides-describes_after s = decides-optional 0x4c module_index (descriptor_after settings s) SpelledIndex (SpelledDescriptor settings s)
      decides-module_index (decides-descriptor_after s) (descriptor_some s)
      (descriptor_apart 0x4c low_4c (λ e. omega (arith, e)) s None)

  describes_some : (s : Option (Unit {0})) (c : CompositeValue) → SpelledDescribes settings s c [] → ⊥
  describes_some s c (inl m) = descriptor_some s None c m
  describes_some s c (inr p) = let w = p.whole in cc

  describes_apart : (n : ℕ) → IsLow n → (n ≡ 0x4d → ⊥) → (n ≡ 0x4c → ⊥) → (s : Option (Unit {0})) (c : CompositeValue) (text : List ℕ) →
      SpelledDescribes settings s c (n ∷ text) → ⊥
  describes_apart n low not_4d not_4c s c text (inl m) = descriptor_apart n low not_4d s None c text m
  describes_apart n low not_4d not_4c s c text (inr p) = not_4c (heads n 0x4c text (p.front ++ p.back) p.whole)

  decides-nothing : Decides (pure tt) Nothing
  decides-nothing = decides-pure tt Nothing refl (λ u text h. (refl, h))

  pub decides-composite_after : (b : ℕ) → Decides (composite_after settings b) (λ c text. SpelledComposite settings c (b ∷ text))
  unfolding composite_after
  decides-composite_after = decides-optional 0x65 (pure tt) (describes_after settings) Nothing (SpelledDescribes settings) decides-nothing decides-describes_after describes_some
      (describes_apart 0x65 low_65 (λ e. omega (arith, e)) (λ e. omega (arith, e)) None)

  composite_some : (c : CompositeValue) → SpelledComposite settings c [] → ⊥
  composite_some c (inl m) = describes_some None c m
  composite_some c (inr p) = let w = p.whole in cc

  composite_apart : (n : ℕ) → IsLow n → (n ≡ 0x4d → ⊥) → (n ≡ 0x4c → ⊥) → (n ≡ 0x65 → ⊥) → (c : CompositeValue) (text : List ℕ) → SpelledComposite settings c (n ∷ text) → ⊥
  composite_apart n low not_4d not_4c not_65 c text (inl m) = describes_apart n low not_4d not_4c None c text m
  composite_apart n low not_4d not_4c not_65 c text (inr p) = not_65 (heads n 0x65 text (p.front ++ p.back) p.whole)

  pub decides-composite : Decides (composite settings) (SpelledComposite settings)
  unfolding composite
  decides-composite = decides-byte (composite_after settings) (SpelledComposite settings) composite_some decides-composite_after

  -- ---- subtypes

  pub lawful-supertypes : IsLawful supertypes
  unfolding supertypes
  lawful-supertypes = lawful-listed_within 1 module_index lawful-module_index

  lawful-declared_sub : (f : Bool) → IsLawful (declared_sub settings f)
  unfolding declared_sub
  lawful-declared_sub f = lawful->>= supertypes _ lawful-supertypes (λ sups. lawful->>= (composite settings) _ lawful-composite (λ c. lawful-pure (sub_with f sups c)))

  pub lawful-sub_after : (b : ℕ) → IsLawful (sub_after settings b)
  unfolding sub_after
  lawful-sub_after b = lawful-if (eqb b 0x50) _ _ (lawful-declared_sub false) (lawful-if (eqb b 0x4f) _ _ (lawful-declared_sub true)
      (lawful->>= (composite_after settings b) _ (lawful-composite_after b) (λ c. lawful-pure (sub_with true [] c))))

  pub lawful-sub_type : IsLawful (sub_type settings)
  unfolding sub_type
  lawful-sub_type = lawful->>= byte (sub_after settings) lawful-byte lawful-sub_after

  abbrev SpelledSupertypes : Grammar (List UnpackedIndex)
  SpelledSupertypes = IsListedWithin 1 SpelledIndex

  decides-supertypes : Decides supertypes SpelledSupertypes
  unfolding supertypes
  decides-supertypes = decides-listed_within 1 module_index SpelledIndex decides-module_index

  abbrev DeclaredParts : Bool → Grammar SubValue
  DeclaredParts f = Then SpelledSupertypes (λ sups. Mapped (sub_with f sups) (SpelledComposite settings))

  decides-declared_sub : (f : Bool) → Decides (declared_sub settings f) (DeclaredParts f)
  unfolding declared_sub
  decides-declared_sub f = decides->>= supertypes _ SpelledSupertypes _ decides-supertypes
      (λ sups. decides-map (composite settings) (sub_with f sups) (SpelledComposite settings) decides-composite)

  abbrev SubAfter : ℕ → Grammar SubValue
  SubAfter b x text = SpelledSub settings x (b ∷ text)

  declared_to : (f : Bool) (x : SubValue) (text : List ℕ) → DeclaredParts f x text → SubAfter (final_byte f) x text
  declared_to f x text t = subst (λ (y : SubValue). SubAfter (final_byte f) y text) (sym t.second.2)
      (inr (record { supertypes = t.front; composite = t.back; above = t.first; itself = t.second.1; whole = ap (λ (z : List ℕ). final_byte f ∷ z) t.whole }))

  no_bare : (n : ℕ) → IsLow n → (n ≡ 0x4d → ⊥) → (n ≡ 0x4c → ⊥) → (n ≡ 0x65 → ⊥) → (x : SubValue) (text : List ℕ) → Mapped (sub_with true [])
      (SpelledComposite settings) x (n ∷ text) → ⊥
  no_bare n low p q r x text m = composite_apart n low p q r m.0 text m.1

  one_final : (f : Bool) (x : SubValue) (text : List ℕ) (h : SpelledDeclared settings x (final_byte f ∷ text)) → x.is_final ≡ f
  one_final f x text h = same f x.is_final (heads (final_byte f) (final_byte x.is_final) text (h.supertypes ++ h.composite) h.whole)
    where
      same : (a b : Bool) → final_byte a ≡ final_byte b → b ≡ a
      same true true e = refl
      same true false e = absurd (omega (arith, e))
      same false true e = absurd (omega (arith, e))
      same false false e = refl

  declared_back : (f : Bool) (x : SubValue) (text : List ℕ) → SpelledDeclared settings x (final_byte f ∷ text) → DeclaredParts f x text
  declared_back f x text h = record {
    value = x.supertypes;
    front = h.supertypes;
    back = h.composite;
    first = h.above;
    second = (x.composite, h.itself, (let e = one_final f x text h in λ i. record { is_final = e i; supertypes = x.supertypes; composite = x.composite }));
    whole = tails (final_byte f) (final_byte x.is_final) text (h.supertypes ++ h.composite) h.whole;
  }

  from_open : (x : SubValue) (text : List ℕ) → SubAfter 0x50 x text → DeclaredParts false x text
  from_open x text (inl m) = absurd (no_bare 0x50 low_50 (λ e. omega (arith, e)) (λ e. omega (arith, e)) (λ e. omega (arith, e)) x text m)
  from_open x text (inr h) = declared_back false x text h

  from_final : (x : SubValue) (text : List ℕ) → SubAfter 0x4f x text → DeclaredParts true x text
  from_final x text (inl m) = absurd (no_bare 0x4f low_4f (λ e. omega (arith, e)) (λ e. omega (arith, e)) (λ e. omega (arith, e)) x text m)
  from_final x text (inr h) = declared_back true x text h

  from_bare : (b : ℕ) → eqb b 0x50 ≡ false → eqb b 0x4f ≡ false → (x : SubValue) (text : List ℕ) → SubAfter b x text → Mapped (sub_with true [])
      (λ c t. SpelledComposite settings c (b ∷ t)) x text
  from_bare b p q x text (inl m) = m
  from_bare b p q x text (inr h) = absurd (neither x.is_final (heads b (final_byte x.is_final) text (h.supertypes ++ h.composite) h.whole))
    where
      neither : (f : Bool) → b ≡ final_byte f → ⊥
      neither true e = eqb-false _ _ q e
      neither false e = eqb-false _ _ p e

  pub decides-sub_after : (b : ℕ) → Decides (sub_after settings b) (SubAfter b)
  unfolding sub_after
  decides-sub_after b =
      decides-if (eqb b 0x50) _ _ _ (λ t. at_tag _ (SpelledSub settings) b 0x50 t (decides-same _ _ _ (decides-declared_sub false) (declared_to false) from_open)) (λ p.
      decides-if (eqb b 0x4f) _ _ _ (λ t. at_tag _ (SpelledSub settings) b 0x4f t (decides-same _ _ _ (decides-declared_sub true) (declared_to true) from_final)) (λ q.
      decides-same _ _ _ (decides-map (composite_after settings b) (sub_with true []) (λ c t. SpelledComposite settings c (b ∷ t))
      (decides-composite_after b)) (λ x text m. inl m) (from_bare b p q)))

  sub_some : (x : SubValue) → SpelledSub settings x [] → ⊥
  sub_some x (inl m) = composite_some m.0 m.1
  sub_some x (inr h) = let w = h.whole in cc

  pub decides-sub_type : Decides (sub_type settings) (SpelledSub settings)
  unfolding sub_type
  decides-sub_type = decides-byte (sub_after settings) (SpelledSub settings) sub_some decides-sub_after

  -- ---- groups

  lawful-explicit_group : IsLawful (explicit_group settings)
  unfolding explicit_group
  lawful-explicit_group = lawful->>= (listed_within settings.limits.types (sub_type settings)) _
      (lawful-listed_within settings.limits.types (sub_type settings) lawful-sub_type) (λ xs. lawful-pure (group_with true xs))

  pub lawful-rec_group : IsLawful (rec_group settings)
  unfolding rec_group group_after
  lawful-rec_group = lawful->>= byte (group_after settings) lawful-byte
      (λ b. lawful-if (eqb b 0x4e) _ _ lawful-explicit_group (lawful->>= (sub_after settings b) _ (lawful-sub_after b) (λ x. lawful-pure (group_with false (x ∷ [])))))

  low_4e : IsLow 0x4e
  low_4e (function f) e = omega (arith, e)
  low_4e (array_of x) e = omega (arith, e)
  low_4e (struct_of xs) e = omega (arith, e)
  low_4e (continuation i) e = omega (arith, e)

  no_sub : (x : SubValue) (text : List ℕ) → SpelledSub settings x (0x4e ∷ text) → ⊥
  no_sub x text (inl m) = no_bare 0x4e low_4e (λ e. omega (arith, e)) (λ e. omega (arith, e)) (λ e. omega (arith, e)) x text m
  no_sub x text (inr h) = neither x.is_final (heads 0x4e (final_byte x.is_final) text (h.supertypes ++ h.composite) h.whole)
    where
      neither : (f : Bool) → 0x4e ≡ final_byte f → ⊥
      neither true e = omega (arith, e)
      neither false e = omega (arith, e)

  decides-explicit_group : Decides (explicit_group settings) (Mapped (group_with true) (SpelledTypes settings))
  unfolding explicit_group
  decides-explicit_group = decides-map (listed_within settings.limits.types (sub_type settings)) (group_with true) (SpelledTypes settings)
      (decides-listed_within settings.limits.types (sub_type settings) (SpelledSub settings) decides-sub_type)

  from_explicit : (g : GroupValue) (text : List ℕ) → SpelledGroup settings g (0x4e ∷ text) → Mapped (group_with true) (SpelledTypes settings) g text
  from_explicit g text (inl m) = absurd (no_sub m.0 text m.1)
  from_explicit g text (inr h) = subst (Mapped (group_with true) (SpelledTypes settings) g) (sym (tails 0x4e 0x4e text h.0 h.1)) h.2

  from_implicit : (b : ℕ) → eqb b 0x4e ≡ false → (g : GroupValue) (text : List ℕ) → SpelledGroup settings g (b ∷ text) → Mapped (λ x. group_with false (x ∷ [])) (SubAfter b) g text
  from_implicit b f g text (inl m) = m
  from_implicit b f g text (inr h) = absurd (eqb-false _ _ f (heads b 0x4e text h.0 h.1))

  decides-group_after : (b : ℕ) → Decides (group_after settings b) (λ g text. SpelledGroup settings g (b ∷ text))
  unfolding group_after
  decides-group_after b =
      decides-if (eqb b 0x4e) _ _ _ (λ t. at_tag _ (SpelledGroup settings) b 0x4e t
      (decides-same _ _ _ decides-explicit_group (λ g text m. inr (text, refl, m)) from_explicit)) (λ f.
      decides-same _ _ _ (decides-map (sub_after settings b) (λ x. group_with false (x ∷ [])) (SubAfter b) (decides-sub_after b)) (λ g text m. inl m) (from_implicit b f))

  group_some : (g : GroupValue) → SpelledGroup settings g [] → ⊥
  group_some g (inl m) = sub_some m.0 m.1
  group_some g (inr h) = let e = h.1 in cc

  pub decides-rec_group : Decides (rec_group settings) (SpelledGroup settings)
  unfolding rec_group
  decides-rec_group = decides-byte (group_after settings) (SpelledGroup settings) group_some decides-group_after
