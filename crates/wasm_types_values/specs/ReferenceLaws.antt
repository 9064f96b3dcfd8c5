-- Reference types are read exactly where bytes spell them.
use Rattle.std.proofs.Common.{◌≡◌, ℕ, ◌≤◌, List, [], ◌∷◌, refl, sym, ap, subst, arith, eqb, Bool, true, false, inl, inr}
use Rattle.std.proofs.lemmas.Bool.{eqb-true, eqb-false}
use Rattle.wasm_types_reader.specs.decoding.Decoder.{◌>>=◌, pure, Decides}
use Rattle.wasm_types_reader.specs.decoding.ExactLaws.{Mapped, decides-same, decides-if, decides-map, decides-byte}
use Rattle.wasm_types_values.specs.declared.heap.AbstractHeapType.{AbstractHeapType}
use Rattle.wasm_types_values.specs.declared.heap.HeapType.{HeapType}
use Rattle.wasm_types_values.specs.declared.heap.HeapType.TheVariants.{Abstract, Concrete, Exact}
use Rattle.wasm_types_values.specs.Reference.{Reference}
use Rattle.wasm_types_values.specs.Trees.{abstract_of, heap_of}
use Rattle.wasm_types_values.specs.Spells.{abstract_byte, null_byte, SpellsReference}
use Rattle.wasm_types_values.specs.Decode.{abstract_heap_type, heap_type, reference, reference_after, reference_type}
use Rattle.wasm_types_values.specs.Spelled.{Spelled, SpelledReference}
use Rattle.wasm_types_values.specs.HeapLaws.{heads, tails, byte_range, SpellsAbstract, decides-with_type, decides-abstract_heap_type, decides-heap_type}

-- the three forms of a reference type, by its first byte
pub data Form (c : ℕ) (text : List ℕ) : Bool → HeapType → Type 0 where
  long : (b : Bool) (h : HeapType) → c ≡ null_byte b → Spelled h text → Form c text b h
  shared : (ty : AbstractHeapType) → c ≡ 0x65 → SpellsAbstract ty text → Form c text true (Abstract true ty)
  alone : (ty : AbstractHeapType) → c ≡ abstract_byte (abstract_of ty) → text ≡ [] → Form c text true (Abstract false ty)

forms : (c : ℕ) (text : List ℕ) (b : Bool) (h : HeapType) → SpellsReference b (heap_of h) (c ∷ text) → Form c text b h
forms c text b h (inl p) = long b h (heads c (null_byte b) text p.0 p.1) (subst (Spelled h) (sym (tails c (null_byte b) text p.0 p.1)) p.2)
forms c text true (Abstract true ty) (inr p) = shared ty (heads c 0x65 text (abstract_byte (abstract_of ty) ∷ []) p) (tails c 0x65 text (abstract_byte (abstract_of ty) ∷ []) p)
forms c text true (Abstract false ty) (inr p) = alone ty (heads c (abstract_byte (abstract_of ty)) text [] p) (tails c (abstract_byte (abstract_of ty)) text [] p)
forms c text true (Concrete i) (inr p) = absurd p
forms c text true (Exact i) (inr p) = absurd p
forms c text false h (inr p) = absurd p

null_range : (b : Bool) → (0x63 ≤ null_byte b) × (null_byte b ≤ 0x64)
null_range true = (omega arith, omega arith)
null_range false = (omega arith, omega arith)

-- no other byte begins one
pub reference_begins : (c : ℕ) (text : List ℕ) (b : Bool) (h : HeapType) → SpellsReference b (heap_of h) (c ∷ text) → (0x63 ≤ c) × (c ≤ 0x75)
reference_begins c text b h e = go b h (forms c text b h e)
  where
    go : (b' : Bool) (h' : HeapType) → Form c text b' h' → (0x63 ≤ c) × (c ≤ 0x75)
    go b' h' (long x k e w) = (omega (arith, null_range x), omega (arith, null_range x))
    go b' h' (shared ty e w) = (omega arith, omega arith)
    go b' h' (alone ty e w) = (omega (arith, byte_range ty), omega (arith, byte_range ty))

pub reference_some : (r : Reference) → SpelledReference r [] → ⊥
reference_some r = none r.nullable r.heap
  where
    none : (b : Bool) (h : HeapType) → SpellsReference b (heap_of h) [] → ⊥
    none b h (inl p) = let no : [] ≡ null_byte b ∷ p.0 = p.1 in cc
    none true (Abstract true ty) (inr p) = cc
    none true (Abstract false ty) (inr p) = cc
    none true (Concrete i) (inr p) = p
    none true (Exact i) (inr p) = p
    none false h (inr p) = p

-- ---- the long forms

long_to : (b : Bool) (r : Reference) (text : List ℕ) → Mapped (reference b) Spelled r text → SpelledReference r (null_byte b ∷ text)
long_to b r text m = subst (λ (q : Reference). SpelledReference q (null_byte b ∷ text)) (sym m.2) (inl (text, refl, m.1))

same_null : (a b : Bool) → null_byte a ≡ null_byte b → b ≡ a
same_null true true e = refl
same_null false false e = refl
same_null true false e = absurd (omega (arith, e))
same_null false true e = absurd (omega (arith, e))

long_from : (b : Bool) (r : Reference) (text : List ℕ) → SpelledReference r (null_byte b ∷ text) → Mapped (reference b) Spelled r text
long_from b r text e = go r.nullable r.heap (forms (null_byte b) text r.nullable r.heap e)
  where
    go : (b' : Bool) (h' : HeapType) → Form (null_byte b) text b' h' → Mapped (reference b) Spelled (reference b' h') text
    go b' h' (long x k e w) = (k, w, ap (λ (z : Bool). reference z k) (same_null b x e))
    go b' h' (shared ty e w) = absurd (omega (arith, null_range b))
    go b' h' (alone ty e w) = absurd (omega (arith, null_range b, byte_range ty))

decides-long : (b : Bool) → Decides (heap_type >>= λ h. pure (reference b h)) (λ r text. SpelledReference r (null_byte b ∷ text))
decides-long b = decides-same _ _ _ (decides-map heap_type (reference b) Spelled decides-heap_type) (long_to b) (long_from b)

-- ---- the short forms

shared_to : (r : Reference) (text : List ℕ) → Mapped (λ ty. reference true (Abstract true ty)) SpellsAbstract r text → SpelledReference r (0x65 ∷ text)
shared_to r text m = subst (λ (q : Reference). SpelledReference q (0x65 ∷ text)) (sym m.2) (inr (ap (λ (z : List ℕ). 0x65 ∷ z) m.1))

shared_from : (r : Reference) (text : List ℕ) → SpelledReference r (0x65 ∷ text) → Mapped (λ ty. reference true (Abstract true ty)) SpellsAbstract r text
shared_from r text e = go r.nullable r.heap (forms 0x65 text r.nullable r.heap e)
  where
    go : (b' : Bool) (h' : HeapType) → Form 0x65 text b' h' → Mapped (λ ty. reference true (Abstract true ty)) SpellsAbstract (reference b' h') text
    go b' h' (long x k e w) = absurd (omega (arith, null_range x))
    go b' h' (shared ty e w) = (ty, w, refl)
    go b' h' (alone ty e w) = absurd (omega (arith, byte_range ty))

decides-shared : Decides (abstract_heap_type >>= λ ty. pure (reference true (Abstract true ty))) (λ r text. SpelledReference r (0x65 ∷ text))
decides-shared = decides-same _ _ _ (decides-map abstract_heap_type (λ ty. reference true (Abstract true ty)) SpellsAbstract decides-abstract_heap_type) shared_to shared_from

alone_from : (c : ℕ) → eqb c 0x64 ≡ false → eqb c 0x63 ≡ false → eqb c 0x65 ≡ false → (r : Reference) (text : List ℕ) → SpelledReference r (c ∷ text)
    → (ty : AbstractHeapType) × (c ≡ abstract_byte (abstract_of ty)) × (r ≡ reference true (Abstract false ty)) × (text ≡ [])
alone_from c i j k r text e = go r.nullable r.heap (forms c text r.nullable r.heap e)
  where
    go : (b' : Bool) (h' : HeapType) → Form c text b' h' → (ty : AbstractHeapType) × (c ≡ abstract_byte (abstract_of ty)) ×
        (reference b' h' ≡ reference true (Abstract false ty)) × (text ≡ [])
    go b' h' (long true k' e w) = absurd (eqb-false _ _ j e)
    go b' h' (long false k' e w) = absurd (eqb-false _ _ i e)
    go b' h' (shared ty e w) = absurd (eqb-false _ _ k e)
    go b' h' (alone ty e w) = (ty, e, refl, w)

pub decides-reference_after : (c : ℕ) → Decides (reference_after c) (λ r text. SpelledReference r (c ∷ text))
unfolding reference_after
decides-reference_after c = decides-if (eqb c 0x64) _ _ _
    (λ t. subst (λ (n : ℕ). Decides (heap_type >>= λ h. pure (reference false h)) (λ r text. SpelledReference r (n ∷ text))) (sym (eqb-true _ _ t)) (decides-long false))
    (λ i. decides-if (eqb c 0x63) _ _ _
    (λ t. subst (λ (n : ℕ). Decides (heap_type >>= λ h. pure (reference true h)) (λ r text. SpelledReference r (n ∷ text))) (sym (eqb-true _ _ t)) (decides-long true))
    (λ j. decides-if (eqb c 0x65) _ _ _
    (λ t. subst (λ (n : ℕ). Decides (abstract_heap_type >>= λ ty. pure (reference true (Abstract true ty))) (λ r text. SpelledReference r (n ∷ text)))
    (sym (eqb-true _ _ t)) decides-shared)
    (λ k. decides-with_type (λ ty. reference true (Abstract false ty)) c (λ r text. SpelledReference r (c ∷ text)) (λ ty e. inr (ap (λ (n : ℕ). n ∷ []) e)) (alone_from c i j k))))

pub decides-reference_type : Decides reference_type SpelledReference
unfolding reference_type
decides-reference_type = decides-byte reference_after SpelledReference reference_some decides-reference_after
