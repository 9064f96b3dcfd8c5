-- Laws: bytes spell a value exactly where they spell the tree that it declares.
use Rattle.std.proofs.Common.{◌≡◌, ℕ, zero, suc, ◌≤◌, List, [], ◌∷◌, ◌++◌, refl, sym, ap, ◌∙◌, subst, length, map, Bool, true, false, Option, Some, None, inl, inr}
use Rattle.std.specs.Option.{is_some}
use Rattle.wasm_types_decoding.specs.Decoder.{Grammar, Many}
use Rattle.wasm_types_decoding.specs.Leb.{IsUnsigned}
use Rattle.wasm_types_decoding.specs.Lists.{IsListedWithin}
use Rattle.wasm_types_settings.specs.Settings.{Settings}
use Rattle.wasm_types_trees.specs.declared.index.UnpackedIndex.{UnpackedIndex}
use Rattle.wasm_types_values.specs.declared.value.ValType.{ValType}
use Rattle.wasm_types_values.specs.Values.{value_of}
use Rattle.wasm_types_values.specs.Spells.{SpellsValue}
use Rattle.wasm_types_values.specs.Spelled.{SpelledValue}
use Rattle.wasm_types_fields.specs.Fields.{field_of}
use Rattle.wasm_types_fields.specs.declared.field.FieldType.{FieldType}
use Rattle.wasm_types_fields.specs.Spells.{SpelledField}
use Rattle.wasm_types.specs.Entries.{Declared}
use Rattle.wasm_types.specs.SpellsTypes.{InnerValue, CompositeValue, SubValue, GroupValue, function, array_of, struct_of, continuation}
use Rattle.wasm_types.specs.SpellsTypes.{inner_tree, declared_by, composite_with, group_with, SpelledInner, SpelledDescriptor}
use Rattle.wasm_types.specs.SpellsTypes.{SpelledDescribes, SpelledComposite, SpelledSub, SpelledGroup}
use Rattle.wasm_types.specs.Spells.{SpellsField, SpellsInner, SpellsShared, SpellsOption, SpellsParts, SpellsSub, SpellsGroup}

-- ---- lists: g spells a value where h spells its tree

module _ {A B : Type 0} (v : A → B) (g : Grammar A) (h : Grammar B) where
  length_map : (xs : List A) → length (map v xs) ≡ length xs
  length_map [] = refl
  length_map (x ∷ xs) = ap suc (length_map xs)

  many_to : ((x : A) (text : List ℕ) → g x text → h (v x) text) → (n : ℕ) (xs : List A) (text : List ℕ) → Many g n xs text → Many h n (map v xs) text
  many_to f zero [] text m = m
  many_to f zero (x ∷ xs) text m = absurd m
  many_to f (suc n) [] text m = absurd m
  many_to f (suc n) (x ∷ xs) text m = (m.0, m.1, f x m.0 m.2, many_to f n xs m.1 m.3, m.4)

  many_from : ((x : A) (text : List ℕ) → h (v x) text → g x text) → (n : ℕ) (xs : List A) (text : List ℕ) → Many h n (map v xs) text → Many g n xs text
  many_from f zero [] text m = m
  many_from f zero (x ∷ xs) text m = absurd m
  many_from f (suc n) [] text m = absurd m
  many_from f (suc n) (x ∷ xs) text m = (m.0, m.1, f x m.0 m.2, many_from f n xs m.1 m.3, m.4)

  listed_to : ((x : A) (text : List ℕ) → g x text → h (v x) text) → (limit : ℕ) (xs : List A) (text : List ℕ) → IsListedWithin limit g xs text →
      IsListedWithin limit h (map v xs) text
  listed_to f limit xs text l = record {
    listed = record {
      count = l.listed.count;
      values = l.listed.values;
      counted = subst (λ (n : ℕ). IsUnsigned 32 n l.listed.count) (sym (length_map xs)) l.listed.counted;
      each = subst (λ (n : ℕ). Many h n (map v xs) l.listed.values) (sym (length_map xs)) (many_to f (length xs) xs l.listed.values l.listed.each);
      whole = l.listed.whole;
    };
    within = subst (λ (n : ℕ). n ≤ limit) (sym (length_map xs)) l.within;
  }

  listed_from : ((x : A) (text : List ℕ) → h (v x) text → g x text) → (limit : ℕ) (xs : List A) (text : List ℕ) → IsListedWithin limit h (map v xs)
      text → IsListedWithin limit g xs text
  listed_from f limit xs text l = record {
    listed = record {
      count = l.listed.count;
      values = l.listed.values;
      counted = subst (λ (n : ℕ). IsUnsigned 32 n l.listed.count) (length_map xs) l.listed.counted;
      each = many_from f (length xs) xs l.listed.values (subst (λ (n : ℕ). Many h n (map v xs) l.listed.values) (length_map xs) l.listed.each);
      whole = l.listed.whole;
    };
    within = subst (λ (n : ℕ). n ≤ limit) (length_map xs) l.within;
  }

-- ---- the type itself

field_to : (x : FieldType) (text : List ℕ) → SpelledField x text → SpellsField (field_of x) text
field_to x text h = record { storage = h.storage; mutability = h.mutability; stored = h.stored; writable = h.writable; whole = h.whole }

field_from : (x : FieldType) (text : List ℕ) → SpellsField (field_of x) text → SpelledField x text
field_from x text h = record { storage = h.storage; mutability = h.mutability; stored = h.stored; writable = h.writable; whole = h.whole }

module _ (limit : ℕ) where
  values_to : (vs : List ValType) (text : List ℕ) → IsListedWithin limit SpelledValue vs text → IsListedWithin limit SpellsValue (map value_of vs) text
  values_to = listed_to value_of SpelledValue SpellsValue (λ v text h. h) limit

  values_from : (vs : List ValType) (text : List ℕ) → IsListedWithin limit SpellsValue (map value_of vs) text → IsListedWithin limit SpelledValue vs text
  values_from = listed_from value_of SpelledValue SpellsValue (λ v text h. h) limit

module _ (settings : Settings) where
  inner_to : (x : InnerValue) (text : List ℕ) → SpelledInner settings x text → SpellsInner settings (inner_tree x) text
  inner_to (function f) text h =
      let s = h.2 in (
        h.0,
        h.1,
        record {
          params = s.params;
          results = s.results;
          taken = values_to settings.limits.params f.params s.params s.taken;
          given =
              values_to settings.limits.results f.results s.results s.given;
          whole = s.whole;
        },
      )
  inner_to (array_of x) text h = (h.0, h.1, field_to x h.0 h.2)
  inner_to (struct_of xs) text h = (h.0, h.1, listed_to field_of SpelledField SpellsField field_to settings.limits.fields xs h.0 h.2)
  inner_to (continuation i) text h = h

  inner_from : (x : InnerValue) (text : List ℕ) → SpellsInner settings (inner_tree x) text → SpelledInner settings x text
  inner_from (function f) text h =
      let s = h.2 in (
        h.0,
        h.1,
        record {
          params = s.params;
          results = s.results;
          taken = values_from settings.limits.params f.params s.params s.taken;
          given =
              values_from settings.limits.results f.results s.results s.given;
          whole = s.whole;
        },
      )
  inner_from (array_of x) text h = (h.0, h.1, field_from x h.0 h.2)
  inner_from (struct_of xs) text h = (h.0, h.1, listed_from field_of SpelledField SpellsField field_from settings.limits.fields xs h.0 h.2)
  inner_from (continuation i) text h = h

  -- ---- what stands before it, from the last to the first

  record Described (s : Option (Unit {0})) (e : Option UnpackedIndex) (c : CompositeValue) (text : List ℕ) : Type 0 where
    descriptor : List ℕ
    inner : List ℕ
    shares : c.shared ≡ is_some s
    describes : c.describes ≡ e
    described : SpellsOption 0x4d c.descriptor descriptor
    itself : SpellsInner settings (inner_tree c.inner) inner
    whole : text ≡ descriptor ++ inner

  descriptor_to : (s : Option (Unit {0})) (e : Option UnpackedIndex) (c : CompositeValue) (text : List ℕ) → SpelledDescriptor settings s e c text → Described s e c text
  descriptor_to s e c text (inl m) =
      subst (λ (d : CompositeValue). Described s e d text) (sym m.2)
      (record { descriptor = []; inner = text; shares = refl; describes = refl; described = refl; itself = inner_to m.0 text m.1; whole = refl })
  descriptor_to s e c text (inr p) =
      subst (λ (d : CompositeValue). Described s e d text) (sym p.second.2)
      (record {
        descriptor = 0x4d ∷ p.front;
        inner = p.back;
        shares = refl;
        describes = refl;
        described = (p.front, refl, p.first);
        itself = inner_to
            p.second.0 p.back p.second.1;
        whole = p.whole;
      })

  descriptor_from : (s : Option (Unit {0})) (e d : Option UnpackedIndex) (x : InnerValue) (text rest : List ℕ) → SpellsOption 0x4d d text →
      SpelledInner settings x rest → SpelledDescriptor settings s e (composite_with s e d x) (text ++ rest)
  descriptor_from s e None x text rest h i = inl (x, subst (λ (z : List ℕ). SpelledInner settings x (z ++ rest)) (sym h) i, refl)
  descriptor_from s e (Some j) x text rest h i = inr (record
      { value = j; front = h.0; back = rest; first = h.2; second = (x, i, refl); whole = ap (λ (z : List ℕ). z ++ rest) h.1 })

  record Describing (s : Option (Unit {0})) (c : CompositeValue) (text : List ℕ) : Type 0 where
    describes : List ℕ
    descriptor : List ℕ
    inner : List ℕ
    shares : c.shared ≡ is_some s
    describing : SpellsOption 0x4c c.describes describes
    described : SpellsOption 0x4d c.descriptor descriptor
    itself : SpellsInner settings (inner_tree c.inner) inner
    whole : text ≡ describes ++ (descriptor ++ inner)

  describes_to : (s : Option (Unit {0})) (c : CompositeValue) (text : List ℕ) → SpelledDescribes settings s c text → Describing s c text
  describes_to s c text (inl t) =
      let d = descriptor_to s None c text t in
      record {
        describes = [];
        descriptor = d.descriptor;
        inner = d.inner;
        shares = d.shares;
        describing = subst (λ (o : Option UnpackedIndex). SpellsOption 0x4c o []) (sym d.describes) refl;
        described = d.described;
        itself = d.itself;
        whole = d.whole;
      }
  describes_to s c text (inr p) =
      let d = descriptor_to s (Some p.value) c p.back p.second in
      record {
        describes = 0x4c ∷ p.front;
        descriptor = d.descriptor;
        inner = d.inner;
        shares = d.shares;
        describing = subst (λ (o : Option UnpackedIndex). SpellsOption 0x4c o (0x4c ∷ p.front)) (sym d.describes) (p.front, refl, p.first);
        described = d.described;
        itself = d.itself;
        whole = p.whole ∙ ap (λ (z : List ℕ). 0x4c ∷ (p.front ++ z)) d.whole;
      }

  describes_from : (s : Option (Unit {0})) (e : Option UnpackedIndex) (c : CompositeValue) (text rest : List ℕ) → SpellsOption 0x4c e text →
      SpelledDescriptor settings s e c rest → SpelledDescribes settings s c (text ++ rest)
  describes_from s None c text rest h t = inl (subst (λ (z : List ℕ). SpelledDescriptor settings s None c (z ++ rest)) (sym h) t)
  describes_from s (Some j) c text rest h t = inr (record { value = j; front = h.0; back = rest; first = h.2; second = t; whole = ap (λ (z : List ℕ). z ++ rest) h.1 })

  abbrev Parts : CompositeValue → List ℕ → Type 0
  Parts c text = SpellsParts settings c.shared c.describes c.descriptor (inner_tree c.inner) text

  pub composite_to : (c : CompositeValue) (text : List ℕ) → SpelledComposite settings c text → Parts c text
  composite_to c text (inl t) =
      let d = describes_to None c text t in
      record {
        shared = [];
        describes = d.describes;
        descriptor = d.descriptor;
        inner = d.inner;
        marked = subst (λ (b : Bool). SpellsShared b []) (sym d.shares) refl;
        describing = d.describing;
        described = d.described;
        itself = d.itself;
        whole = d.whole;
      }
  composite_to c text (inr p) =
      let d = describes_to (Some p.value) c p.back p.second in
      record {
        shared = 0x65 ∷ [];
        describes = d.describes;
        descriptor = d.descriptor;
        inner = d.inner;
        marked = subst (λ (b : Bool). SpellsShared b (0x65 ∷ [])) (sym d.shares) refl;
        describing = d.describing;
        described = d.described;
        itself = d.itself;
        whole = p.whole ∙ ap (λ (z : List ℕ). 0x65 ∷ (z ++ p.back)) p.first ∙ ap (λ (z : List ℕ). 0x65 ∷ z) d.whole;
      }

  -- with the mark of its sharedness
  marked_from : (s : Bool) (e d : Option UnpackedIndex) (x : InnerValue) (text : List ℕ) → SpellsParts settings s e d (inner_tree x) text →
      SpelledComposite settings (record { inner = x; shared = s; descriptor = d; describes = e }) text
  marked_from true e d x text h =
      let last = descriptor_from (Some tt) e d x h.descriptor h.inner h.described (inner_from x h.inner h.itself) in
      inr (record {
        value = tt;
        front = [];
        back = h.describes ++ (h.descriptor ++ h.inner);
        first = refl;
        second = describes_from (Some tt) e (composite_with (Some tt) e d x) h.describes (h.descriptor ++ h.inner) h.describing last;
        whole = h.whole ∙ ap (λ (z : List ℕ). z ++ (h.describes ++ (h.descriptor ++ h.inner))) h.marked;
      })
  marked_from false e d x text h =
      let last = descriptor_from None e d x h.descriptor h.inner h.described (inner_from x h.inner h.itself) in
      inl (subst (SpelledDescribes settings None (composite_with None e d x)) (sym (h.whole ∙ ap (λ (z : List ℕ). z ++ (h.describes ++ (h.descriptor ++ h.inner))) h.marked))
      (describes_from None e (composite_with None e d x) h.describes (h.descriptor ++ h.inner) h.describing last))

  pub composite_from : (c : CompositeValue) (text : List ℕ) → Parts c text → SpelledComposite settings c text
  composite_from c text h = marked_from c.shared c.describes c.descriptor c.inner text h

  -- ---- subtypes and groups

  pub sub_to : (x : SubValue) (text : List ℕ) → SpelledSub settings x text → SpellsSub settings (declared_by x) text
  sub_to x text (inl m) = subst (λ (y : SubValue). SpellsSub settings (declared_by y) text) (sym m.2)
      (inl (record { is_final = refl; alone = refl; none = refl; itself = composite_to m.0 text m.1 }))
  sub_to x text (inr h) = inr (record {
    supertypes = h.supertypes;
    composite = h.composite;
    first = refl;
    above = h.above;
    itself = composite_to
        x.composite h.composite h.itself;
    whole = h.whole;
  })

  pub sub_from : (x : SubValue) (text : List ℕ) → SpellsSub settings (declared_by x) text → SpelledSub settings x text
  sub_from x text (inl h) = inl (x.composite, composite_from x.composite text h.itself, (λ i. record { is_final = h.is_final i; supertypes = h.alone i; composite = x.composite }))
  sub_from x text (inr h) = inr (record {
    supertypes = h.supertypes;
    composite = h.composite;
    above = h.above;
    itself = composite_from x.composite
        h.composite h.itself;
    whole = h.whole;
  })

  abbrev Tree : GroupValue → List ℕ → Type 0
  Tree g text = SpellsGroup settings g.is_explicit (map declared_by g.types) text

  pub group_to : (g : GroupValue) (text : List ℕ) → SpelledGroup settings g text → Tree g text
  group_to g text (inl m) = subst (λ (y : GroupValue). Tree y text) (sym m.2) (declared_by m.0, refl, sub_to m.0 text m.1)
  group_to g text (inr h) =
      let m = h.2 in
      subst (λ (y : GroupValue). Tree y text) (sym m.2) (h.0, h.1, listed_to declared_by (SpelledSub settings) (SpellsSub settings) sub_to settings.limits.types m.0 h.0 m.1)

  written_from : (e : Bool) (xs : List SubValue) (text : List ℕ) → SpellsGroup settings e (map declared_by xs) text → SpelledGroup settings (group_with e xs) text
  written_from false [] text h = let e = h.1 in absurd cc
  written_from false (x ∷ []) text h = let e : declared_by x ≡ h.0 = (let f = h.1 in cc) in inl
      (x, sub_from x text (subst (λ (y : Declared). SpellsSub settings y text) (sym e) h.2), refl)
  written_from false (x ∷ y ∷ xs) text h = let e = h.1 in absurd cc
  written_from true xs text h = inr (h.0, h.1, (xs, listed_from declared_by (SpelledSub settings) (SpellsSub settings) sub_from settings.limits.types xs h.0 h.2, refl))

  pub group_from : (g : GroupValue) (text : List ℕ) → Tree g text → SpelledGroup settings g text
  group_from g text h = written_from g.is_explicit g.types text h
