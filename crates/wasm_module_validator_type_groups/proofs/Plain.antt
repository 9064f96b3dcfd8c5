-- Types without references: where no feature asks for canonical forms, the valid types are among them. They are valid alike
-- over ids and as trees.
use Rattle.std.proofs.Common.{◌≡◌, ◌∙◌, ◌↔◌, inl, inr, ⊎_elim, ℕ, ◌<◌, ◌||◌, Bool, true, false, IsTrue, List, [], ◌∷◌, length, map, Option, Some, None, refl, sym, subst, arith}
use Rattle.std.specs.Option.{option_map}
use Rattle.std.proofs.lemmas.List.{length-map}
use Rattle.wasm_types.specs.settings.Settings.{Settings}
use Rattle.wasm_types.specs.settings.Features.{Gc, SharedEverythingThreads, MultiValue, StackSwitching, FunctionReferences, CustomDescriptors, needs_canonical_types}
use Rattle.wasm_types.specs.trees.Types.{abstract, concrete, exact, ValueOf, number, ref, InnerOf, function, array_of, struct_of, continuation, EntryOf, value_map, inner_map, entry_map}
use Rattle.wasm_types.specs.trees.Each.{EachOption, EachValue, EachValues, EachInner, EachEntry}
use Rattle.wasm_types.specs.trees.Trees.{TypeTree, opened}
use Rattle.wasm_types.specs.trees.Below.{value_is_shared}
use Rattle.wasm_types.specs.trees.Gates.{Has, ValueIsAllowed}
use Rattle.wasm_types.specs.trees.ValidGroup as trees
use Rattle.wasm_types.specs.trees.ValidGroup.{IsValidType, IsValidComposite}

-- ---- parts and types without references

-- whether it is shared, where it has no reference to a defined type
abbrev pub plain_shared : {R : Type 0} → ValueOf R → Bool
plain_shared (number n) = true
plain_shared (ref n (abstract s a)) = s
plain_shared (ref n (concrete r)) = true
plain_shared (ref n (exact r)) = true

abbrev pub IsNowhere : {R : Type 0} → R → Type 0
IsNowhere r = ⊥

abbrev pub IsPlainPart : {R : Type 0} → ℕ → Bool → ValueOf R → Type 0
IsPlainPart bits s v = ValueIsAllowed bits v × (IsTrue s → IsTrue (plain_shared v)) × EachValue IsNowhere v

abbrev pub ArePlainParts : {R : Type 0} → ℕ → Bool → List (ValueOf R) → Type 0
ArePlainParts bits s [] = Unit {0}
ArePlainParts bits s (v ∷ vs) = IsPlainPart bits s v × ArePlainParts bits s vs

abbrev pub IsPlainInner : {R : Type 0} → ℕ → Bool → InnerOf R → Type 0
IsPlainInner bits s (function ps rs) = ArePlainParts bits s ps × ArePlainParts bits s rs × (1 < length rs → Has bits MultiValue)
IsPlainInner bits s (array_of x) = ⊥
IsPlainInner bits s (struct_of xs) = ⊥
IsPlainInner bits s (continuation r) = ⊥

-- a final function type with no supertype, of parts without references
pub record IsPlain {R : Type 0} (bits : ℕ) (x : EntryOf R) : Type 0 where
  pub final : x.is_final ≡ true
  pub top : x.supertype ≡ None
  pub undescribed : x.descriptor ≡ None
  pub describes : x.describes ≡ None
  pub shared : IsTrue x.shared → Has bits SharedEverythingThreads
  pub inner : IsPlainInner bits x.shared x.inner

-- ---- through a map

module _ {R S : Type 0} (f : R → S) (bits : ℕ) where
  part_mapped : (s : Bool) (v : ValueOf R) → IsPlainPart bits s (value_map f v) ↔ IsPlainPart bits s v
  part_mapped s (number n) = (λ h. h, λ h. h)
  part_mapped s (ref n (abstract t a)) = (λ h. h, λ h. h)
  part_mapped s (ref n (concrete r)) = (λ h. absurd h.2, λ h. absurd h.2)
  part_mapped s (ref n (exact r)) = (λ h. absurd h.2, λ h. absurd h.2)

  parts_mapped : (s : Bool) (vs : List (ValueOf R)) → ArePlainParts bits s (map (value_map f) vs) ↔ ArePlainParts bits s vs
  parts_mapped s [] = (λ h. h, λ h. h)
  parts_mapped s (v ∷ vs) =
      let a = part_mapped s v in
      let b = parts_mapped s vs in
      (λ h. (a.0 h.0, b.0 h.1), λ h. (a.1 h.0, b.1 h.1))

  inner_mapped : (s : Bool) (x : InnerOf R) → IsPlainInner bits s (inner_map f x) ↔ IsPlainInner bits s x
  inner_mapped s (function ps rs) =
      let a = parts_mapped s ps in
      let b = parts_mapped s rs in
      let len : length (map (value_map f) rs) ≡ length rs = length-map rs (value_map f) in
      (λ h. (a.0 h.0, b.0 h.1, λ lt. h.2 (omega arith)), λ h. (a.1 h.0, b.1 h.1, λ lt. h.2 (omega arith)))
  inner_mapped s (array_of x) = (λ h. absurd h, λ h. absurd h)
  inner_mapped s (struct_of xs) = (λ h. absurd h, λ h. absurd h)
  inner_mapped s (continuation r) = (λ h. absurd h, λ h. absurd h)

  none_mapped : (o : Option R) → (option_map f o ≡ None) ↔ (o ≡ None)
  none_mapped None = (λ e. refl, λ e. refl)
  none_mapped (Some r) = (λ e. absurd cc, λ e. absurd cc)

  -- a type has no references exactly where it has none once they are replaced
  pub plain_mapped : (x : EntryOf R) → IsPlain bits (entry_map f x) ↔ IsPlain bits x
  plain_mapped x =
      let a = none_mapped x.supertype in
      let b = none_mapped x.descriptor in
      let c = none_mapped x.describes in
      let d = inner_mapped x.shared x.inner in (
        λ h. record { final = h.final; top = a.0 h.top; undescribed = b.0 h.undescribed; describes = c.0 h.describes; shared = h.shared; inner = d.0 h.inner },
        λ h. record { final = h.final; top = a.1 h.top; undescribed = b.1 h.undescribed; describes = c.1 h.describes; shared = h.shared; inner = d.1 h.inner },
      )

-- ---- any fact holds of each reference

module _ {R : Type 0} (P : R → Type 0) (bits : ℕ) where
  each_nowhere : (v : ValueOf R) → EachValue IsNowhere v → EachValue P v
  each_nowhere (number n) h = tt
  each_nowhere (ref n (abstract s a)) h = tt
  each_nowhere (ref n (concrete r)) h = absurd h
  each_nowhere (ref n (exact r)) h = absurd h

  each_part : (s : Bool) (vs : List (ValueOf R)) → ArePlainParts bits s vs → EachValues P vs
  each_part s [] h = tt
  each_part s (v ∷ vs) h = (each_nowhere v h.0.2, each_part s vs h.1)

  each_inner : (s : Bool) (x : InnerOf R) → IsPlainInner bits s x → EachInner P x
  each_inner s (function ps rs) h = (each_part s ps h.0, each_part s rs h.1)
  each_inner s (array_of x) h = absurd h
  each_inner s (struct_of xs) h = absurd h
  each_inner s (continuation r) h = absurd h

  each_none : (o : Option R) → o ≡ None → EachOption P o
  each_none None e = tt
  each_none (Some r) e = absurd cc

  pub each_plain : (x : EntryOf R) → IsPlain bits x → EachEntry P x
  each_plain x h = record {
    supertype = each_none x.supertype h.top;
    descriptor = each_none x.descriptor h.undescribed;
    describes = each_none x.describes h.describes;
    inner = each_inner x.shared x.inner h.inner;
  }

-- ---- features that ask for no canonical forms

or_left : (a b : Bool) → IsTrue a → IsTrue (a || b)
or_left true b h = refl
or_left false b h = absurd cc

or_right : (a b : Bool) → IsTrue b → IsTrue (a || b)
or_right true b h = refl
or_right false b h = h

module _ (bits : ℕ) (off : needs_canonical_types bits ≡ false) where
  contradicts : IsTrue (needs_canonical_types bits) → ⊥
  contradicts h = let e : true ≡ false = sym h ∙ off in cc

  pub no_references : Has bits FunctionReferences → ⊥
  no_references h = contradicts (or_left _ _ (or_left _ _ (or_left _ _ h)))

  pub no_collection : Has bits Gc → ⊥
  no_collection h = contradicts (or_left _ _ (or_left _ _ (or_right _ _ h)))

  pub no_descriptors : Has bits CustomDescriptors → ⊥
  no_descriptors h = contradicts (or_left _ _ (or_right _ _ h))

  pub no_continuations : Has bits StackSwitching → ⊥
  no_continuations h = contradicts (or_right _ _ h)

  pub value_nowhere : {R : Type 0} (v : ValueOf R) → ValueIsAllowed bits v → EachValue IsNowhere v
  value_nowhere (number n) h = tt
  value_nowhere (ref n (abstract s a)) h = tt
  value_nowhere (ref n (concrete r)) h = ⊎_elim no_references no_collection h.1
  value_nowhere (ref n (exact r)) h = no_descriptors h.1

  -- ---- over trees

  tree_shared : (v : ValueOf TypeTree) → EachValue IsNowhere v → value_is_shared v ≡ plain_shared v
  tree_shared (number n) h = refl
  tree_shared (ref n (abstract s a)) h = refl
  tree_shared (ref n (concrete r)) h = absurd h
  tree_shared (ref n (exact r)) h = absurd h

  tree_part : (s : Bool) (v : ValueOf TypeTree) → trees.IsValidPart bits s v ↔ IsPlainPart bits s v
  tree_part s v = (
    λ h. let free = value_nowhere v h.0 in (h.0, λ t. subst IsTrue (tree_shared v free) (h.1 t), free),
    λ h. (h.0, λ t. subst IsTrue (sym (tree_shared v h.2)) (h.1 t)),
  )

  tree_parts : (s : Bool) (vs : List (ValueOf TypeTree)) → trees.AreValidParts bits s vs ↔ ArePlainParts bits s vs
  tree_parts s [] = (λ h. h, λ h. h)
  tree_parts s (v ∷ vs) =
      let a = tree_part s v in
      let b = tree_parts s vs in
      (λ h. (a.0 h.0, b.0 h.1), λ h. (a.1 h.0, b.1 h.1))

  tree_inner : (s : Bool) (x : InnerOf TypeTree) → trees.IsValidInner bits s x ↔ IsPlainInner bits s x
  tree_inner s (function ps rs) =
      let a = tree_parts s ps in
      let b = tree_parts s rs in
      (λ h. (a.0 h.0, b.0 h.1, h.2), λ h. (a.1 h.0, b.1 h.1, h.2))
  tree_inner s (array_of x) = (λ h. no_collection h.0, λ h. absurd h)
  tree_inner s (struct_of xs) = (λ h. no_collection h.0, λ h. absurd h)
  tree_inner s (continuation r) = (λ h. no_continuations h.0, λ h. absurd h)

  tree_absent : (o : Option TypeTree) → (trees.IsSome o → ⊥) → o ≡ None
  tree_absent None h = refl
  tree_absent (Some t) h = absurd (h tt)

  -- the type of a tree is valid exactly where it is plain
  pub tree_plain : (z : Settings) → z.features ≡ bits → (t : TypeTree) → IsValidType z t ↔ IsPlain bits (opened t)
  tree_plain z e t = (
    λ v.
        let own : (opened t).is_final ≡ true × (opened t).supertype ≡ None =
        ⊎_elim (λ n. n) (λ g. absurd (no_collection (subst (λ (b : ℕ). Has b Gc) e g))) v.subtyping in
        let joined : trees.IsJoined (opened t) → ⊥ = λ j. no_descriptors (subst (λ (b : ℕ). Has b CustomDescriptors) e (v.descriptors j).0) in
        let composite : IsValidComposite bits (opened t) = subst (λ (b : ℕ). IsValidComposite b (opened t)) e v.composite in
        record {
          final = own.0;
          top = own.1;
          undescribed = tree_absent (opened t).descriptor (λ s. joined (inl s));
          describes = tree_absent (opened t).describes (λ s. joined (inr s));
          shared = composite.0;
          inner = (tree_inner (opened t).shared (opened t).inner).0 composite.1;
        },
    λ h. record {
      subtyping = inl (h.final, h.top);
      composite = subst (λ (b : ℕ). IsValidComposite b (opened t)) (sym e) (h.shared, (tree_inner (opened t).shared (opened t).inner).1 h.inner);
      above = subst (trees.IsValidSupertype (opened t)) (sym h.top) tt;
      depth = subst (trees.IsWithinDepth z.limits.subtyping_depth) (sym h.top) tt;
      descriptors = λ j. absurd (⊎_elim (λ s. subst trees.IsSome h.undescribed s) (λ s. subst trees.IsSome h.describes s) j);
      along = subst (trees.DescriptorsGoAlong (opened t)) (sym h.top) tt;
      described = subst (trees.IsDescribedBy t) (sym h.undescribed) tt;
      describes = subst (trees.Describes t) (sym h.describes) tt;
    },
  )
