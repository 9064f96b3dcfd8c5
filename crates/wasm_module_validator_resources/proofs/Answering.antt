-- Subtyping of the types that names stand for, answer by answer.
use Rattle.std.proofs.Common.{◌≡◌, ◌∙◌, ◌↔◌, ℕ, ◌-◌, ◌<◌, Bool, true, false, IsTrue, List, refl, ap, sym, subst, Some, None}
use Rattle.std.specs.Prelude.{◌==◌}
use Rattle.std.proofs.lemmas.Bool.Decides.{Decides-eqb}
use Rattle.wasm_types.specs.settings.Features.{needs_canonical_types}
use Rattle.wasm_types.specs.trees.declared.index.CoreTypeId.{CoreTypeId}
use Rattle.wasm_types.specs.trees.declared.index.UnpackedIndex.{UnpackedIndex}
use Rattle.wasm_types.specs.trees.Types.{HeapOf, i32, i64, f32, f64, v128, number, ref, abstract, Abstract, func, InnerOf, function, array_of, struct_of, continuation, EntryOf, entry_map, inner_map}
use Rattle.wasm_types.specs.trees.Trees.{TypeTree, opened}
use Rattle.wasm_types.specs.trees.Below.{expanded, is_shared, abstract_above, DeclaredBelow, itself, IsBelowAbstract, IsAboveAbstract, Below}
use Rattle.wasm_types.specs.trees.AbstractOrder.{top_of}
use Rattle.wasm_types.specs.values.declared.value.ValType.{ValType}
use Rattle.wasm_types.specs.values.declared.value.ValType.TheVariants.{I32, I64, F32, F64, V128, Ref}
use Rattle.wasm_types.specs.values.Reference.{Reference}
use Rattle.wasm_types.specs.values.ValueKinds.{reference_in}
use Rattle.wasm_operator_validator_resources.specs.Meaning.{Meaning, named_type, heap_in, type_in}
use Rattle.wasm_module_validator_type_storage.specs.trees.Groups.{Group, count, tree_of}
use Rattle.wasm_module_validator_type_storage.specs.trees.Formed.{IsFormed}
use Rattle.wasm_module_validator_type_storage.specs.trees.ByIds.{IdBelow}
use Rattle.wasm_module_validator_type_storage.specs.trees.laws.Apart.{apart}
use Rattle.wasm_module_validator_type_storage.specs.trees.laws.Ids.{below_by_ids}
use Rattle.wasm_module_validator_resources.specs.Named.{nowhere, tree_meant, IsInList, IsNamedSo, IsSettled, AreStoredAlike, HasSpan, IsUnderKind, IsOverKind}
use Rattle.wasm_module_validator_resources.specs.declared.named.Named.{Named}
use Rattle.wasm_module_validator_resources.specs.declared.named.Named.TheVariants.{Known}
use Rattle.wasm_module_validator_resources.specs.laws.Trees.{not_nowhere}
use Rattle.wasm_module_validator_resources.specs.laws.Settled.{only_itself, are_in_form, above_bare, above_in_list, sound_name}
use Rattle.wasm_module_validator_resources.specs.laws.Alike.{spans_same}
use Rattle.wasm_module_validator_resources.specs.laws.Below.{is_below_abstract, is_above_abstract}

pub then : {A B C : Type 0} → A ↔ B → B ↔ C → A ↔ C
then p q = (λ a. q.0 (p.0 a), λ c. p.1 (q.1 c))

pub never : {P : Type 0} → (P → ⊥) → IsTrue false ↔ P
never false_is = (λ e. cc, λ p. absurd (false_is p))

pub same_stored : {D : Type 0} (x y p q : D) (r s : Bool) → r ≡ s → (IsTrue s ↔ (x ≡ y)) → p ≡ x → q ≡ y → IsTrue r ↔ (p ≡ q)
same_stored x y p q r s e w a b = (λ t. a ∙ w.0 (sym e ∙ t) ∙ sym b, λ t. e ∙ w.1 (sym a ∙ t ∙ b))

-- ---- by the names of both

pub meant_pair : (P : TypeTree → TypeTree → Type 0) (groups : List Group) (x y u v : Named) → x ≡ u → y ≡ v → P (tree_meant groups u) (tree_meant groups v)
    → P (tree_meant groups x) (tree_meant groups y)
meant_pair P groups x y u v e f p =
    subst (λ (n : Named). P (tree_meant groups n) (tree_meant groups y)) (sym e) (subst (λ (n : Named). P (tree_meant groups u) (tree_meant groups n)) (sym f) p)

pub list_known : (groups : List Group) (x : Named) (i : CoreTypeId) → x ≡ Known i → IsInList groups x → i.0 < count groups
list_known groups x i e h = subst (IsInList groups) e h

pub through : {P : Type 0} (r s : Bool) → r ≡ s → (IsTrue s ↔ P) → IsTrue r ↔ P
through r s e w = (λ t. w.0 (sym e ∙ t), λ p. e ∙ w.1 p)

id_same : (a b : CoreTypeId) → a.0 ≡ b.0 → a ≡ b
id_same a b e = ap (λ (n : ℕ). record { 0 = n }) e

pub id_equal : (r : Bool) (a b : CoreTypeId) → r ≡ (a.0 == b.0) → IsTrue r ↔ (a ≡ b)
id_equal r a b e = through r (a.0 == b.0) e (then (Decides-eqb a.0 b.0) (λ q. id_same a b q, λ q. ap (λ (x : CoreTypeId). x.0) q))

module _ (bits : ℕ) (groups : List Group) (formed : IsFormed groups) (s : IsSettled bits groups) where
  -- canonical forms
  pub by_id_below : (r : Bool) (a b : CoreTypeId) → r ≡ needs_canonical_types bits → r ≡ true → a.0 < count groups → b.0 < count groups
      → IdBelow groups a b ↔ DeclaredBelow (tree_of groups a.0) (tree_of groups b.0)
  by_id_below r a b e t la lb = below_by_ids groups formed (are_in_form bits groups s (sym e ∙ t)) a b la lb

  pub by_id_same : (r : Bool) (a b : CoreTypeId) → r ≡ needs_canonical_types bits → r ≡ true → a.0 < count groups → b.0 < count groups
      → (a ≡ b) ↔ (tree_of groups a.0 ≡ tree_of groups b.0)
  by_id_same r a b e t la lb = (
    λ q. ap (λ (x : CoreTypeId). tree_of groups x.0) q,
    λ q. id_same a b (apart groups formed (are_in_form bits groups s (sym e ∙ t)) a.0 b.0 la lb q),
  )

  -- and without references
  pub bare_below : (r : Bool) (a b : CoreTypeId) → r ≡ needs_canonical_types bits → r ≡ false → a.0 < count groups
      → (tree_of groups a.0 ≡ tree_of groups b.0) ↔ DeclaredBelow (tree_of groups a.0) (tree_of groups b.0)
  bare_below r a b e f la = (
    λ q. subst (DeclaredBelow (tree_of groups a.0)) q itself,
    λ d. above_bare (tree_of groups a.0) (tree_of groups b.0) (s.bare (sym e ∙ f) a.0 la) d,
  )

  -- a type of the list is below none past its end
  pub not_above : (i : CoreTypeId) (n : ℕ) → i.0 < count groups → DeclaredBelow (tree_of groups i.0) (nowhere n) → ⊥
  not_above i n lt d = let found = above_in_list bits groups s formed i lt (nowhere n) d in not_nowhere groups found.0.0 n found.1 found.2

  pub not_under : (i : CoreTypeId) (n : ℕ) → i.0 < count groups → DeclaredBelow (nowhere n) (tree_of groups i.0) → ⊥
  not_under i n lt d = not_nowhere groups i.0 n lt (sym (only_itself n (tree_of groups i.0) d))

  pub not_same : (i : CoreTypeId) (n : ℕ) → i.0 < count groups → tree_of groups i.0 ≡ nowhere n → ⊥
  not_same i n lt e = not_nowhere groups i.0 n lt e

  -- groups that are stored alike
  pub unrolled : needs_canonical_types bits ≡ false → (a b fa la fb lb : ℕ) → a < count groups → b < count groups → HasSpan groups a fa la → HasSpan groups b fb lb
      → a - fa ≡ b - fb → la ≡ lb → AreStoredAlike groups fa fb la ↔ (tree_of groups a ≡ tree_of groups b)
  unrolled off a b fa la fb lb ka kb x y e f =
      let w = spans_same bits groups formed s off a b fa la fb lb ka kb x y in
      (λ h. w.0 (e, f, h), λ t. (w.1 t).2)

  pub not_placed : needs_canonical_types bits ≡ false → (a b fa la fb lb : ℕ) → a < count groups → b < count groups → HasSpan groups a fa la → HasSpan groups b fb lb
      → (a - fa ≡ b - fb → ⊥) → tree_of groups a ≡ tree_of groups b → ⊥
  not_placed off a b fa la fb lb ka kb x y differs t = differs (((spans_same bits groups formed s off a b fa la fb lb ka kb x y).1 t).0)

  pub not_counted : needs_canonical_types bits ≡ false → (a b fa la fb lb : ℕ) → a < count groups → b < count groups → HasSpan groups a fa la → HasSpan groups b fb lb
      → (la ≡ lb → ⊥) → tree_of groups a ≡ tree_of groups b → ⊥
  not_counted off a b fa la fb lb ka kb x y differs t = differs (((spans_same bits groups formed s off a b fa la fb lb ka kb x y).1 t).1)

-- ---- abstract types

module _ (bits : ℕ) (groups : List Group) (s : IsSettled bits groups) where
  pub over_named : (m : Meaning) (i : UnpackedIndex) (n : Named) → IsNamedSo groups m i n → (b : Bool) (a : Abstract) → IsOverKind (tree_meant groups n) b a
      ↔ IsAboveAbstract (named_type m i) b a
  over_named m i n h b a =
      subst (λ (t : TypeTree). IsOverKind (tree_meant groups n) b a ↔ IsAboveAbstract t b a) (sym h.meant)
      (is_above_abstract (tree_meant groups n) (sound_name bits groups s n h.known) b a)

  pub under_named : (m : Meaning) (i : UnpackedIndex) (n : Named) → IsNamedSo groups m i n → (b : Bool) (a : Abstract) → IsUnderKind (tree_meant groups n) b a
      ↔ IsBelowAbstract (named_type m i) b a
  under_named m i n h b a =
      subst (λ (t : TypeTree). IsUnderKind (tree_meant groups n) b a ↔ IsBelowAbstract t b a) (sym h.meant)
      (is_below_abstract (tree_meant groups n) (sound_name bits groups s n h.known) b a)

-- ---- past the end

place_same : (n m : ℕ) → nowhere n ≡ nowhere m → n ≡ m
place_same n m e = ap (λ (t : TypeTree). t.place) e

pub nowhere_same : (n m : ℕ) → (n ≡ m) ↔ (nowhere n ≡ nowhere m)
nowhere_same n m = (λ e. ap nowhere e, λ e. place_same n m e)

pub nowhere_below : (n m : ℕ) → (n ≡ m) ↔ DeclaredBelow (nowhere n) (nowhere m)
nowhere_below n m = (λ e. subst (DeclaredBelow (nowhere n)) (ap nowhere e) itself, λ d. place_same n m (only_itself n (nowhere m) d))

pub nowhere_shared : (n : ℕ) → false ≡ is_shared (nowhere n)
unfolding opened
nowhere_shared n = refl

pub nowhere_kind : (n : ℕ) → func ≡ abstract_above (expanded (nowhere n))
unfolding opened
nowhere_kind n = refl

-- ---- two names of indices

pub pair_named : (P : TypeTree → TypeTree → Type 0) (groups : List Group) (m : Meaning) (i j : UnpackedIndex) (n k : Named) → IsNamedSo groups m i n → IsNamedSo groups m j k
    → P (tree_meant groups n) (tree_meant groups k) → P (named_type m i) (named_type m j)
pair_named P groups m i j n k g h p =
    subst (λ (t : TypeTree). P t (named_type m j)) (sym g.meant) (subst (λ (t : TypeTree). P (tree_meant groups n) t) (sym h.meant) p)

-- ---- what is stored

abstract_kept : {R S : Type 0} (f : R → S) (x : InnerOf R) → abstract_above (inner_map f x) ≡ abstract_above x
abstract_kept f (function ps rs) = refl
abstract_kept f (array_of x) = refl
abstract_kept f (struct_of xs) = refl
abstract_kept f (continuation r) = refl

pub shared_in : {R : Type 0} (f : R → TypeTree) (x : EntryOf R) (t : TypeTree) → entry_map f x ≡ opened t → x.shared ≡ is_shared t
shared_in f x t e = ap (λ (y : EntryOf TypeTree). y.shared) e

pub abstract_in : {R : Type 0} (f : R → TypeTree) (x : EntryOf R) (t : TypeTree) → entry_map f x ≡ opened t → abstract_above x.inner ≡ abstract_above (expanded t)
abstract_in f x t e = sym (abstract_kept f x.inner) ∙ ap (λ (y : EntryOf TypeTree). abstract_above y.inner) e

abbrev top_in : Bool → Abstract → HeapOf TypeTree
top_in b a = abstract b (top_of a)

pub top_same : (t : TypeTree) (b : Bool) (a : Abstract) → b ≡ is_shared t → a ≡ abstract_above (expanded t) → top_in b a ≡ top_in (is_shared t) (abstract_above (expanded t))
top_same t b a e f = λ i. top_in (e i) (f i)

-- ---- value types

is_reference : (m : Meaning) (v : ValType) (r : Reference) → Some r ≡ reference_in v → ref r.nullable (heap_in m r.heap) ≡ type_in m v
unfolding type_in
is_reference m I32 r e = absurd cc
is_reference m I64 r e = absurd cc
is_reference m F32 r e = absurd cc
is_reference m F64 r e = absurd cc
is_reference m V128 r e = absurd cc
is_reference m (Ref q) r e = let f : r ≡ q = cc in ap (λ (x : Reference). ref x.nullable (heap_in m x.heap)) f

-- value types that are these reference types
pub references_below : (m : Meaning) (a b : ValType) (p q : Reference) (answer : Bool) → Some p ≡ reference_in a → Some q ≡ reference_in b
    → IsTrue answer ↔ Below (ref p.nullable (heap_in m p.heap)) (ref q.nullable (heap_in m q.heap)) → IsTrue answer ↔ Below (type_in m a) (type_in m b)
references_below m a b p q answer e f w =
    subst (λ v. IsTrue answer ↔ Below v (type_in m b)) (is_reference m a p e)
    (subst (λ v. IsTrue answer ↔ Below (ref p.nullable (heap_in m p.heap)) v) (is_reference m b q f) w)

-- a reference type is below no number
pub not_number : (m : Meaning) (a b : ValType) (p : Reference) → Some p ≡ reference_in a → None ≡ reference_in b → Below (type_in m a) (type_in m b) → ⊥
unfolding type_in
not_number m a I32 p e f w = subst (λ v. Below v (number i32) → ⊥) (is_reference m a p e) (λ x. x) w
not_number m a I64 p e f w = subst (λ v. Below v (number i64) → ⊥) (is_reference m a p e) (λ x. x) w
not_number m a F32 p e f w = subst (λ v. Below v (number f32) → ⊥) (is_reference m a p e) (λ x. x) w
not_number m a F64 p e f w = subst (λ v. Below v (number f64) → ⊥) (is_reference m a p e) (λ x. x) w
not_number m a V128 p e f w = subst (λ v. Below v (number v128) → ⊥) (is_reference m a p e) (λ x. x) w
not_number m a (Ref q) p e f w = absurd cc

-- a number is below itself alone
pub numbers_below : (m : Meaning) (a b : ValType) → None ≡ reference_in a → (a ≡ b) ↔ Below (type_in m a) (type_in m b)
unfolding type_in
numbers_below m I32 I32 e = (λ q. refl, λ w. refl)
numbers_below m I32 I64 e = (λ q. absurd cc, λ w. absurd cc)
numbers_below m I32 F32 e = (λ q. absurd cc, λ w. absurd cc)
numbers_below m I32 F64 e = (λ q. absurd cc, λ w. absurd cc)
numbers_below m I32 V128 e = (λ q. absurd cc, λ w. absurd cc)
numbers_below m I32 (Ref r) e = (λ q. absurd cc, λ w. absurd w)
numbers_below m I64 I32 e = (λ q. absurd cc, λ w. absurd cc)
numbers_below m I64 I64 e = (λ q. refl, λ w. refl)
numbers_below m I64 F32 e = (λ q. absurd cc, λ w. absurd cc)
numbers_below m I64 F64 e = (λ q. absurd cc, λ w. absurd cc)
numbers_below m I64 V128 e = (λ q. absurd cc, λ w. absurd cc)
numbers_below m I64 (Ref r) e = (λ q. absurd cc, λ w. absurd w)
numbers_below m F32 I32 e = (λ q. absurd cc, λ w. absurd cc)
numbers_below m F32 I64 e = (λ q. absurd cc, λ w. absurd cc)
numbers_below m F32 F32 e = (λ q. refl, λ w. refl)
numbers_below m F32 F64 e = (λ q. absurd cc, λ w. absurd cc)
numbers_below m F32 V128 e = (λ q. absurd cc, λ w. absurd cc)
numbers_below m F32 (Ref r) e = (λ q. absurd cc, λ w. absurd w)
numbers_below m F64 I32 e = (λ q. absurd cc, λ w. absurd cc)
numbers_below m F64 I64 e = (λ q. absurd cc, λ w. absurd cc)
numbers_below m F64 F32 e = (λ q. absurd cc, λ w. absurd cc)
numbers_below m F64 F64 e = (λ q. refl, λ w. refl)
numbers_below m F64 V128 e = (λ q. absurd cc, λ w. absurd cc)
numbers_below m F64 (Ref r) e = (λ q. absurd cc, λ w. absurd w)
numbers_below m V128 I32 e = (λ q. absurd cc, λ w. absurd cc)
numbers_below m V128 I64 e = (λ q. absurd cc, λ w. absurd cc)
numbers_below m V128 F32 e = (λ q. absurd cc, λ w. absurd cc)
numbers_below m V128 F64 e = (λ q. absurd cc, λ w. absurd cc)
numbers_below m V128 V128 e = (λ q. refl, λ w. refl)
numbers_below m V128 (Ref r) e = (λ q. absurd cc, λ w. absurd w)
numbers_below m (Ref r) b e = absurd cc
