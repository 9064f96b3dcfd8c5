-- Whether two types are one, and whether a value is of a type, is decided: types are finite trees, and chains of supertypes end.
use Rattle.std.proofs.Common.{◌≡◌, ℕ, zero, suc, Bool, true, false, Option, Some, None, refl, sym, ap, subst, ◌∙◌, eqb, eqb-true, eq-eqb, true≢false, inl, inr}
use Rattle.std.specs.Prelude.{◌⊎◌}
use Rattle.wasm_types.specs.trees.Types.{Number, i32, i64, f32, f64, v128, Abstract, func, extern, any, none, noextern, nofunc, eq, struct, array, i31, exn, noexn, cont, nocont, HeapOf, abstract, concrete, exact, ref}
use Rattle.wasm_types.specs.trees.Trees.{GroupTree, SubTree, OptionTree, InnerTree, FieldTrees, FieldTree, StorageTree, ValueTrees, ValueTree, HeapTree, RefTree, TypeTree}
use Rattle.wasm_types.specs.trees.Trees as tree
use Rattle.wasm_types.specs.trees.AbstractOrder.{AbstractBelow, same, eq_any, i31_any, struct_any, array_any, none_any, i31_eq, struct_eq}
use Rattle.wasm_types.specs.trees.AbstractOrder.{array_eq, none_eq, none_i31, none_struct, none_array, nofunc_func, noextern_extern, noexn_exn, nocont_cont}
use Rattle.wasm_types.specs.trees.laws.Abstract.{abstract_antisymmetric}
use Rattle.wasm_types.specs.trees.Below.{expanded, is_shared, supertype, DeclaredBelow, itself, declared, abstract_above, HeapBelow, Below}
use Rattle.wasm_types.specs.trees.ValidGroup.{IsWithinDepth}
use Rattle.wasm_operator_validator_rules.specs.Operands.{ValueType}
use Rattle.wasm_operator_validator_soundness.specs.runs.Values.{IsStandardType, Program, Value, number_value, ref_null, ref_function, ref_object, ref_i31, ref_host, ref_extern, ref_exn, least_type, IsMade, Fits}
use Rattle.wasm_operator_validator_soundness.proofs.RunsInvariant.{none_is_some, some_same}
use Rattle.wasm_operator_validator_soundness.proofs.RunsLeaving.{standard_is_sound}
use Rattle.wasm_operator_validator_soundness.proofs.Values.{IsBottom, no_bottom}
use Rattle.wasm_operator_validator_soundness.proofs.Unshared.{standard_valid}

-- it holds or it does not
abbrev pub Decided : Type 0 → Type 0
Decided P = P ⊎ (P → ⊥)

-- as another that is the same
by : {P Q : Type 0} → (P → Q) → (Q → P) → Decided P → Decided Q
by f g (inl p) = inl (f p)
by f g (inr n) = inr (λ q. n (g q))

both : {P Q : Type 0} → Decided P → Decided Q → Decided (P × Q)
both (inl p) (inl q) = inl (p, q)
both (inl p) (inr n) = inr (λ r. n r.1)
both (inr n) d = inr (λ r. n r.0)

-- ---- numbers and names

same_number : (m n : ℕ) → Decided (m ≡ n)
same_number m n = at (eqb m n) refl
  where
    at : (b : Bool) → eqb m n ≡ b → Decided (m ≡ n)
    at true e = inl (eqb-true m n e)
    at false e = inr (λ d. true≢false (sym (eq-eqb m n d) ∙ e))

same_bool : (b c : Bool) → Decided (b ≡ c)
same_bool true true = inl refl
same_bool true false = inr true≢false
same_bool false true = inr (λ e. true≢false (sym e))
same_bool false false = inl refl

same_kind : (m n : Number) → Decided (m ≡ n)
same_kind i32 i32 = inl refl
same_kind i64 i64 = inl refl
same_kind f32 f32 = inl refl
same_kind f64 f64 = inl refl
same_kind v128 v128 = inl refl
same_kind m n = inr (λ e. cc)

abstract_decided : (h k : Abstract) → Decided (AbstractBelow h k)
abstract_decided func func = inl same
abstract_decided extern extern = inl same
abstract_decided any any = inl same
abstract_decided none none = inl same
abstract_decided noextern noextern = inl same
abstract_decided nofunc nofunc = inl same
abstract_decided eq eq = inl same
abstract_decided struct struct = inl same
abstract_decided array array = inl same
abstract_decided i31 i31 = inl same
abstract_decided exn exn = inl same
abstract_decided noexn noexn = inl same
abstract_decided cont cont = inl same
abstract_decided nocont nocont = inl same
abstract_decided eq any = inl eq_any
abstract_decided i31 any = inl i31_any
abstract_decided struct any = inl struct_any
abstract_decided array any = inl array_any
abstract_decided none any = inl none_any
abstract_decided i31 eq = inl i31_eq
abstract_decided struct eq = inl struct_eq
abstract_decided array eq = inl array_eq
abstract_decided none eq = inl none_eq
abstract_decided none i31 = inl none_i31
abstract_decided none struct = inl none_struct
abstract_decided none array = inl none_array
abstract_decided nofunc func = inl nofunc_func
abstract_decided noextern extern = inl noextern_extern
abstract_decided noexn exn = inl noexn_exn
abstract_decided nocont cont = inl nocont_cont
abstract_decided h k = inr (λ l. elim l [ ])

same_abstract : (h k : Abstract) → Decided (h ≡ k)
same_abstract h k =
    by (λ q. abstract_antisymmetric h k q.0 q.1)
    (λ e. (subst (λ (x : Abstract). AbstractBelow h x) e same, subst (λ (x : Abstract). AbstractBelow x h) e same))
    (both (abstract_decided h k) (abstract_decided k h))

-- ---- trees

-- a tree of two parts
of_two : {A B C : Type 0} (f : A → B → C) (a c : A) (b d : B) → (f a b ≡ f c d → a ≡ c) → (f a b ≡ f c d → b ≡ d) → Decided (a ≡ c) → Decided (b ≡ d) → Decided (f a b ≡ f c d)
of_two f a c b d i j (inl e) (inl k) = inl (ap (λ x. f x b) e ∙ ap (f c) k)
of_two f a c b d i j (inl e) (inr n) = inr (λ k. n (j k))
of_two f a c b d i j (inr n) k = inr (λ e. n (i e))

of_one : {A C : Type 0} (f : A → C) (a c : A) → (f a ≡ f c → a ≡ c) → Decided (a ≡ c) → Decided (f a ≡ f c)
of_one f a c i d = by (ap f) i d

subtype_same : (f g : Bool) (s r : OptionTree) (h k : Bool) (d e : OptionTree) (b c : OptionTree) (i j : InnerTree)
    → (f ≡ g) × ((s ≡ r) × ((h ≡ k) × ((d ≡ e) × ((b ≡ c) × (i ≡ j))))) → tree.subtype f s h d b i ≡ tree.subtype g r k e c j
subtype_same f g s r h k d e b c i j q =
    ap (λ x. tree.subtype x s h d b i) q.0 ∙ ap (λ x. tree.subtype g x h d b i) q.1.0 ∙ ap (λ x. tree.subtype g r x d b i) q.1.1.0
    ∙ ap (λ x. tree.subtype g r k x b i) q.1.1.1.0 ∙ ap (λ x. tree.subtype g r k e x i) q.1.1.1.1.0 ∙ ap (λ x. tree.subtype g r k e c x) q.1.1.1.1.1

subtype_parts : (f g : Bool) (s r : OptionTree) (h k : Bool) (d e : OptionTree) (b c : OptionTree) (i j : InnerTree)
    → tree.subtype f s h d b i ≡ tree.subtype g r k e c j → (f ≡ g) × ((s ≡ r) × ((h ≡ k) × ((d ≡ e) × ((b ≡ c) × (i ≡ j)))))
subtype_parts f g s r h k d e b c i j q = (cc, (cc, (cc, (cc, (cc, cc)))))

mutual
  same_group : (g h : GroupTree) → Decided (g ≡ h)
  same_group tree.no_subtypes tree.no_subtypes = inl refl
  same_group tree.no_subtypes (tree.subtype_and s h) = inr (λ e. cc)
  same_group (tree.subtype_and s g) tree.no_subtypes = inr (λ e. cc)
  same_group (tree.subtype_and s g) (tree.subtype_and r h) = of_two tree.subtype_and s r g h (λ e. cc) (λ e. cc) (same_sub s r) (same_group g h)

  same_sub : (s r : SubTree) → Decided (s ≡ r)
  same_sub (tree.subtype f s h d b i) (tree.subtype g r k e c j) =
      by (subtype_same f g s r h k d e b c i j) (subtype_parts f g s r h k d e b c i j)
      (both (same_bool f g) (both (same_option s r) (both (same_bool h k) (both (same_option d e) (both (same_option b c) (same_inner i j))))))

  same_option : (s r : OptionTree) → Decided (s ≡ r)
  same_option tree.no_reference tree.no_reference = inl refl
  same_option tree.no_reference (tree.reference r) = inr (λ e. cc)
  same_option (tree.reference s) tree.no_reference = inr (λ e. cc)
  same_option (tree.reference s) (tree.reference r) = of_one tree.reference s r (λ e. cc) (same_reference s r)

  same_inner : (s r : InnerTree) → Decided (s ≡ r)
  same_inner (tree.function ps rs) (tree.function qs ts) = of_two tree.function ps qs rs ts (λ e. cc) (λ e. cc) (same_values ps qs) (same_values rs ts)
  same_inner (tree.function ps rs) (tree.array_of f) = inr (λ e. cc)
  same_inner (tree.function ps rs) (tree.struct_of fs) = inr (λ e. cc)
  same_inner (tree.function ps rs) (tree.continuation c) = inr (λ e. cc)
  same_inner (tree.array_of f) (tree.function ps rs) = inr (λ e. cc)
  same_inner (tree.array_of f) (tree.array_of g) = of_one tree.array_of f g (λ e. cc) (same_field f g)
  same_inner (tree.array_of f) (tree.struct_of gs) = inr (λ e. cc)
  same_inner (tree.array_of f) (tree.continuation c) = inr (λ e. cc)
  same_inner (tree.struct_of fs) (tree.function ps rs) = inr (λ e. cc)
  same_inner (tree.struct_of fs) (tree.array_of g) = inr (λ e. cc)
  same_inner (tree.struct_of fs) (tree.struct_of gs) = of_one tree.struct_of fs gs (λ e. cc) (same_fields fs gs)
  same_inner (tree.struct_of fs) (tree.continuation c) = inr (λ e. cc)
  same_inner (tree.continuation c) (tree.function ps rs) = inr (λ e. cc)
  same_inner (tree.continuation c) (tree.array_of g) = inr (λ e. cc)
  same_inner (tree.continuation c) (tree.struct_of gs) = inr (λ e. cc)
  same_inner (tree.continuation c) (tree.continuation d) = of_one tree.continuation c d (λ e. cc) (same_reference c d)

  same_fields : (s r : FieldTrees) → Decided (s ≡ r)
  same_fields tree.no_fields tree.no_fields = inl refl
  same_fields tree.no_fields (tree.field_and g r) = inr (λ e. cc)
  same_fields (tree.field_and f s) tree.no_fields = inr (λ e. cc)
  same_fields (tree.field_and f s) (tree.field_and g r) = of_two tree.field_and f g s r (λ e. cc) (λ e. cc) (same_field f g) (same_fields s r)

  same_field : (s r : FieldTree) → Decided (s ≡ r)
  same_field (tree.field s m) (tree.field r n) = of_two tree.field s r m n (λ e. cc) (λ e. cc) (same_storage s r) (same_bool m n)

  same_storage : (s r : StorageTree) → Decided (s ≡ r)
  same_storage tree.i8 tree.i8 = inl refl
  same_storage tree.i8 tree.i16 = inr (λ e. cc)
  same_storage tree.i8 (tree.value v) = inr (λ e. cc)
  same_storage tree.i16 tree.i8 = inr (λ e. cc)
  same_storage tree.i16 tree.i16 = inl refl
  same_storage tree.i16 (tree.value v) = inr (λ e. cc)
  same_storage (tree.value v) tree.i8 = inr (λ e. cc)
  same_storage (tree.value v) tree.i16 = inr (λ e. cc)
  same_storage (tree.value v) (tree.value w) = of_one tree.value v w (λ e. cc) (same_value v w)

  same_values : (s r : ValueTrees) → Decided (s ≡ r)
  same_values tree.no_values tree.no_values = inl refl
  same_values tree.no_values (tree.value_and w r) = inr (λ e. cc)
  same_values (tree.value_and v s) tree.no_values = inr (λ e. cc)
  same_values (tree.value_and v s) (tree.value_and w r) = of_two tree.value_and v w s r (λ e. cc) (λ e. cc) (same_value v w) (same_values s r)

  same_value : (s r : ValueTree) → Decided (s ≡ r)
  same_value (tree.number n) (tree.number m) = of_one tree.number n m (λ e. cc) (same_kind n m)
  same_value (tree.number n) (tree.ref c k) = inr (λ e. cc)
  same_value (tree.ref b h) (tree.number m) = inr (λ e. cc)
  same_value (tree.ref b h) (tree.ref c k) = of_two tree.ref b c h k (λ e. cc) (λ e. cc) (same_bool b c) (same_heap h k)

  same_heap : (s r : HeapTree) → Decided (s ≡ r)
  same_heap (tree.abstract b h) (tree.abstract c k) = of_two tree.abstract b c h k (λ e. cc) (λ e. cc) (same_bool b c) (same_abstract h k)
  same_heap (tree.abstract b h) (tree.concrete r) = inr (λ e. cc)
  same_heap (tree.abstract b h) (tree.exact r) = inr (λ e. cc)
  same_heap (tree.concrete s) (tree.abstract c k) = inr (λ e. cc)
  same_heap (tree.concrete s) (tree.concrete r) = of_one tree.concrete s r (λ e. cc) (same_reference s r)
  same_heap (tree.concrete s) (tree.exact r) = inr (λ e. cc)
  same_heap (tree.exact s) (tree.abstract c k) = inr (λ e. cc)
  same_heap (tree.exact s) (tree.concrete r) = inr (λ e. cc)
  same_heap (tree.exact s) (tree.exact r) = of_one tree.exact s r (λ e. cc) (same_reference s r)

  same_reference : (s r : RefTree) → Decided (s ≡ r)
  same_reference (tree.local m) (tree.local n) = of_one tree.local m n (λ e. cc) (same_number m n)
  same_reference (tree.local m) (tree.type_of h n) = inr (λ e. cc)
  same_reference (tree.type_of g m) (tree.local n) = inr (λ e. cc)
  same_reference (tree.type_of g m) (tree.type_of h n) = of_two tree.type_of g h m n (λ e. cc) (λ e. cc) (same_group g h) (same_number m n)

type_same : (t u : TypeTree) → (t.group ≡ u.group) × (t.place ≡ u.place) → t ≡ u
type_same t u e = ap (λ (g : GroupTree). record { group = g; place = t.place }) e.0 ∙ ap (λ (n : ℕ). record { group = u.group; place = n }) e.1

-- types are compared by their trees
pub same_type : (t u : TypeTree) → Decided (t ≡ u)
same_type t u = by (type_same t u) (λ e. (ap (λ (x : TypeTree). x.group) e, ap (λ (x : TypeTree). x.place) e)) (both (same_group t.group u.group) (same_number t.place u.place))

-- ---- a type below another

ended : (t u : TypeTree) → supertype t ≡ None → (t ≡ u → ⊥) → DeclaredBelow t u → ⊥
ended t u e n itself = n refl
ended t u e n (declared f b) = none_is_some _ (sym e ∙ f)

past : (t u v : TypeTree) → supertype t ≡ Some v → (t ≡ u → ⊥) → (DeclaredBelow v u → ⊥) → DeclaredBelow t u → ⊥
past t u v e n m itself = n refl
past t u v e n m (declared f b) = m (subst (λ (x : TypeTree). DeclaredBelow x u) (some_same _ v (sym f ∙ e)) b)

onward : (t u v : TypeTree) → supertype t ≡ Some v → (t ≡ u → ⊥) → Decided (DeclaredBelow v u) → Decided (DeclaredBelow t u)
onward t u v e n (inl b) = inl (declared e b)
onward t u v e n (inr m) = inr (past t u v e n m)

one_up : (t u : TypeTree) (o : Option TypeTree) → supertype t ≡ o → ((v : TypeTree) → o ≡ Some v → Decided (DeclaredBelow v u)) → Decided (t ≡ u) → Decided (DeclaredBelow t u)
one_up t u o e k (inl d) = inl (subst (λ (x : TypeTree). DeclaredBelow t x) d itself)
one_up t u None e k (inr n) = inr (ended t u e n)
one_up t u (Some v) e k (inr n) = onward t u v e n (k v refl)

declared_decided : (n : ℕ) (t u : TypeTree) → IsWithinDepth n (supertype t) → Decided (DeclaredBelow t u)
declared_decided zero t u w = one_up t u (supertype t) refl (λ v e. absurd (subst (IsWithinDepth 0) e w)) (same_type t u)
declared_decided (suc n) t u w = one_up t u (supertype t) refl (λ v e. declared_decided n v u (subst (IsWithinDepth (suc n)) e w)) (same_type t u)

exact_decided : (t : TypeTree) → IsStandardType t → (h : HeapOf TypeTree) → Decided (HeapBelow (exact t) h)
exact_decided t s (abstract c a) =
    by (λ e. (t, itself, e.0, e.1))
    (λ b. let k = standard_is_sound t s b.0 b.1 in (k.shared ∙ b.2, subst (λ (x : Abstract). AbstractBelow x a) (sym k.constructor) b.3))
    (both (same_bool (is_shared t) c) (abstract_decided (abstract_above (expanded t)) a))
exact_decided t s (concrete u) = let d = (standard_valid t s).depth in declared_decided s.settings.limits.subtyping_depth t u d
exact_decided t s (exact u) = same_type t u

-- of an abstract type that ends no hierarchy
inside_decided : (k : Abstract) → (IsBottom k → ⊥) → (h : HeapOf TypeTree) → Decided (HeapBelow (abstract false k) h)
inside_decided k n (abstract c a) = both (same_bool false c) (abstract_decided k a)
inside_decided k n (concrete u) = inr (λ b. n (no_bottom k (expanded u) (b u itself).1))
inside_decided k n (exact u) = inr (λ b. n (no_bottom k (expanded u) (b u itself).1))

module _ (p : Program) where
  heap_decided : (v : Value) → IsMade p v → (h k : HeapOf TypeTree) → least_type v ≡ ref false k → Decided (HeapBelow k h) → Decided (Fits p v (ref false h))
  heap_decided v m h k e d = by (λ b. (m, subst (λ (t : ValueType). Below t (ref false h)) (sym e) (tt, b))) (λ f. (subst (λ (t : ValueType). Below t (ref false h)) e f.1).1) d

  -- whether a value is of a type, and is not null
  pub fits_decided : (v : Value) → IsMade p v → (h : HeapOf TypeTree) → Decided (Fits p v (ref false h))
  fits_decided (number_value n b) m h = inr (λ f. f.1)
  fits_decided (ref_null c k) m h = inr (λ f. f.1.0)
  fits_decided (ref_function i t) m h = heap_decided (ref_function i t) m h (exact t) refl (exact_decided t m.0 h)
  fits_decided (ref_object k t) m h = heap_decided (ref_object k t) m h (exact t) refl (exact_decided t m.0 h)
  fits_decided (ref_i31 b) m h = heap_decided (ref_i31 b) m h (abstract false i31) refl (inside_decided i31 (λ n. n) h)
  fits_decided (ref_host k) m h = heap_decided (ref_host k) m h (abstract false any) refl (inside_decided any (λ n. n) h)
  fits_decided (ref_extern k) m h = heap_decided (ref_extern k) m h (abstract false extern) refl (inside_decided extern (λ n. n) h)
  fits_decided (ref_exn k t) m h = heap_decided (ref_exn k t) m h (abstract false exn) refl (inside_decided exn (λ n. n) h)
