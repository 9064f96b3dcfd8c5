-- Subtyping over ids is subtyping over the types that they stand for, where all groups are in canonical form.
use Rattle.std.proofs.Common.{◌≡◌, ◌∙◌, ◌↔◌, ℕ, ◌<◌, Bool, List, refl, ap, sym, subst, Option, Some, None, arith}
use Rattle.std.specs.Option.{option_map}
use Rattle.wasm_types.specs.trees.declared.index.CoreTypeId.{CoreTypeId}
use Rattle.wasm_types.specs.trees.declared.index.UnpackedIndex.{UnpackedIndex}
use Rattle.wasm_types.specs.trees.declared.index.UnpackedIndex.TheVariants.{Module, RecGroup, Id}
use Rattle.wasm_types.specs.trees.Types.{Abstract, HeapOf, abstract, concrete, exact, ValueOf, number, ref, heap_map, value_map, EntryOf, InnerOf, inner_map}
use Rattle.wasm_types.specs.trees.Types.{function, array_of, struct_of, continuation}
use Rattle.wasm_types.specs.trees.Each.{EachHeap, EachValue}
use Rattle.wasm_types.specs.trees.Trees.{TypeTree}
use Rattle.wasm_types.specs.trees.AbstractOrder.{AbstractBelow}
use Rattle.wasm_types.specs.trees.Below.{expanded, is_shared, supertype, abstract_above, bottom_of, DeclaredBelow, itself, declared, IsBelowAbstract, IsAboveAbstract}
use Rattle.wasm_types.specs.trees.Below.{HeapBelow, Below, heap_is_shared, value_is_shared}
use Rattle.wasm_module_validator_type_storage.specs.trees.Groups.{Group, count, tree_of}
use Rattle.wasm_module_validator_type_storage.specs.trees.Formed.{IsFormed, AreCanonical}
use Rattle.wasm_module_validator_type_storage.specs.trees.ByIds as ids
use Rattle.wasm_module_validator_type_storage.specs.trees.ByIds.{supertype_of, IdBelow, tree_named}
use Rattle.wasm_module_validator_type_storage.specs.trees.BelowIds.{IsIdBelow, undeclared, entry_by_id, heap_is_shared_by_id, value_is_shared_by_id}
use Rattle.wasm_module_validator_type_storage.specs.trees.BelowIds.{IdBelowAbstract, AbstractBelowId, HeapBelowById, ValueBelowById}
use Rattle.wasm_module_validator_type_storage.specs.trees.laws.Apart.{apart}
use Rattle.wasm_module_validator_type_storage.specs.trees.laws.Ids.{opens, supertype_tree, supertype_below, trees_below, below_by_ids}

-- the constructor is that of the type over ids
abstract_kept : {R S : Type 0} (f : R → S) (x : InnerOf R) → abstract_above (inner_map f x) ≡ abstract_above x
abstract_kept f (function ps rs) = refl
abstract_kept f (array_of x) = refl
abstract_kept f (struct_of xs) = refl
abstract_kept f (continuation r) = refl

bottom_kept : {R S : Type 0} (f : R → S) (x : InnerOf R) → bottom_of (inner_map f x) ≡ bottom_of x
bottom_kept f (function ps rs) = refl
bottom_kept f (array_of x) = refl
bottom_kept f (struct_of xs) = refl
bottom_kept f (continuation r) = refl

named_above : (groups : List Group) (o : Option CoreTypeId) (u : TypeTree) → option_map (λ (x : CoreTypeId). tree_of groups x.0) o ≡ Some u
    → (b : CoreTypeId) × (o ≡ Some b) × (tree_of groups b.0 ≡ u)
named_above groups None u e = absurd cc
named_above groups (Some b) u e = (b, refl, cc)

module _ (groups : List Group) (formed : IsFormed groups) (c : AreCanonical groups) where
  pub shared_tree : (i : CoreTypeId) → i.0 < count groups → is_shared (tree_of groups i.0) ≡ (entry_by_id groups i).shared
  shared_tree i lt = ap (λ (x : EntryOf TypeTree). x.shared) (opens groups formed c i.0 undeclared lt)

  pub abstract_tree : (i : CoreTypeId) → i.0 < count groups → abstract_above (expanded (tree_of groups i.0)) ≡ abstract_above (entry_by_id groups i).inner
  abstract_tree i lt =
      ap (λ (x : EntryOf TypeTree). abstract_above x.inner) (opens groups formed c i.0 undeclared lt) ∙ abstract_kept (tree_named groups) (entry_by_id groups i).inner

  bottom_tree : (i : CoreTypeId) → i.0 < count groups → bottom_of (expanded (tree_of groups i.0)) ≡ bottom_of (entry_by_id groups i).inner
  bottom_tree i lt =
      ap (λ (x : EntryOf TypeTree). bottom_of x.inner) (opens groups formed c i.0 undeclared lt) ∙ bottom_kept (tree_named groups) (entry_by_id groups i).inner

  -- each id above is known
  above_known : {i j : CoreTypeId} → IdBelow groups i j → i.0 < count groups → j.0 < count groups
  above_known ids.itself lt = lt
  above_known (ids.declared {a = a} {b = b} e r) lt = let l = supertype_below groups formed a b lt e in above_known r (omega arith)

  -- each type above is that of an id above
  tree_above : {t u : TypeTree} → DeclaredBelow t u → (a : CoreTypeId) → a.0 < count groups → t ≡ tree_of groups a.0
      → (b : CoreTypeId) × IdBelow groups a b × (b.0 < count groups) × (tree_of groups b.0 ≡ u)
  tree_above itself a lt p = (a, ids.itself, lt, sym p)
  tree_above (declared {t = t} {u = v} e r) a lt p =
      let found = named_above groups (supertype_of groups a) v (sym (supertype_tree groups formed c a lt) ∙ ap supertype (sym p) ∙ e) in
      let below = supertype_below groups formed a found.0 lt found.1 in
      let rest = tree_above r found.0 (omega arith) (sym found.2) in
      (rest.0, ids.declared found.1 rest.1, rest.2, rest.3)

  below_abstract : (i : CoreTypeId) (s : Bool) (a : Abstract) → i.0 < count groups → IdBelowAbstract groups i s a ↔ IsBelowAbstract (tree_of groups i.0) s a
  below_abstract i s a lt = (
    λ h. let known = above_known h.1 lt in (
      tree_of groups h.0.0,
      trees_below groups formed c h.1 lt,
      shared_tree h.0 known ∙ h.2.0,
      subst (λ (x : Abstract). AbstractBelow x a) (sym (abstract_tree h.0 known)) h.2.1,
    ),
    λ h. let found = tree_above h.1 i lt refl in (
      found.0,
      found.1,
      (
        sym (shared_tree found.0 found.2) ∙ ap is_shared found.3 ∙ h.2,
        subst (λ (x : Abstract). AbstractBelow x a) (sym (ap (λ t. abstract_above (expanded t)) found.3) ∙ abstract_tree found.0 found.2) h.3,
      ),
    ),
  )

  above_abstract : (i : CoreTypeId) (s : Bool) (a : Abstract) → i.0 < count groups → AbstractBelowId groups i s a ↔ IsAboveAbstract (tree_of groups i.0) s a
  above_abstract i s a lt = (
    λ h u d. let found = tree_above d i lt refl in
        let over = h found.0 found.1 in
        (over.0 ∙ sym (shared_tree found.0 found.2) ∙ ap is_shared found.3, over.1 ∙ sym (bottom_tree found.0 found.2) ∙ ap (λ t. bottom_of (expanded t)) found.3),
    λ h j d. let known = above_known d lt in
        let over = h (tree_of groups j.0) (trees_below groups formed c d lt) in
        (over.0 ∙ shared_tree j known, over.1 ∙ bottom_tree j known),
  )

  same_tree : (i j : CoreTypeId) → i.0 < count groups → j.0 < count groups → (i ≡ j) ↔ (tree_of groups i.0 ≡ tree_of groups j.0)
  same_tree i j a b = (
    λ e. ap (λ (x : CoreTypeId). tree_of groups x.0) e,
    λ e. ap (λ (n : ℕ). record { 0 = n }) (apart groups formed c i.0 j.0 a b e),
  )

  same : {A : Type 0} → A ↔ A
  same = (λ a. a, λ a. a)

  heap_below : (h k : HeapOf UnpackedIndex) → EachHeap (IsIdBelow (count groups)) h → EachHeap (IsIdBelow (count groups)) k
      → HeapBelowById groups h k ↔ HeapBelow (heap_map (tree_named groups) h) (heap_map (tree_named groups) k)
  heap_below (abstract s a) (abstract r b) v w = same
  heap_below (abstract s a) (concrete (Id j)) v w = above_abstract j s a w
  heap_below (abstract s a) (exact (Id j)) v w = above_abstract j s a w
  heap_below (concrete (Id i)) (abstract r b) v w = below_abstract i r b v
  heap_below (concrete (Id i)) (concrete (Id j)) v w = below_by_ids groups formed c i j v w
  heap_below (concrete (Id i)) (exact (Id j)) v w = same
  heap_below (exact (Id i)) (abstract r b) v w = below_abstract i r b v
  heap_below (exact (Id i)) (concrete (Id j)) v w = below_by_ids groups formed c i j v w
  heap_below (exact (Id i)) (exact (Id j)) v w = same_tree i j v w
  heap_below (concrete (Module m)) k v w = absurd v
  heap_below (concrete (RecGroup m)) k v w = absurd v
  heap_below (exact (Module m)) k v w = absurd v
  heap_below (exact (RecGroup m)) k v w = absurd v
  heap_below h (concrete (Module m)) v w = absurd w
  heap_below h (concrete (RecGroup m)) v w = absurd w
  heap_below h (exact (Module m)) v w = absurd w
  heap_below h (exact (RecGroup m)) v w = absurd w

  pub value_below : (v w : ValueOf UnpackedIndex) → EachValue (IsIdBelow (count groups)) v → EachValue (IsIdBelow (count groups)) w
      → ValueBelowById groups v w ↔ Below (value_map (tree_named groups) v) (value_map (tree_named groups) w)
  value_below (number n) (number m) p q = same
  value_below (number n) (ref m k) p q = same
  value_below (ref n h) (number m) p q = same
  value_below (ref n h) (ref m k) p q = let both = heap_below h k p q in (λ r. (r.0, both.0 r.1), λ r. (r.0, both.1 r.1))

  heap_shared : (h : HeapOf UnpackedIndex) → EachHeap (IsIdBelow (count groups)) h → heap_is_shared_by_id groups h ≡ heap_is_shared (heap_map (tree_named groups) h)
  heap_shared (abstract s a) w = refl
  heap_shared (concrete (Id i)) w = sym (shared_tree i w)
  heap_shared (exact (Id i)) w = sym (shared_tree i w)
  heap_shared (concrete (Module m)) w = absurd w
  heap_shared (concrete (RecGroup m)) w = absurd w
  heap_shared (exact (Module m)) w = absurd w
  heap_shared (exact (RecGroup m)) w = absurd w

  pub value_shared : (v : ValueOf UnpackedIndex) → EachValue (IsIdBelow (count groups)) v → value_is_shared_by_id groups v ≡ value_is_shared (value_map (tree_named groups) v)
  value_shared (number n) w = refl
  value_shared (ref n h) w = heap_shared h w
