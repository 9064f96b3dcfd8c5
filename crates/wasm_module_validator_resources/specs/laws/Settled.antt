-- The types of a list that is settled are sound, and those above one of them by declaration are in the list.
use Rattle.std.proofs.Common.{◌≡◌, ◌∙◌, ◌⊎◌, inl, inr, ⊎_elim, ℕ, ◌<◌, Bool, true, false, ◌&&◌, IsTrue, List, [], ◌∷◌, refl, ap, sym, subst, Option, Some, None, arith}
use Rattle.std.specs.Prelude.{All}
use Rattle.std.specs.Option.{option_map}
use Rattle.std.proofs.lemmas.List.Elements.{All-map, All-weaker}
use Rattle.wasm_types.specs.settings.Features.{needs_canonical_types}
use Rattle.wasm_types.specs.trees.declared.index.CoreTypeId.{CoreTypeId}
use Rattle.wasm_types.specs.trees.Types.{InnerOf, function, array_of, struct_of, continuation}
use Rattle.wasm_types.specs.trees.Trees.{TypeTree, opened}
use Rattle.wasm_types.specs.trees.Below.{expanded, supertype, abstract_above, DeclaredBelow, itself, declared}
use Rattle.wasm_types.specs.trees.Chains.{IsSound}
use Rattle.wasm_module_validator_type_storage.specs.trees.Groups.{Group, count, tree_of}
use Rattle.wasm_module_validator_type_storage.specs.trees.Formed.{IsFormed, AreCanonical}
use Rattle.wasm_module_validator_type_storage.specs.trees.ByIds.{supertype_of}
use Rattle.wasm_module_validator_type_storage.specs.trees.laws.Ids.{supertype_tree, supertype_below}
use Rattle.wasm_module_validator_type_groups.specs.adding.Interned.{space_of, AreIdsKnown}
use Rattle.wasm_module_validator_resources.specs.Bare.{is_bare}
use Rattle.wasm_module_validator_resources.specs.Reading.{types_by_id}
use Rattle.wasm_module_validator_resources.specs.Named.{nowhere, tree_meant, IsInList, kind_number, are_canonical, IsSettled}
use Rattle.wasm_module_validator_resources.specs.declared.named.Named.{Named}
use Rattle.wasm_module_validator_resources.specs.declared.named.Named.TheVariants.{Known, Unknown}
use Rattle.wasm_module_validator_resources.specs.laws.Bare.{no_truth, bare_top}
use Rattle.wasm_module_validator_resources.specs.laws.Trees.{types_counted, type_by_id}

either : (b : Bool) → (b ≡ true) ⊎ (b ≡ false)
either true = inl refl
either false = inr refl

named_above : (groups : List Group) (o : Option CoreTypeId) (u : TypeTree) → option_map (λ (x : CoreTypeId). tree_of groups x.0) o ≡ Some u
    → (b : CoreTypeId) × (o ≡ Some b) × (tree_of groups b.0 ≡ u)
named_above groups None u e = absurd cc
named_above groups (Some b) u e = (b, refl, cc)

-- ---- what stands past the end

nothing_above : (n : ℕ) (u : TypeTree) → supertype (nowhere n) ≡ Some u → ⊥
unfolding opened
nothing_above n u e = absurd cc

pub only_itself : (n : ℕ) (u : TypeTree) → DeclaredBelow (nowhere n) u → nowhere n ≡ u
only_itself n u itself = refl
only_itself n u (declared e p) = absurd (nothing_above n _ e)

pub sound_nowhere : (n : ℕ) → IsSound (nowhere n)
sound_nowhere n u itself = record { shared = refl; constructor = refl }
sound_nowhere n u (declared e p) = absurd (nothing_above n _ e)

-- ---- canonical forms, and constructors

canonical_from : (a b : Bool) → IsTrue (a && b) → IsTrue a × IsTrue b
canonical_from true true h = (refl, refl)
canonical_from true false h = absurd (no_truth h)
canonical_from false b h = absurd (no_truth h)

all_canonical : (groups : List Group) → IsTrue (are_canonical groups) → AreCanonical groups
all_canonical [] h = tt
all_canonical (g ∷ earlier) h = let two = canonical_from g.is_canonical (are_canonical earlier) h in (two.0, all_canonical earlier two.1)

same_constructor : {R S : Type 0} (x : InnerOf R) (y : InnerOf S) → kind_number x ≡ kind_number y → abstract_above x ≡ abstract_above y
same_constructor (function ps rs) (function qs ss) e = refl
same_constructor (function ps rs) (array_of y) e = absurd (omega arith)
same_constructor (function ps rs) (struct_of ys) e = absurd (omega arith)
same_constructor (function ps rs) (continuation f) e = absurd (omega arith)
same_constructor (array_of x) (function qs ss) e = absurd (omega arith)
same_constructor (array_of x) (array_of y) e = refl
same_constructor (array_of x) (struct_of ys) e = absurd (omega arith)
same_constructor (array_of x) (continuation f) e = absurd (omega arith)
same_constructor (struct_of xs) (function qs ss) e = absurd (omega arith)
same_constructor (struct_of xs) (array_of y) e = absurd (omega arith)
same_constructor (struct_of xs) (struct_of ys) e = refl
same_constructor (struct_of xs) (continuation f) e = absurd (omega arith)
same_constructor (continuation f) (function qs ss) e = absurd (omega arith)
same_constructor (continuation f) (array_of y) e = absurd (omega arith)
same_constructor (continuation f) (struct_of ys) e = absurd (omega arith)
same_constructor (continuation f) (continuation g) e = refl

-- ---- types above one another

pub above_canonical : (groups : List Group) → IsFormed groups → AreCanonical groups → {t u : TypeTree} → DeclaredBelow t u → (a : CoreTypeId) → a.0 < count groups
    → t ≡ tree_of groups a.0 → (b : CoreTypeId) × (b.0 < count groups) × (tree_of groups b.0 ≡ u)
above_canonical groups formed c itself a lt p = (a, lt, sym p)
above_canonical groups formed c (declared {t = t} {u = v} e r) a lt p =
    let found = named_above groups (supertype_of groups a) v (sym (supertype_tree groups formed c a lt) ∙ ap supertype (sym p) ∙ e) in
    let below = supertype_below groups formed a found.0 lt found.1 in
    above_canonical groups formed c r found.0 (omega arith) (sym found.2)

pub above_bare : (t u : TypeTree) → IsTrue (is_bare (opened t)) → DeclaredBelow t u → t ≡ u
above_bare t u bare itself = refl
above_bare t u bare (declared e p) = let none : supertype t ≡ None = bare_top (opened t) bare in absurd cc

module _ (bits : ℕ) (groups : List Group) (s : IsSettled bits groups) where
  -- all groups are in canonical form, or no feature asks for that
  pub by_form : {A : Type 0} → (AreCanonical groups → A) → (needs_canonical_types bits ≡ false → A) → A
  by_form canonical bare = ⊎_elim (λ on. canonical (all_canonical groups (s.canonical on))) bare (either (needs_canonical_types bits))

  pub are_in_form : IsTrue (needs_canonical_types bits) → AreCanonical groups
  are_in_form on = all_canonical groups (s.canonical on)

  -- each type above one of the list is one of the list
  pub above_in_list : IsFormed groups → (a : CoreTypeId) → a.0 < count groups → (u : TypeTree) → DeclaredBelow (tree_of groups a.0) u
      → (b : CoreTypeId) × (b.0 < count groups) × (tree_of groups b.0 ≡ u)
  above_in_list formed a lt u d = by_form
      (λ c. above_canonical groups formed c d a lt refl)
      (λ off. (a, lt, above_bare (tree_of groups a.0) u (s.bare off a.0 lt) d))

  pub sound_type : (id : ℕ) → id < count groups → IsSound (tree_of groups id)
  sound_type id lt u d =
      let one = s.alike id lt u d in
      record { shared = one.0; constructor = same_constructor (expanded (tree_of groups id)) (expanded u) one.1 }

  pub sound_name : (n : Named) → IsInList groups n → IsSound (tree_meant groups n)
  sound_name (Known i) lt = sound_type i.0 lt
  sound_name (Unknown n) lt = sound_nowhere n

  pub sound_space : (ids : List CoreTypeId) → AreIdsKnown groups ids → All IsSound (space_of groups ids)
  sound_space ids known = All-map IsSound (λ (i : CoreTypeId). tree_of groups i.0) ids
      (All-weaker (λ (i : CoreTypeId). i.0 < count groups) (λ (i : CoreTypeId). IsSound (tree_of groups i.0)) (λ i lt. sound_type i.0 lt) ids known)

  pub sound_list : All IsSound (types_by_id groups)
  sound_list k d lt =
      let long = types_counted groups in
      subst IsSound (sym (type_by_id groups k d (omega arith))) (sound_type k (omega arith))
