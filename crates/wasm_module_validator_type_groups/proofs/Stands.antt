-- The types of a group stand in a list behind others: what then holds of a module that has their ids.
use Rattle.std.proofs.Common.{◌≡◌, ◌∙◌, ◌⊎◌, inl, inr, ⊎_elim, ℕ, zero, suc, ◌+◌, ◌-◌, ◌<◌, ◌≤◌, List, [], ◌∷◌, ◌++◌, length, refl, ap, sym, subst, Some, arith}
use Rattle.std.specs.Prelude.{slice_get, unwrap_or, Option}
use Rattle.std.proofs.lemmas.Bool.{cases_lt}
use Rattle.std.proofs.lemmas.List.{length-append, map-append}
use Rattle.std.proofs.lemmas.List.Elements.{All-nil, All-cons, All-append, All-weaker}
use Rattle.wasm_types.specs.settings.Settings.{Settings}
use Rattle.wasm_types.specs.trees.declared.index.CoreTypeId.{CoreTypeId}
use Rattle.wasm_types.specs.trees.Trees.{GroupTree}
use Rattle.wasm_types.specs.trees.ValidGroup.{IsValidType, AreValidTypes, types_from}
use Rattle.wasm_module_validator_type_storage.specs.trees.Groups.{Group, count, tree_of, tree_behind, group_at, group_ranges}
use Rattle.wasm_module_validator_type_storage.specs.trees.Formed.{IsFormed, AreCanonical, KeepsTypes}
use Rattle.wasm_module_validator_type_storage.specs.trees.laws.Unrolled.{count_push, tree_old, tree_new}
use Rattle.wasm_module_validator_type_storage.specs.trees.laws.GroupIds.{group_ids}
use Rattle.wasm_module_validator_type_groups.specs.adding.Interned.{space_of, AreIdsKnown, ids_from}

-- the ids from the first on, n of them, have the types of this tree, and each other id has the type that it had
pub record Stands (old new : List Group) (tree : GroupTree) (first n : ℕ) : Type 0 where
  pub keeps : KeepsTypes old new
  pub more : count old ≤ count new
  pub known : first + n ≤ count new
  pub types : (p : ℕ) → p < n → tree_of new (first + p) ≡ record { group = tree; place = p }
  pub others : (id : ℕ) → id < count new → (id < count old) ⊎ ((p : ℕ) × (p < n) × (first + p ≡ id))

-- ---- the ids of the newest group

get_last : {A : Type 0} (xs : List A) (x : A) → slice_get (xs ++ x ∷ []) (length xs) ≡ Some x
get_last [] x = refl
get_last (z ∷ zs) x = get_last zs x

pub ranges_more : (g : Group) (earlier : List Group) → group_ranges (g ∷ earlier) ≡ group_ranges earlier ++ (count earlier, count earlier + length g.types) ∷ []
unfolding group_ranges
ranges_more g earlier = refl

ranges_counted : (groups : List Group) → length (group_ranges groups) ≡ length groups
unfolding group_ranges
ranges_counted [] = refl
ranges_counted (g ∷ earlier) =
    ap length (ranges_more g earlier) ∙ length-append (group_ranges earlier) ((count earlier, count earlier + length g.types) ∷ []) ∙ omega (arith, ranges_counted earlier)

pub range_new : (g : Group) (earlier : List Group) → slice_get (group_ranges (g ∷ earlier)) (length earlier) ≡ Some (count earlier, count earlier + length g.types)
range_new g earlier =
    ap (λ l. slice_get l (length earlier)) (ranges_more g earlier)
    ∙ ap (λ n. slice_get (group_ranges earlier ++ (count earlier, count earlier + length g.types) ∷ []) n) (sym (ranges_counted earlier))
    ∙ get_last (group_ranges earlier) (count earlier, count earlier + length g.types)

pub same_range : (o : Option (ℕ × ℕ)) (a b c d : ℕ) → o ≡ Some (a, b) → o ≡ Some (c, d) → (a ≡ c) × (b ≡ d)
same_range o a b c d e f =
    let pair : Some (a, b) ≡ Some (c, d) = sym e ∙ f in
    (ap (λ (x : Option (ℕ × ℕ)). (unwrap_or x (0, 0)).0) pair, ap (λ (x : Option (ℕ × ℕ)). (unwrap_or x (0, 0)).1) pair)

-- ---- a group that was added, and one that was known

pub stands_new : (g : Group) (old : List Group) → Stands old (g ∷ old) (tree_behind old g) (count old) (length g.types)
stands_new g old =
    let pushed = count_push g old in
    record {
      keeps = λ id lt. tree_old g old id lt;
      more = omega arith;
      known = omega arith;
      types = λ p lt. let place : count old + p - count old ≡ p = omega arith in
          tree_new g old (count old + p) (omega arith) ∙ ap (λ (n : ℕ). record { group = tree_behind old g; place = n }) place;
      others = λ id lt. ⊎_elim (λ l. inl l) (λ le. inr (id - count old, omega arith, omega arith)) (cases_lt id (count old));
    }

pub stands_known : (groups : List Group) → IsFormed groups → AreCanonical groups → (k : ℕ) (g : Group) (first end : ℕ) → group_at groups k ≡ Some g
    → slice_get (group_ranges groups) k ≡ Some (first, end) → Stands groups groups (tree_behind groups g) first (length g.types) × (end ≡ first + length g.types)
stands_known groups formed c k g first end at ids =
    let u = group_ids groups formed c k g at in
    let same = same_range (slice_get (group_ranges groups) k) u.first (u.first + length g.types) first end u.ids ids in
    let one : u.first ≡ first = same.0 in
    let known = u.known in (
      record {
        keeps = λ id lt. refl;
        more = omega arith;
        known = let e = one in omega arith;
        types = λ p lt. subst (λ (n : ℕ). tree_of groups (n + p) ≡ record { group = tree_behind groups g; place = p }) one (u.types p lt);
        others = λ id lt. inl lt;
      },
      (let e = same.1 in omega arith),
    )

-- ---- one of the types of a tree

pub valid_at : (z : Settings) (tree : GroupTree) (m place p : ℕ) → AreValidTypes z (types_from tree place m) → p < m → IsValidType z (record { group = tree; place = place + p })
unfolding types_from
valid_at z tree zero place p v lt = absurd (omega arith)
valid_at z tree (suc m) place zero v lt = subst (λ (k : ℕ). IsValidType z (record { group = tree; place = k })) (omega arith) v.0
valid_at z tree (suc m) place (suc p) v lt = subst (λ (k : ℕ). IsValidType z (record { group = tree; place = k })) (omega arith) (valid_at z tree m (suc place) p v.1 (omega arith))

-- counted from the first
pub valid_place : (z : Settings) (tree : GroupTree) (n p : ℕ) → AreValidTypes z (types_from tree 0 n) → p < n → IsValidType z (record { group = tree; place = p })
valid_place z tree n p v lt = subst (λ (k : ℕ). IsValidType z (record { group = tree; place = k })) (omega arith) (valid_at z tree n 0 p v lt)

-- ---- what then holds

module _ (old new : List Group) (tree : GroupTree) (first n : ℕ) (s : Stands old new tree first n) where
  -- the types of the ids are those of the tree
  space_from : (m place : ℕ) → place + m ≤ n → space_of new (ids_from (first + place) m) ≡ types_from tree place m
  unfolding types_from
  space_from zero place le = refl
  space_from (suc m) place le =
      let a = s.types place (omega arith) in
      let next : suc (first + place) ≡ first + suc place = omega arith in
      let b : space_of new (ids_from (suc (first + place)) m) ≡ types_from tree (suc place) m =
      ap (λ (k : ℕ). space_of new (ids_from k m)) next ∙ space_from m (suc place) (omega arith) in
      cc

  space_kept : (ids : List CoreTypeId) → AreIdsKnown old ids → space_of new ids ≡ space_of old ids
  space_kept [] k = refl
  space_kept (i ∷ ids) k =
      let a = s.keeps i.0 (k 0 i (omega arith)) in
      let b = space_kept ids (λ j d lt. k (suc j) d (omega arith)) in
      cc

  -- a module that has the ids behind those that it had has the types behind those that it had
  pub space_after : (ids : List CoreTypeId) → AreIdsKnown old ids → space_of new (ids ++ ids_from first n) ≡ space_of old ids ++ types_from tree 0 n
  space_after ids k =
      let a = map-append (λ (i : CoreTypeId). tree_of new i.0) ids (ids_from first n) in
      let b = space_kept ids k in
      let zeroth : first + 0 ≡ first = omega arith in
      let c : space_of new (ids_from first n) ≡ types_from tree 0 n = ap (λ (j : ℕ). space_of new (ids_from j n)) (sym zeroth) ∙ space_from n 0 (omega arith) in
      a ∙ ap (λ l. l ++ space_of new (ids_from first n)) b ∙ ap (λ l. space_of old ids ++ l) c

  ids_known_from : (m place : ℕ) → place + m ≤ n → AreIdsKnown new (ids_from (first + place) m)
  ids_known_from zero place le = All-nil (λ (i : CoreTypeId). i.0 < count new)
  ids_known_from (suc m) place le =
      let within = s.known in
      let next : first + suc place ≡ suc (first + place) = omega arith in
      All-cons (λ (i : CoreTypeId). i.0 < count new) (record { 0 = first + place }) (ids_from (suc (first + place)) m) (omega arith)
      (subst (λ (k : ℕ). AreIdsKnown new (ids_from k m)) next (ids_known_from m (suc place) (omega arith)))

  pub known_after : (ids : List CoreTypeId) → AreIdsKnown old ids → AreIdsKnown new (ids ++ ids_from first n)
  known_after ids k =
      let more = s.more in
      let zeroth : first + 0 ≡ first = omega arith in
      All-append (λ (i : CoreTypeId). i.0 < count new) ids (ids_from first n)
      (All-weaker (λ (i : CoreTypeId). i.0 < count old) (λ (i : CoreTypeId). i.0 < count new) (λ i lt. omega arith) ids k)
      (subst (λ (j : ℕ). AreIdsKnown new (ids_from j n)) zeroth (ids_known_from n 0 (omega arith)))

  module _ (z : Settings) where
    -- where all types were valid and those of the tree are, all are
    pub valid_after : ((id : ℕ) → id < count old → IsValidType z (tree_of old id)) → AreValidTypes z (types_from tree 0 n) → (id : ℕ) → id < count new → IsValidType z (tree_of new id)
    valid_after olds v id lt = ⊎_elim
        (λ l. subst (IsValidType z) (sym (s.keeps id l)) (olds id l))
        (λ r. subst (λ (k : ℕ). IsValidType z (tree_of new k)) r.2
        (subst (IsValidType z) (sym (s.types r.0 r.1))
        (valid_place z tree n r.0 v r.1)))
        (s.others id lt)

    valid_known_from : ((id : ℕ) → id < count new → IsValidType z (tree_of new id)) → (m place : ℕ) → place + m ≤ n → AreValidTypes z (types_from tree place m)
    unfolding types_from
    valid_known_from all zero place le = tt
    valid_known_from all (suc m) place le =
        let within = s.known in
        (subst (IsValidType z) (s.types place (omega arith)) (all (first + place) (omega arith)), valid_known_from all m (suc place) (omega arith))

    -- where all types are valid, those of the tree are
    pub valid_known : ((id : ℕ) → id < count new → IsValidType z (tree_of new id)) → AreValidTypes z (types_from tree 0 n)
    valid_known all = valid_known_from all n 0 (omega arith)
