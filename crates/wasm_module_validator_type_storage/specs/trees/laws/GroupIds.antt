-- The ids of a group unfold to the places of its tree.
use Rattle.std.proofs.Common.{◌≡◌, ◌∙◌, ℕ, zero, suc, ◌+◌, ◌-◌, ◌<◌, Bool, true, false, cond, List, [], ◌∷◌, ◌++◌, length, refl, ap, sym, subst, Some, arith, eqb}
use Rattle.std.specs.Prelude.{slice_get}
use Rattle.std.proofs.lemmas.Bool.{eqb-true}
use Rattle.std.proofs.lemmas.List.{length-append}
use Rattle.wasm_types.specs.trees.Trees.{GroupTree}
use Rattle.wasm_module_validator_type_storage.specs.trees.Groups.{Group, count, entries_of, tree_of, tree_behind, group_at, group_ranges}
use Rattle.wasm_module_validator_type_storage.specs.trees.Formed.{IsFormed, AreCanonical}
use Rattle.wasm_module_validator_type_storage.specs.trees.GroupIds.{Unfolds}
use Rattle.wasm_module_validator_type_storage.specs.trees.laws.Unrolled.{count_push, tree_old, tree_new, unfolds_alike, group_known}
use Rattle.wasm_module_validator_type_storage.specs.trees.laws.Apart.{is_at}

get_front : {A : Type 0} (xs ys : List A) (k : ℕ) (x : A) → slice_get xs k ≡ Some x → slice_get (xs ++ ys) k ≡ Some x
get_front [] ys k x e = absurd cc
get_front (z ∷ zs) ys zero x e = e
get_front (z ∷ zs) ys (suc k) x e = get_front zs ys k x e

get_last : {A : Type 0} (xs : List A) (x : A) (k : ℕ) → length xs ≡ k → slice_get (xs ++ x ∷ []) k ≡ Some x
get_last [] x zero e = refl
get_last [] x (suc k) e = absurd (omega arith)
get_last (z ∷ zs) x zero e = absurd (omega arith)
get_last (z ∷ zs) x (suc k) e = get_last zs x k (omega arith)

ranges_more : (g : Group) (earlier : List Group) → group_ranges (g ∷ earlier) ≡ group_ranges earlier ++ (count earlier, count earlier + length g.types) ∷ []
unfolding group_ranges
ranges_more g earlier = refl

ranges_counted : (groups : List Group) → length (group_ranges groups) ≡ length groups
unfolding group_ranges
ranges_counted [] = refl
ranges_counted (g ∷ earlier) =
    ap length (ranges_more g earlier) ∙ length-append (group_ranges earlier) ((count earlier, count earlier + length g.types) ∷ []) ∙ omega (arith, ranges_counted earlier)

module _ (h : Group) (groups : List Group) (formed : IsFormed (h ∷ groups)) (c : AreCanonical (h ∷ groups)) where
  agrees : (i : ℕ) → i < count groups → tree_of groups i ≡ tree_of (h ∷ groups) i
  agrees i lt = sym (tree_old h groups i lt)

  unfolds_old : (k : ℕ) (g : Group) → group_at groups k ≡ Some g → Unfolds groups k g → Unfolds (h ∷ groups) k g
  unfolds_old k g at u =
      let few = u.known in
      let same = unfolds_alike (tree_of groups) (tree_of (h ∷ groups)) (count groups) agrees (entries_of g) (is_at groups formed.2 c.1 k g at).known in
      record {
        first = u.first;
        ids = ap (λ l. slice_get l k) (ranges_more h groups)
            ∙ get_front (group_ranges groups) ((count groups, count groups + length h.types) ∷ []) k (u.first, u.first + length g.types) u.ids;
        known = omega (arith, count_push h groups);
        types = λ p lt. tree_old h groups (u.first + p) (omega arith) ∙ u.types p lt ∙ ap (λ (t : GroupTree). record { group = t; place = p }) same;
      }

  unfolds_new : (k : ℕ) → k ≡ length groups → Unfolds (h ∷ groups) k h
  unfolds_new k e =
      let same = unfolds_alike (tree_of groups) (tree_of (h ∷ groups)) (count groups) agrees (entries_of h) (group_known (count groups) h c.0 formed.0) in
      record {
        first = count groups;
        ids = ap (λ l. slice_get l k) (ranges_more h groups)
            ∙ get_last (group_ranges groups) (count groups, count groups + length h.types) k (ranges_counted groups ∙ sym e);
        known = omega (arith, count_push h groups);
        types = λ p lt. let place : count groups + p - count groups ≡ p = omega arith in
            tree_new h groups (count groups + p) (omega arith)
            ∙ ap (λ (n : ℕ). record { group = tree_behind groups h; place = n }) place
            ∙ ap (λ (t : GroupTree). record { group = t; place = p }) same;
      }

  unfolds_either : (k : ℕ) (g : Group) (b : Bool) → eqb k (length groups) ≡ b → (group_at groups k ≡ Some g → Unfolds groups k g)
      → cond b (Some h) (group_at groups k) ≡ Some g → Unfolds (h ∷ groups) k g
  unfolds_either k g true is older e = let f : h ≡ g = cc in subst (Unfolds (h ∷ groups) k) f (unfolds_new k (eqb-true k (length groups) is))
  unfolds_either k g false is older e = unfolds_old k g e (older e)

pub group_ids : (groups : List Group) → IsFormed groups → AreCanonical groups → (k : ℕ) (g : Group) → group_at groups k ≡ Some g → Unfolds groups k g
group_ids [] formed c k g e = absurd cc
group_ids (h ∷ groups) formed c k g e =
    unfolds_either h groups formed c k g (eqb k (length groups)) refl (group_ids groups formed.2 c.1 k g) e
