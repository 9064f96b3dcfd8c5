-- The group that the type of an id stands in: its ids, its types as they are stored, and what they unroll to.
use Rattle.std.proofs.Common.{◌≡◌, ◌∙◌, ℕ, zero, suc, ◌+◌, ◌-◌, ◌<◌, ◌≤◌, List, [], ◌∷◌, ◌++◌, length, map, get_or, replicate, refl, ap, sym, subst, Some, ⊎_elim, arith}
use Rattle.std.specs.Prelude.{slice_get}
use Rattle.std.proofs.lemmas.Bool.{cases_lt}
use Rattle.std.proofs.lemmas.List.{length-append, get_or-map, get_or_append_left, get_or-append_right}
use Rattle.wasm_types.specs.trees.Unfold.{type_count}
use Rattle.wasm_types.specs.Entries.{Declared}
use Rattle.wasm_types.specs.Remap.{declared_map}
use Rattle.wasm_module_validator_type_storage.specs.trees.Groups.{Group, count, tree_of, tree_behind, by_id, declared_by_id, group_numbers, group_ranges}
use Rattle.wasm_module_validator_type_storage.specs.trees.Formed.{IsGroupFormed, IsFormed}
use Rattle.wasm_module_validator_type_storage.specs.trees.laws.Unrolled.{count_push, tree_old, tree_new}
use Rattle.wasm_module_validator_type_storage.specs.trees.laws.Ids.{stored_push, length_stored}
use Rattle.wasm_module_validator_resources.specs.laws.Trees.{none_counted}

-- the group number k holds the type of the id: its ids begin at `first`, behind the groups `earlier`
pub record IsHome (groups : List Group) (id k first : ℕ) (g : Group) (earlier : List Group) : Type 0 where
  pub old : k < length groups
  pub range : slice_get (group_ranges groups) k ≡ Some (first, first + length g.types)
  pub begins : first ≤ id
  pub ends : id < first + length g.types
  pub known : first + length g.types ≤ count groups
  pub trees : (p : ℕ) → p < length g.types → tree_of groups (first + p) ≡ record { group = tree_behind earlier g; place = p }
  pub stored : (p : ℕ) (d : Declared) → p < length g.types → get_or (declared_by_id groups) (first + p) d ≡ declared_map (by_id first) (get_or g.types p d)
  pub formed : IsGroupFormed first g

pub record Home (groups : List Group) (id : ℕ) : Type 0 where
  pub number : ℕ
  pub first : ℕ
  pub group : Group
  pub earlier : List Group
  pub numbered : slice_get (group_numbers groups) id ≡ Some number
  pub is : IsHome groups id number first group earlier

-- ---- lists

get_left : {A : Type 0} (xs ys : List A) (i : ℕ) (x : A) → slice_get xs i ≡ Some x → slice_get (xs ++ ys) i ≡ Some x
get_left [] ys i x e = absurd cc
get_left (z ∷ zs) ys zero x e = e
get_left (z ∷ zs) ys (suc i) x e = get_left zs ys i x e

get_replicated : {A : Type 0} (xs : List A) (n i : ℕ) (x : A) → length xs ≤ i → i < length xs + n → slice_get (xs ++ replicate n x) i ≡ Some x
get_replicated [] zero i x le lt = absurd (omega arith)
get_replicated [] (suc n) zero x le lt = refl
get_replicated [] (suc n) (suc i) x le lt = get_replicated [] n i x (omega arith) (omega arith)
get_replicated (z ∷ zs) n zero x le lt = absurd (omega arith)
get_replicated (z ∷ zs) n (suc i) x le lt = get_replicated zs n i x (omega arith) (omega arith)

get_last : {A : Type 0} (xs : List A) (x : A) → slice_get (xs ++ x ∷ []) (length xs) ≡ Some x
get_last [] x = refl
get_last (z ∷ zs) x = get_last zs x

length_replicated : {A : Type 0} (n : ℕ) (x : A) → length (replicate n x) ≡ n
length_replicated zero x = refl
length_replicated (suc n) x = ap suc (length_replicated n x)

-- ---- numbers and ranges

numbers_push : (g : Group) (earlier : List Group) → group_numbers (g ∷ earlier) ≡ group_numbers earlier ++ replicate (length g.types) (length earlier)
unfolding group_numbers
numbers_push g earlier = refl

ranges_push : (g : Group) (earlier : List Group) → group_ranges (g ∷ earlier) ≡ group_ranges earlier ++ (count earlier, count earlier + length g.types) ∷ []
unfolding group_ranges
ranges_push g earlier = refl

numbers_counted : (groups : List Group) → length (group_numbers groups) ≡ count groups
unfolding group_numbers type_count
numbers_counted [] = refl
numbers_counted (g ∷ earlier) =
    ap length (numbers_push g earlier) ∙ length-append (group_numbers earlier) (replicate (length g.types) (length earlier))
    ∙ omega (arith, numbers_counted earlier, length_replicated (length g.types) (length earlier), count_push g earlier)

ranges_counted : (groups : List Group) → length (group_ranges groups) ≡ length groups
unfolding group_ranges
ranges_counted [] = refl
ranges_counted (g ∷ earlier) =
    ap length (ranges_push g earlier) ∙ length-append (group_ranges earlier) ((count earlier, count earlier + length g.types) ∷ []) ∙ omega (arith, ranges_counted earlier)

-- ---- homes

old_home : (g : Group) (earlier : List Group) (id : ℕ) → id < count earlier → Home earlier id → Home (g ∷ earlier) id
old_home g earlier id lt h =
    let pushed = count_push g earlier in
    let long = length_stored earlier in
    let at = h.is.known in
    let number = h.is.old in
    let news : List Declared = map (declared_map (by_id (count earlier))) g.types in
    record {
      number = h.number;
      first = h.first;
      group = h.group;
      earlier = h.earlier;
      numbered = subst (λ (l : List ℕ). slice_get l id ≡ Some h.number) (sym (numbers_push g earlier)) (get_left (group_numbers earlier) _ id h.number h.numbered);
      is = record {
        old = omega arith;
        range = subst (λ (l : List (ℕ × ℕ)). slice_get l h.number ≡ Some (h.first, h.first + length h.group.types)) (sym (ranges_push g earlier))
            (get_left (group_ranges earlier) _ h.number (h.first, h.first + length h.group.types) h.is.range);
        begins = h.is.begins;
        ends = h.is.ends;
        known = omega arith;
        trees = λ p l. tree_old g earlier (h.first + p) (omega arith) ∙ h.is.trees p l;
        stored = λ p d l. ap (λ (x : List Declared). get_or x (h.first + p) d) (stored_push g earlier)
            ∙ get_or_append_left (declared_by_id earlier) news d (h.first + p) (omega arith) ∙ h.is.stored p d l;
        formed = h.is.formed;
      };
    }

new_home : (g : Group) (earlier : List Group) (id : ℕ) → IsFormed (g ∷ earlier) → count earlier ≤ id → id < count (g ∷ earlier) → Home (g ∷ earlier) id
new_home g earlier id formed le lt =
    let pushed = count_push g earlier in
    let n : ℕ = count earlier in
    let news : List Declared = map (declared_map (by_id n)) g.types in
    record {
      number = length earlier;
      first = n;
      group = g;
      earlier = earlier;
      numbered = subst (λ (l : List ℕ). slice_get l id ≡ Some (length earlier)) (sym (numbers_push g earlier))
          (let long = numbers_counted earlier in get_replicated (group_numbers earlier) (length g.types) id (length earlier) (omega arith) (omega arith));
      is = record {
        old = omega arith;
        range = ap (λ (l : List (ℕ × ℕ)). slice_get l (length earlier)) (ranges_push g earlier)
            ∙ ap (λ (k : ℕ). slice_get (group_ranges earlier ++ (n, n + length g.types) ∷ []) k) (sym (ranges_counted earlier))
            ∙ get_last (group_ranges earlier) (n, n + length g.types);
        begins = le;
        ends = omega arith;
        known = omega arith;
        trees = λ p l. let place : n + p - n ≡ p = omega arith in
            tree_new g earlier (n + p) (omega arith) ∙ ap (λ (k : ℕ). record { group = tree_behind earlier g; place = k }) place;
        stored = λ p d l. let place : n + p - n ≡ p = omega arith in
            ap (λ (x : List Declared). get_or x (n + p) d) (stored_push g earlier)
            ∙ get_or-append_right (declared_by_id earlier) news n (n + p) d (length_stored earlier) (omega arith)
            ∙ ap (λ (k : ℕ). get_or news k d) place
            ∙ get_or-map (declared_map (by_id n)) g.types p d d l;
        formed = formed.0;
      };
    }

pub home_of : (groups : List Group) → IsFormed groups → (id : ℕ) → id < count groups → Home groups id
home_of [] formed id lt = absurd (none_counted id lt)
home_of (g ∷ earlier) formed id lt = ⊎_elim
    (λ old. old_home g earlier id old (home_of earlier formed.2 id old))
    (λ new. new_home g earlier id formed new lt)
    (cases_lt id (count earlier))
