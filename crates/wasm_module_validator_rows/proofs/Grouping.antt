-- The group in which the type of an id stands.
use Rattle.std.proofs.Common.{◌≡◌, ◌∙◌, ◌↔◌, ℕ, zero, suc, ◌+◌, ◌<◌, ◌≤◌, cond, List, [], ◌∷◌, ◌++◌, length, replicate, refl, ap, sym, Some, ⊎_elim, arith}
use Rattle.std.specs.Prelude.{slice_get}
use Rattle.std.proofs.lemmas.Bool.{cases_lt, lt-ltb, le-ltb}
use Rattle.std.proofs.lemmas.List.{length-append, length-replicate}
use Rattle.std.proofs.lemmas.Option.{same_Some}
use Rattle.wasm_types.specs.trees.Unfold.{type_count}
use Rattle.wasm_module_validator_type_storage.specs.trees.Groups.{Group, count, group_numbers, group_ranges}
use Rattle.wasm_module_validator_type_storage.specs.trees.laws.Unrolled.{count_push}
use Rattle.wasm_module_validator_rows.specs.Types.{group_start, group_end}

-- ---- one group more

none_counted : (id : ℕ) → id < count [] → ⊥
unfolding type_count
none_counted id lt = absurd (omega arith)

module _ (g : Group) (earlier : List Group) (id : ℕ) where
  start_old : id < count earlier → group_start (g ∷ earlier) id ≡ group_start earlier id
  start_old lt = ap (λ b. cond b (group_start earlier id) (count earlier)) (lt-ltb id (count earlier) lt)

  start_new : count earlier ≤ id → group_start (g ∷ earlier) id ≡ count earlier
  start_new le = ap (λ b. cond b (group_start earlier id) (count earlier)) (le-ltb id (count earlier) le)

  end_old : id < count earlier → group_end (g ∷ earlier) id ≡ group_end earlier id
  end_old lt = ap (λ b. cond b (group_end earlier id) (count earlier + length g.types)) (lt-ltb id (count earlier) lt)

  end_new : count earlier ≤ id → group_end (g ∷ earlier) id ≡ count earlier + length g.types
  end_new le = ap (λ b. cond b (group_end earlier id) (count earlier + length g.types)) (le-ltb id (count earlier) le)

-- ---- its ids

-- they begin at or before the id, and end behind it
pub record IsAround (groups : List Group) (id : ℕ) : Type 0 where
  pub begins : group_start groups id ≤ id
  pub ends : id < group_end groups id
  pub known : group_end groups id ≤ count groups

pub around : (groups : List Group) (id : ℕ) → id < count groups → IsAround groups id
around [] id lt = absurd (none_counted id lt)
around (g ∷ earlier) id lt =
    let more = count_push g earlier in
    ⊎_elim
    (λ old.
    let a = around earlier id old in
    let b = a.begins in
    let e = a.ends in
    let k = a.known in
    let s = start_old g earlier id old in
    let f = end_old g earlier id old in
    record { begins = omega arith; ends = omega arith; known = omega arith })
    (λ new.
    let s = start_new g earlier id new in
    let f = end_new g earlier id new in
    record { begins = omega arith; ends = omega arith; known = omega arith })
    (cases_lt id (count earlier))

-- a later id is of the same group exactly before its end
pub same_group : (groups : List Group) (id other : ℕ) → id ≤ other → other < count groups → (group_start groups other ≡ group_start groups id) ↔ (other < group_end groups id)
same_group [] id other le lt = absurd (none_counted other lt)
same_group (g ∷ earlier) id other le lt =
    let more = count_push g earlier in
    ⊎_elim
    (λ old.
    let below : id < count earlier = omega arith in
    let s = start_old g earlier id below in
    let t = start_old g earlier other old in
    let f = end_old g earlier id below in
    let h = same_group earlier id other le old in
    (λ e. let w = h.0 (omega arith) in omega arith, λ w. let e = h.1 (omega arith) in omega arith))
    (λ new.
    let t = start_new g earlier other new in
    ⊎_elim
    (λ below.
    let s = start_old g earlier id below in
    let f = end_old g earlier id below in
    let a = around earlier id below in
    let b = a.begins in
    let k = a.known in
    (λ e. absurd (omega arith), λ w. absurd (omega arith)))
    (λ above.
    let s = start_new g earlier id above in
    let f = end_new g earlier id above in
    (λ e. omega arith, λ w. omega arith))
    (cases_lt id (count earlier)))
    (cases_lt other (count earlier))

-- ---- by the number of the group

numbers_push : (g : Group) (earlier : List Group) → group_numbers (g ∷ earlier) ≡ group_numbers earlier ++ replicate (length g.types) (length earlier)
unfolding group_numbers
numbers_push g earlier = refl

ranges_push : (g : Group) (earlier : List Group) → group_ranges (g ∷ earlier) ≡ group_ranges earlier ++ (count earlier, count earlier + length g.types) ∷ []
unfolding group_ranges
ranges_push g earlier = refl

numbers_counted : (groups : List Group) → length (group_numbers groups) ≡ count groups
unfolding group_numbers type_count
numbers_counted [] = refl
numbers_counted (g ∷ earlier) =
    ap length (numbers_push g earlier) ∙ length-append (group_numbers earlier) (replicate (length g.types) (length earlier))
    ∙ omega (arith, numbers_counted earlier, length-replicate (length g.types) (length earlier), count_push g earlier)

ranges_counted : (groups : List Group) → length (group_ranges groups) ≡ length groups
unfolding group_ranges
ranges_counted [] = refl
ranges_counted (g ∷ earlier) =
    ap length (ranges_push g earlier) ∙ length-append (group_ranges earlier) ((count earlier, count earlier + length g.types) ∷ []) ∙ omega (arith, ranges_counted earlier)

get_left : {A : Type 0} (xs ys : List A) (i : ℕ) → i < length xs → slice_get (xs ++ ys) i ≡ slice_get xs i
get_left [] ys i lt = absurd (omega arith)
get_left (z ∷ zs) ys zero lt = refl
get_left (z ∷ zs) ys (suc i) lt = get_left zs ys i (omega arith)

get_replicated : {A : Type 0} (xs : List A) (n i : ℕ) (x : A) → length xs ≤ i → i < length xs + n → slice_get (xs ++ replicate n x) i ≡ Some x
get_replicated [] zero i x le lt = absurd (omega arith)
get_replicated [] (suc n) zero x le lt = refl
get_replicated [] (suc n) (suc i) x le lt = get_replicated [] n i x (omega arith) (omega arith)
get_replicated (z ∷ zs) n zero x le lt = absurd (omega arith)
get_replicated (z ∷ zs) n (suc i) x le lt = get_replicated zs n i x (omega arith) (omega arith)

get_last : {A : Type 0} (xs : List A) (x : A) → slice_get (xs ++ x ∷ []) (length xs) ≡ Some x
get_last [] x = refl
get_last (z ∷ zs) x = get_last zs x

-- the group of this number has these ids
pub record IsNumbered (groups : List Group) (id k : ℕ) : Type 0 where
  pub known : k < length groups
  pub ids : slice_get (group_ranges groups) k ≡ Some (group_start groups id, group_end groups id)

pub numbered : (groups : List Group) (id k : ℕ) → id < count groups → slice_get (group_numbers groups) id ≡ Some k → IsNumbered groups id k
numbered [] id k lt e = absurd (none_counted id lt)
numbered (g ∷ earlier) id k lt e =
    let more = count_push g earlier in
    let n = numbers_counted earlier in
    let r = ranges_counted earlier in
    let news : List ℕ = replicate (length g.types) (length earlier) in
    let own : ℕ × ℕ = (count earlier, count earlier + length g.types) in
    ⊎_elim
    (λ old.
    let below : slice_get (group_numbers earlier) id ≡ Some k =
    sym (get_left (group_numbers earlier) news id (omega arith)) ∙ ap (λ (l : List ℕ). slice_get l id) (sym (numbers_push g earlier)) ∙ e in
    let h = numbered earlier id k old below in
    let kn = h.known in
    let pair : (group_start earlier id, group_end earlier id) ≡ (group_start (g ∷ earlier) id, group_end (g ∷ earlier) id) =
    λ i. (sym (start_old g earlier id old) i, sym (end_old g earlier id old) i) in
    record {
      known = omega arith;
      ids = ap (λ (l : List (ℕ × ℕ)). slice_get l k) (ranges_push g earlier) ∙ get_left (group_ranges earlier) (own ∷ []) k (omega arith) ∙ h.ids ∙ ap Some pair;
    })
    (λ new.
    let here : Some (length earlier) ≡ Some k =
    sym (get_replicated (group_numbers earlier) (length g.types) id (length earlier) (omega arith) (omega arith))
    ∙ ap (λ (l : List ℕ). slice_get l id) (sym (numbers_push g earlier)) ∙ e in
    let last : length earlier ≡ k = same_Some (length earlier) k here in
    let pair : own ≡ (group_start (g ∷ earlier) id, group_end (g ∷ earlier) id) =
    λ i. (sym (start_new g earlier id new) i, sym (end_new g earlier id new) i) in
    record {
      known = omega arith;
      ids = ap (λ (l : List (ℕ × ℕ)). slice_get l k) (ranges_push g earlier)
          ∙ ap (λ (j : ℕ). slice_get (group_ranges earlier ++ own ∷ []) j) (sym last ∙ sym r)
          ∙ get_last (group_ranges earlier) own
          ∙ ap Some pair;
    })
    (cases_lt id (count earlier))
