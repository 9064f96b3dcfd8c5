-- A label that is put to others: behind them, or into a set of numbers.
use Rattle.std.proofs.Common.{◌≡◌, ◌∙◌, ◌==◌, ◌||◌, ◌⊎◌, ℕ, Bool, true, false, List, [], ◌∷◌, ◌++◌, inl, inr, ⊎_elim, refl, sym, subst, arith, Ordering, Result, Ok, Err, OnOk, OnErr}
use Rattle.std.proofs.lemmas.List.Folds.{list_any-append}
use Rattle.std.specs.declared.cmp.Ordering.TheVariants.{Less, Equal, Greater}
use Rattle.std.specs.Ordering.{match_ordering, nat_cmp}
use Rattle.std.specs.BTreeSet.{insert_key}
use Rattle.wasm_operator_validator_locals.specs.labels.Among.{is_among, IsAmong, KeepsOne}

-- ---- a label among numbers

or_cases : (a b : Bool) → (a || b) ≡ true → (a ≡ true) ⊎ (b ≡ true)
or_cases true b e = inl refl
or_cases false b e = inr e

among_parts : (front back : List ℕ) (k : ℕ) → IsAmong k (front ++ back) → IsAmong k front ⊎ IsAmong k back
among_parts front back k e = or_cases (is_among k front) (is_among k back) (sym (list_any-append (λ (x : ℕ). x == k) front back) ∙ e)

or_left : (a b : Bool) → a ≡ true → (a || b) ≡ true
or_left true b e = refl
or_left false b e = cc

or_right : (a b : Bool) → b ≡ true → (a || b) ≡ true
or_right true b e = refl
or_right false b e = e

pub in_front : (front back : List ℕ) (k : ℕ) → IsAmong k front → IsAmong k (front ++ back)
in_front front back k e = list_any-append (λ (x : ℕ). x == k) front back ∙ or_left (is_among k front) (is_among k back) e

pub behind : (front back : List ℕ) (k : ℕ) → IsAmong k back → IsAmong k (front ++ back)
behind front back k e = list_any-append (λ (x : ℕ). x == k) front back ∙ or_right (is_among k front) (is_among k back) e

the_one : (l k : ℕ) → IsAmong k (l ∷ []) → k ≡ l
the_one l k e = by (l == k) refl
  where
    by : (b : Bool) → (l == k) ≡ b → k ≡ l
    by true q = grind arith
    by false q = absurd (let f : false ≡ true = grind arith in cc)

-- ---- behind others

pub keeps_few : (few kept many : List ℕ) (l : ℕ) → kept ≡ few ++ l ∷ [] → KeepsOne (few ++ many) l (kept ++ many)
keeps_few few kept many l q k a = ⊎_elim
    (λ f. ⊎_elim (λ g. inl (in_front few many k g)) (λ g. inr (the_one l k g)) (among_parts few (l ∷ []) k (subst (IsAmong k) q f)))
    (λ b. inl (behind few many k b))
    (among_parts kept many k a)

-- ---- in a set

in_set : (keys : List ℕ) (l k : ℕ) → IsAmong k (insert_key nat_cmp keys l) → IsAmong k keys ⊎ (k ≡ l)
in_set [] l k e = inr (the_one l k e)
in_set (x ∷ keys) l k e = by (nat_cmp l x) e (in_set keys l k)
  where
    first : (x == k) ≡ true → IsAmong k (x ∷ keys)
    first q = or_left (x == k) (is_among k keys) q

    rest : IsAmong k keys → IsAmong k (x ∷ keys)
    rest q = or_right (x == k) (is_among k keys) q

    by : (r : Ordering) → IsAmong k (match_ordering r (l ∷ x ∷ keys) (x ∷ keys) (x ∷ insert_key nat_cmp keys l)) → (IsAmong k (insert_key nat_cmp keys l) → IsAmong k keys ⊎ (k ≡ l))
        → IsAmong k (x ∷ keys) ⊎ (k ≡ l)
    by Less there f = ⊎_elim (λ g. inr (the_one l k g)) (λ g. inl g) (among_parts (l ∷ []) (x ∷ keys) k there)
    by Equal there f = inl there
    by Greater there f = ⊎_elim (λ g. inl (first g)) (λ g. ⊎_elim (λ h. inl (rest h)) (λ h. inr h) (f g)) (or_cases (x == k) (is_among k (insert_key nat_cmp keys l)) there)

keeps_many : (few many kept : List ℕ) (l : ℕ) → kept ≡ insert_key nat_cmp many l → KeepsOne (few ++ many) l (few ++ kept)
keeps_many few many kept l q k a = ⊎_elim
    (λ f. inl (in_front few many k f))
    (λ b. ⊎_elim (λ g. inl (behind few many k g)) (λ g. inr g) (in_set many l k (subst (IsAmong k) q b)))
    (among_parts few kept k a)

-- one for which there may be no memory
pub keeps_tried : {X Y : Type 0} (tried : Result X Y) (few many kept : List ℕ) (l : ℕ) → OnOk tried (kept ≡ insert_key nat_cmp many l) → OnErr tried (kept ≡ many)
    → KeepsOne (few ++ many) l (few ++ kept)
keeps_tried (Ok x) few many kept l q r = keeps_many few many kept l q
keeps_tried (Err y) few many kept l q r = λ k a. inl (subst (λ (ks : List ℕ). IsAmong k (few ++ ks)) r a)
