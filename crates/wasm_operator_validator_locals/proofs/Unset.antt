-- Lists of locals, each once: one more at the end, one less, the first of them; and more locals behind.
use Rattle.std.proofs.Common.{◌≡◌, ◌∙◌, ◌||◌, ◌==◌, ◌++◌, ◌∷◌, ◌<◌, [], ℕ, zero, suc, Bool, true, false, List, length, get_or, Option, Some, None, MatchOption, refl, sym, ap, subst, arith}
use Rattle.std.proofs.lemmas.Bool.{eqb-true, eqb-false, ne_eqb, or_parts, or_from}
use Rattle.std.proofs.lemmas.List.Folds.{list_any-append}
use Rattle.std.proofs.lemmas.List.{get_or_append_left}
use Rattle.wasm_operator_validator_locals.specs.inits.Inits.{is_among}
use Rattle.wasm_operator_validator_locals.specs.inits.Marks.{AreUnset, AreSavedUnset}

or_false : (b : Bool) → (b || false) ≡ b
or_false true = refl
or_false false = refl

pub among_push : (xs : List ℕ) (y k : ℕ) → is_among (xs ++ y ∷ []) k ≡ (is_among xs k || (y == k))
among_push xs y k = list_any-append (λ (x : ℕ). x == k) xs (y ∷ []) ∙ ap (λ (b : Bool). is_among xs k || b) (or_false (y == k))

turned : (x y : ℕ) → (x == y) ≡ false → (y == x) ≡ false
turned x y e = ne_eqb y x (λ h. eqb-false x y e (sym h))

pub unset_push : (first : List Bool) (xs : List ℕ) (y : ℕ) → AreUnset first xs → get_or first y true ≡ false → is_among xs y ≡ false → AreUnset first (xs ++ y ∷ [])
unset_push first [] y u f n = (f, refl, tt)
unset_push first (x ∷ xs) y (g, m, u) f n =
    let (a, b) = or_parts (x == y) (is_among xs y) n in
    (g, among_push xs y x ∙ or_from (is_among xs x) (y == x) m (turned x y a), unset_push first xs y u f b)

abbrev pub AreAllUnset : List Bool → List ℕ → ℕ → Type 0
AreAllUnset first xs y = AreUnset first xs × (get_or first y true ≡ false) × (is_among xs y ≡ false)

pub unset_front : (first : List Bool) (xs : List ℕ) (y : ℕ) → AreUnset first (xs ++ y ∷ []) → AreAllUnset first xs y
unset_front first [] y (f, n, u) = (tt, f, refl)
unset_front first (x ∷ xs) y (g, m, u) =
    let (v, f, n) = unset_front first xs y u in
    let (a, b) = or_parts (is_among xs x) (y == x) (sym (among_push xs y x) ∙ m) in
    ((g, a, v), f, or_from (x == y) (is_among xs y) (turned y x b) n)

pub unset_at : (first : List Bool) (xs : List ℕ) (k : ℕ) → AreUnset first xs → is_among xs k ≡ true → get_or first k true ≡ false
unset_at first [] k u a = cc
unset_at first (x ∷ xs) k (g, m, u) a =
    elim (x == k) as (λ b. (x == k) ≡ b → get_or first k true ≡ false) [
      | true ↦ λ e. (let h : x ≡ k = eqb-true x k e in let g' : get_or first k true ≡ false = rw h at g in g')
      | false ↦ λ e. unset_at first xs k u (let a' : (false || is_among xs k) ≡ true = rw e at a in a')
    ] refl

inside : (first : List Bool) (x : ℕ) → get_or first x true ≡ false → x < length first
inside [] x e = cc
inside (b ∷ first) zero e = omega arith
inside (b ∷ first) (suc x) e = let h = inside first x e in omega arith

pub is_inside : (first : List Bool) (x : ℕ) → get_or first x true ≡ false → x < length first
is_inside first x e = inside first x e

pub unset_more : (first more : List Bool) (xs : List ℕ) → AreUnset first xs → AreUnset (first ++ more) xs
unset_more first more [] u = tt
unset_more first more (x ∷ xs) (g, m, u) = (get_or_append_left first more true x (inside first x g) ∙ g, m, unset_more first more xs u)

pub saved_more : (first more : List Bool) (s : Option (List ℕ)) → AreSavedUnset first s → AreSavedUnset (first ++ more) s
saved_more first more None u = tt
saved_more first more (Some xs) u = unset_more first more xs u

-- each of them is unset
pub unset_get : (first : List Bool) (xs : List ℕ) (i : ℕ) (d : ℕ) → AreUnset first xs → i < length xs → get_or first (get_or xs i d) true ≡ false
unset_get first [] i d u h = absurd (omega arith)
unset_get first (x ∷ xs) zero d u h = u.0
unset_get first (x ∷ xs) (suc i) d u h = unset_get first xs i d u.2 (omega arith)

pub when_some : {A : Type 0} (r : Option A) (x : A) (P : Type 0) (Q : A → Type 0) → r ≡ Some x → MatchOption r P Q → Q x
when_some None x P Q e m = cc
when_some (Some y) x P Q e m = let f : y ≡ x = cc in subst Q f m
