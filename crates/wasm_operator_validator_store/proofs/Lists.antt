-- What holds of each member of a list, or of each and its partner, and still holds where the list changes.
use Rattle.std.specs.Prelude.{option_map, replicate}
use Rattle.std.proofs.Common.{◌≡◌, ℕ, zero, suc, List, [], ◌∷◌, ◌++◌, Option, Some, None, refl, sym, ap, subst, ◌∙◌, ◌+◌, length, map, take, drop, reverse, get_or, slice_get, slice_set, ◌≤◌, unwrap_or, arith}
use mathlib.Core.List.{reverse_aux}
use Rattle.wasm_operator_validator_store.specs.Stores.{front, range, over, placed, changed}
use Rattle.wasm_operator_validator_store.specs.ValidStores.{Each, Pairs}

IsNothing : {A : Type 0} → Option A → Type 0
IsNothing None = Unit {0}
IsNothing (Some y) = ⊥

pub none_some : {A : Type 0} (x : A) → None ≡ Some x → ⊥
unfolding IsNothing
none_some {A} x e = subst (λ (o : Option A). IsNothing o) e tt

pub same_some : {A : Type 0} (x y : A) → Some x ≡ Some y → x ≡ y
same_some x y e = ap (λ o. unwrap_or o x) e

pub map_some : {A B : Type 0} (f : A → B) (o : Option A) (y : B) → option_map f o ≡ Some y → (x : A) × (o ≡ Some x) × (f x ≡ y)
map_some f None y e = absurd (none_some y e)
map_some f (Some x) y e = (x, refl, same_some (f x) y e)

-- ---- one list

module _ {A : Type 0} (P : A → Type 0) where
  pub each_take : (n : ℕ) (xs : List A) → Each P xs → Each P (take n xs)
  each_take zero xs h = tt
  each_take (suc n) [] h = tt
  each_take (suc n) (x ∷ xs) h = (h.0, each_take n xs h.1)

  pub each_drop : (n : ℕ) (xs : List A) → Each P xs → Each P (drop n xs)
  each_drop zero xs h = h
  each_drop (suc n) [] h = tt
  each_drop (suc n) (x ∷ xs) h = each_drop n xs h.1

  pub each_append : (xs ys : List A) → Each P xs → Each P ys → Each P (xs ++ ys)
  each_append [] ys h k = k
  each_append (x ∷ xs) ys h k = (h.0, each_append xs ys h.1 k)

  pub each_reverse_onto : (xs ys : List A) → Each P xs → Each P ys → Each P (reverse_aux xs ys)
  each_reverse_onto [] ys h k = k
  each_reverse_onto (x ∷ xs) ys h k = each_reverse_onto xs (x ∷ ys) h.1 (h.0, k)

  pub each_reverse : (xs : List A) → Each P xs → Each P (reverse xs)
  each_reverse xs h = each_reverse_onto xs [] h tt

  pub each_replicate : (n : ℕ) (x : A) → P x → Each P (replicate n x)
  each_replicate zero x h = tt
  each_replicate (suc n) x h = (h, each_replicate n x h)

  pub each_get : (xs : List A) (i : ℕ) (x : A) → Each P xs → slice_get xs i ≡ Some x → P x
  each_get [] i x h e = absurd (none_some x e)
  each_get (y ∷ ys) zero x h e = subst P (same_some y x e) h.0
  each_get (y ∷ ys) (suc i) x h e = each_get ys i x h.1 e

  pub each_get_or : (xs : List A) (i : ℕ) (d : A) → Each P xs → P d → P (get_or xs i d)
  each_get_or [] i d h k = k
  each_get_or (y ∷ ys) zero d h k = h.0
  each_get_or (y ∷ ys) (suc i) d h k = each_get_or ys i d h.1 k

  pub each_set : (xs : List A) (i : ℕ) (x : A) → Each P xs → P x → Each P (slice_set xs i x)
  each_set [] i x h k = tt
  each_set (y ∷ ys) zero x h k = (k, h.1)
  each_set (y ∷ ys) (suc i) x h k = (h.0, each_set ys i x h.1 k)

  pub each_changed : (f : A → A) (xs : List A) (k : ℕ) → Each P xs → ((x : A) → slice_get xs k ≡ Some x → P (f x)) → Each P (changed f xs k)
  each_changed f [] k h g = tt
  each_changed f (x ∷ xs) zero h g = (g x refl, h.1)
  each_changed f (x ∷ xs) (suc k) h g = (h.0, each_changed f xs k h.1 g)

  pub each_front : (n : ℕ) (xs ys : List A) → Each P xs → front n xs ≡ Some ys → Each P ys
  each_front zero xs ys h e = subst (Each P) (same_some [] ys e) tt
  each_front (suc n) [] ys h e = absurd (none_some ys e)
  each_front (suc n) (x ∷ xs) ys h e =
      let k = map_some (λ zs. x ∷ zs) (front n xs) ys e in
      subst (Each P) k.2 (h.0, each_front n xs k.0 h.1 k.1)

  pub each_range : (xs : List A) (i n : ℕ) (ys : List A) → Each P xs → range xs i n ≡ Some ys → Each P ys
  each_range [] zero n ys h e = each_front n [] ys h e
  each_range (x ∷ xs) zero n ys h e = each_front n (x ∷ xs) ys h e
  each_range [] (suc i) n ys h e = absurd (none_some ys e)
  each_range (x ∷ xs) (suc i) n ys h e = each_range xs i n ys h.1 e

  pub each_over : (ys xs zs : List A) → Each P xs → Each P ys → over ys xs ≡ Some zs → Each P zs
  each_over [] xs zs h k e = subst (Each P) (same_some xs zs e) h
  each_over (y ∷ ys) [] zs h k e = absurd (none_some zs e)
  each_over (y ∷ ys) (x ∷ xs) zs h k e =
      let m = map_some (λ ws. y ∷ ws) (over ys xs) zs e in
      subst (Each P) m.2 (k.0, each_over ys xs m.0 h.1 k.1 m.1)

  pub each_placed : (xs : List A) (i : ℕ) (ys zs : List A) → Each P xs → Each P ys → placed xs i ys ≡ Some zs → Each P zs
  each_placed [] zero ys zs h k e = each_over ys [] zs h k e
  each_placed (x ∷ xs) zero ys zs h k e = each_over ys (x ∷ xs) zs h k e
  each_placed [] (suc i) ys zs h k e = absurd (none_some zs e)
  each_placed (x ∷ xs) (suc i) ys zs h k e =
      let m = map_some (λ ws. x ∷ ws) (placed xs i ys) zs e in
      subst (Each P) m.2 (h.0, each_placed xs i ys m.0 h.1 k m.1)

pub each_map : {A : Type 0} (P Q : A → Type 0) (xs : List A) → ((x : A) → P x → Q x) → Each P xs → Each Q xs
each_map P Q [] f h = tt
each_map P Q (x ∷ xs) f h = (f x h.0, each_map P Q xs f h.1)

-- ---- two lists

module _ {A B : Type 0} (P : A → B → Type 0) where
  pub pairs_get : (xs : List A) (ys : List B) (i : ℕ) (x : A) → Pairs P xs ys → slice_get xs i ≡ Some x → (y : B) × (slice_get ys i ≡ Some y) × P x y
  pairs_get [] [] i x h e = absurd (none_some x e)
  pairs_get [] (y ∷ ys) i x h e = absurd h
  pairs_get (z ∷ xs) [] i x h e = absurd h
  pairs_get (z ∷ xs) (y ∷ ys) zero x h e = (y, refl, subst (λ w. P w y) (same_some z x e) h.0)
  pairs_get (z ∷ xs) (y ∷ ys) (suc i) x h e = pairs_get xs ys i x h.1 e

  pub pairs_set : (xs : List A) (ys : List B) (i : ℕ) (x : A) (y : B) → Pairs P xs ys → slice_get xs i ≡ Some x → P x y → Pairs P xs (slice_set ys i y)
  pairs_set [] [] i x y h e k = tt
  pairs_set [] (w ∷ ys) i x y h e k = absurd h
  pairs_set (z ∷ xs) [] i x y h e k = absurd h
  pairs_set (z ∷ xs) (w ∷ ys) zero x y h e k = (subst (λ v. P v y) (sym (same_some z x e)) k, h.1)
  pairs_set (z ∷ xs) (w ∷ ys) (suc i) x y h e k = (h.0, pairs_set xs ys i x y h.1 e k)

pub pairs_map : {A B : Type 0} (P Q : A → B → Type 0) (xs : List A) (ys : List B) → ((x : A) (y : B) → P x y → Q x y) → Pairs P xs ys → Pairs Q xs ys
pairs_map P Q [] [] f h = tt
pairs_map P Q [] (y ∷ ys) f h = h
pairs_map P Q (x ∷ xs) [] f h = h
pairs_map P Q (x ∷ xs) (y ∷ ys) f h = (f x y h.0, pairs_map P Q xs ys f h.1)

-- ---- what is there

module _ {A : Type 0} where
  pub get_append : (xs ys : List A) (i : ℕ) (x : A) → slice_get xs i ≡ Some x → slice_get (xs ++ ys) i ≡ Some x
  get_append [] ys i x e = absurd (none_some x e)
  get_append (z ∷ xs) ys zero x e = e
  get_append (z ∷ xs) ys (suc i) x e = get_append xs ys i x e

  pub get_last : (xs : List A) (x : A) → slice_get (xs ++ x ∷ []) (length xs) ≡ Some x
  get_last [] x = refl
  get_last (z ∷ xs) x = get_last xs x

  pub get_or_there : (xs : List A) (i : ℕ) (x d : A) → slice_get xs i ≡ Some x → get_or xs i d ≡ x
  get_or_there [] i x d e = absurd (none_some x e)
  get_or_there (z ∷ xs) zero x d e = same_some z x e
  get_or_there (z ∷ xs) (suc i) x d e = get_or_there xs i x d e

  -- where one is replaced, the others are as they were, by a relation to what was there
  pub get_set_by : (R : A → A → Type 0) (xs : List A) (k : ℕ) (o q : A) → ((x : A) → R x x) → slice_get xs k ≡ Some o → R o q
      → (i : ℕ) (x : A) → slice_get xs i ≡ Some x → (y : A) × (slice_get (slice_set xs k q) i ≡ Some y) × R x y
  get_set_by R [] k o q same e r i x h = absurd (none_some x h)
  get_set_by R (w ∷ xs) zero o q same e r zero x h = (q, refl, subst (λ v. R v q) (sym (same_some w o e) ∙ same_some w x h) r)
  get_set_by R (w ∷ xs) zero o q same e r (suc i) x h = (x, h, same x)
  get_set_by R (w ∷ xs) (suc k) o q same e r zero x h = (x, h, same x)
  get_set_by R (w ∷ xs) (suc k) o q same e r (suc i) x h = get_set_by R xs k o q same e r i x h

  -- by one that each is related to
  pub get_set_any : (R : A → A → Type 0) (xs : List A) (k : ℕ) (q : A) → ((x : A) → R x x) → ((x : A) → R x q)
      → (i : ℕ) (x : A) → slice_get xs i ≡ Some x → (y : A) × (slice_get (slice_set xs k q) i ≡ Some y) × R x y
  get_set_any R [] k q same r i x h = absurd (none_some x h)
  get_set_any R (w ∷ xs) zero q same r zero x h = (q, refl, r x)
  get_set_any R (w ∷ xs) zero q same r (suc i) x h = (x, h, same x)
  get_set_any R (w ∷ xs) (suc k) q same r zero x h = (x, h, same x)
  get_set_any R (w ∷ xs) (suc k) q same r (suc i) x h = get_set_any R xs k q same r i x h

  -- where one is changed
  pub get_changed_by : (R : A → A → Type 0) (f : A → A) (xs : List A) (k : ℕ) → ((x : A) → R x x) → ((x : A) → slice_get xs k ≡ Some x → R x (f x))
      → (i : ℕ) (x : A) → slice_get xs i ≡ Some x → (y : A) × (slice_get (changed f xs k) i ≡ Some y) × R x y
  get_changed_by R f [] k same r i x h = absurd (none_some x h)
  get_changed_by R f (w ∷ xs) zero same r zero x h = (f w, refl, subst (λ v. R v (f w)) (same_some w x h) (r w refl))
  get_changed_by R f (w ∷ xs) zero same r (suc i) x h = (x, h, same x)
  get_changed_by R f (w ∷ xs) (suc k) same r zero x h = (x, h, same x)
  get_changed_by R f (w ∷ xs) (suc k) same r (suc i) x h = get_changed_by R f xs k same r i x h

pub over_length : {A : Type 0} (ys xs zs : List A) → over ys xs ≡ Some zs → length zs ≡ length xs
over_length [] xs zs e = ap length (sym (same_some xs zs e))
over_length (y ∷ ys) [] zs e = absurd (none_some zs e)
over_length (y ∷ ys) (x ∷ xs) zs e = let m = map_some (λ ws. y ∷ ws) (over ys xs) zs e in ap length (sym m.2) ∙ ap suc (over_length ys xs m.0 m.1)

pub placed_length : {A : Type 0} (xs : List A) (i : ℕ) (ys zs : List A) → placed xs i ys ≡ Some zs → length zs ≡ length xs
placed_length [] zero ys zs e = over_length ys [] zs e
placed_length (x ∷ xs) zero ys zs e = over_length ys (x ∷ xs) zs e
placed_length [] (suc i) ys zs e = absurd (none_some zs e)
placed_length (x ∷ xs) (suc i) ys zs e = let m = map_some (λ ws. x ∷ ws) (placed xs i ys) zs e in ap length (sym m.2) ∙ ap suc (placed_length xs i ys m.0 m.1)

pub take_length : {A : Type 0} (k : ℕ) (xs : List A) → length (take k xs) ≤ k
take_length zero xs = omega arith
take_length (suc k) [] = omega arith
take_length (suc k) (x ∷ xs) = omega (arith, take_length k xs)

pub pairs_get_or : {A B : Type 0} (P : A → B → Type 0) (Q : B → Type 0) (d : B) → ((x : A) (y : B) → P x y → Q y) → Q d → (xs : List A) (ys : List B) (i : ℕ) → Pairs P xs ys → Q (get_or ys i d)
pairs_get_or P Q d f k [] [] i h = k
pairs_get_or P Q d f k [] (y ∷ ys) i h = absurd h
pairs_get_or P Q d f k (x ∷ xs) [] i h = absurd h
pairs_get_or P Q d f k (x ∷ xs) (y ∷ ys) zero h = f x y h.0
pairs_get_or P Q d f k (x ∷ xs) (y ∷ ys) (suc i) h = pairs_get_or P Q d f k xs ys i h.1

pub each_one : {A : Type 0} (Q : A → Type 0) (d : A) (xs : List A) → Q (get_or xs 0 d) → Each Q (take 1 xs)
each_one Q d [] h = tt
each_one Q d (x ∷ xs) h = (h, tt)

pub pairs_each : {A B : Type 0} (P : A → B → Type 0) (Q : B → Type 0) → ((x : A) (y : B) → P x y → Q y) → (xs : List A) (ys : List B) → Pairs P xs ys → Each Q ys
pairs_each P Q f [] [] h = tt
pairs_each P Q f [] (y ∷ ys) h = absurd h
pairs_each P Q f (x ∷ xs) [] h = absurd h
pairs_each P Q f (x ∷ xs) (y ∷ ys) h = (f x y h.0, pairs_each P Q f xs ys h.1)

-- ---- lists that are joined, taken apart and made of others

pub get_map : {A B : Type 0} (f : A → B) (xs : List A) (i : ℕ) (x : A) → slice_get xs i ≡ Some x → slice_get (map f xs) i ≡ Some (f x)
get_map f [] i x e = absurd (none_some x e)
get_map f (y ∷ xs) zero x e = ap (λ z. Some (f z)) (same_some y x e)
get_map f (y ∷ xs) (suc i) x e = get_map f xs i x e

pub get_past : {A : Type 0} (xs ys : List A) (i : ℕ) (y : A) → slice_get ys i ≡ Some y → slice_get (xs ++ ys) (length xs + i) ≡ Some y
get_past [] ys i y e = let same : i ≡ 0 + i = omega arith in subst (λ n. slice_get ys n ≡ Some y) same e
get_past (x ∷ xs) ys i y e =
    let same : suc (length xs + i) ≡ suc (length xs) + i = omega arith in
    subst (λ n. slice_get (x ∷ (xs ++ ys)) n ≡ Some y) same (get_past xs ys i y e)

pub get_drop : {A : Type 0} (n : ℕ) (xs : List A) (i : ℕ) (x : A) → slice_get (drop n xs) i ≡ Some x → slice_get xs (n + i) ≡ Some x
get_drop zero xs i x e = let same : i ≡ 0 + i = omega arith in subst (λ n. slice_get xs n ≡ Some x) same e
get_drop (suc n) [] i x e = absurd (none_some x e)
get_drop (suc n) (y ∷ xs) i x e =
    let same : suc (n + i) ≡ suc n + i = omega arith in
    subst (λ k. slice_get (y ∷ xs) k ≡ Some x) same (get_drop n xs i x e)

pub each_from : {A : Type 0} (P : A → Type 0) (xs : List A) → ((i : ℕ) (x : A) → slice_get xs i ≡ Some x → P x) → Each P xs
each_from P [] h = tt
each_from P (x ∷ xs) h = (h 0 x refl, each_from P xs (λ i y e. h (suc i) y e))

pub each_of_map : {A B : Type 0} (P : B → Type 0) (f : A → B) (xs : List A) → ((x : A) → P (f x)) → Each P (map f xs)
each_of_map P f [] h = tt
each_of_map P f (x ∷ xs) h = (h x, each_of_map P f xs h)

pub pairs_of_map : {A B : Type 0} (P : A → B → Type 0) (f : A → B) (xs : List A) → ((x : A) → P x (f x)) → Pairs P xs (map f xs)
pairs_of_map P f [] h = tt
pairs_of_map P f (x ∷ xs) h = (h x, pairs_of_map P f xs h)

module _ {A B : Type 0} (P : A → B → Type 0) where
  pub pairs_take : (n : ℕ) (xs : List A) (ys : List B) → Pairs P xs ys → Pairs P (take n xs) (take n ys)
  pairs_take zero xs ys h = tt
  pairs_take (suc n) [] [] h = tt
  pairs_take (suc n) [] (y ∷ ys) h = absurd h
  pairs_take (suc n) (x ∷ xs) [] h = absurd h
  pairs_take (suc n) (x ∷ xs) (y ∷ ys) h = (h.0, pairs_take n xs ys h.1)

  pub pairs_more : (n : ℕ) (xs : List A) (ys : List B) (x : A) (y : B) → slice_get xs n ≡ Some x → P x y → Pairs P (take n xs) ys → Pairs P (take (suc n) xs) (ys ++ y ∷ [])
  pairs_more n [] ys x y e k h = absurd (none_some x e)
  pairs_more zero (z ∷ xs) [] x y e k h = (subst (λ w. P w y) (sym (same_some z x e)) k, tt)
  pairs_more zero (z ∷ xs) (w ∷ ys) x y e k h = absurd h
  pairs_more (suc n) (z ∷ xs) [] x y e k h = absurd h
  pairs_more (suc n) (z ∷ xs) (w ∷ ys) x y e k h = (h.0, pairs_more n xs ys x y e k h.1)

  pub pairs_join : (n : ℕ) (xs : List A) (ys zs : List B) → Pairs P (take n xs) ys → Pairs P (drop n xs) zs → Pairs P xs (ys ++ zs)
  pairs_join zero xs [] zs h k = k
  pairs_join zero xs (y ∷ ys) zs h k = absurd h
  pairs_join (suc n) [] [] zs h k = k
  pairs_join (suc n) [] (y ∷ ys) zs h k = absurd h
  pairs_join (suc n) (x ∷ xs) [] zs h k = absurd h
  pairs_join (suc n) (x ∷ xs) (y ∷ ys) zs h k = (h.0, pairs_join n xs ys zs h.1 k)
