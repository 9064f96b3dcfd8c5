-- Laws: what a list has after a number was put into it, and what holds of each two of its numbers.
use Rattle.std.specs.Prelude.{◌≡◌, ◌⊎◌, ℕ, zero, suc, ◌+◌, ◌<◌, List, [], ◌∷◌, ◌++◌, length, All, AllPairs, Contains}
use Rattle.std.specs.declared.cmp.Ordering.{Ordering}
use Rattle.std.specs.declared.cmp.Ordering.TheVariants.{Less, Equal, Greater}
use Rattle.std.proofs.Common.{refl, sym, ap, subst, inl, inr, ⊎_elim, get_or, arith}
use Rattle.std.proofs.lemmas.List.{length-append, get_or_append_left}
use Rattle.std.proofs.lemmas.List.Elements.{All-cons, All-head, All-tail, All-append, All-same, All-weaker}
use Rattle.std.proofs.lemmas.List.Elements.{All-contains, All-contains_itself, Contains-append_left, Contains-append_right, Contains-append_cases}
use Rattle.std.proofs.lemmas.List.Kept.{AllPairs-cons}
use Rattle.wasm_module_validator_type_storage.specs.ordered.Order.{Ascends, Misses, IsPut}

-- what holds of each two numbers of a list, holds of each two of those behind the first
module _ {X : Type 0} (R : X → X → Type 0) where
  pub pairs_head : (x : X) (xs : List X) → AllPairs R (x ∷ xs) → All (R x) xs
  pairs_head x xs h k d lt = h zero (suc k) d (omega arith) (omega arith)

  pub pairs_tail : (x : X) (xs : List X) → AllPairs R (x ∷ xs) → AllPairs R xs
  pairs_tail x xs h i j d lt within = h (suc i) (suc j) d (omega arith) (omega arith)

module _ {X : Type 0} (P : X → Type 0) where
  pub all_left : (xs ys : List X) → All P (xs ++ ys) → All P xs
  all_left xs ys h k d lt = let long = length-append xs ys in subst P (get_or_append_left xs ys d k lt) (h k d (omega arith))

  pub all_right : (xs ys : List X) → All P (xs ++ ys) → All P ys
  all_right [] ys h = h
  all_right (x ∷ xs) ys h = all_right xs ys (All-tail P x (xs ++ ys) h)

-- a list stays in order where `n` is put between those that go before it and those that it goes before
pub pairs_between : {X : Type 0} (R : X → X → Type 0) (n : X) (before after : List X) → AllPairs R (before ++ after)
    → All (λ m. R m n) before → All (R n) after → AllPairs R (before ++ n ∷ after)
pairs_between R n [] after pairs fore aft = AllPairs-cons R n after aft pairs
pairs_between R n (b ∷ before) after pairs fore aft =
    let heads = pairs_head R b (before ++ after) pairs in
    let rest = pairs_between R n before after (pairs_tail R b (before ++ after) pairs) (All-tail (λ m. R m n) b before fore) aft in
    let all = All-append (R b) before (n ∷ after) (all_left (R b) before after heads)
    (All-cons (R b) n after (All-head (λ m. R m n) b before fore) (all_right (R b) before after heads)) in
    AllPairs-cons R b (before ++ n ∷ after) all rest

module _ {order : ℕ → Ordering} {n : ℕ} {old new : List ℕ} (put : IsPut order n old new) where
  pub put_misses : Misses order old
  unfolding Misses
  put_misses =
      let P : ℕ → Type 0 = λ m. order m ≡ Equal → ⊥ in
      All-same P old (put.before ++ put.after) put.was
      (All-append P put.before put.after
      (All-weaker (λ m. order m ≡ Less) P (λ m h e. cc) put.before put.less)
      (All-weaker (λ m. order m ≡ Greater) P (λ m h e. cc) put.after put.greater))

  pub put_length : length new ≡ length old + 1
  put_length = omega (arith, ap length put.was, ap length put.is, length-append put.before put.after, length-append put.before (n ∷ put.after))

  -- what is in the list now: what was in it, and the number
  pub put_has : Contains new n
  put_has = subst (λ ns. Contains ns n) (sym put.is) (Contains-append_right put.before (n ∷ put.after) n (zero, omega arith, refl))

  pub put_keeps : (m : ℕ) → Contains old m → Contains new m
  put_keeps m h =
      subst (λ ns. Contains ns m) (sym put.is)
      (⊎_elim (λ left. Contains-append_left put.before (n ∷ put.after) m left)
      (λ right. Contains-append_right put.before (n ∷ put.after) m (Contains-append_right (n ∷ []) put.after m right))
      (Contains-append_cases put.before put.after m (subst (λ ns. Contains ns m) put.was h)))

  pub put_cases : (m : ℕ) → Contains new m → Contains old m ⊎ (n ≡ m)
  put_cases m h =
      let back : Contains (put.before ++ put.after) m → Contains old m = subst (λ ns. Contains ns m) (sym put.was) in
      ⊎_elim (λ left. inl (back (Contains-append_left put.before put.after m left)))
      (λ right. ⊎_elim (λ first. inr (at_one first)) (λ rest. inl (back (Contains-append_right put.before put.after m rest)))
      (Contains-append_cases (n ∷ []) put.after m right))
      (Contains-append_cases put.before (n ∷ put.after) m (subst (λ ns. Contains ns m) put.is h))
    where
      at_one : {m : ℕ} → Contains (n ∷ []) m → n ≡ m
      at_one {m} (zero, lt, e) = e
      at_one {m} (suc k, lt, e) = absurd (omega (arith, lt))

  pub put_all : (P : ℕ → Type 0) → All P old → P n → All P new
  put_all P all it =
      let both = All-same P (put.before ++ put.after) old (sym put.was) all in
      All-same P new (put.before ++ n ∷ put.after) put.is
      (All-append P put.before (n ∷ put.after) (all_left P put.before put.after both) (All-cons P n put.after it (all_right P put.before put.after both)))

  -- what holds of each two numbers, the former before the latter, where it holds of the number beside those that are less and greater
  pub put_pairs : (R : ℕ → ℕ → Type 0) → AllPairs R old → ((m : ℕ) → Contains old m → order m ≡ Less → R m n)
      → ((m : ℕ) → Contains old m → order m ≡ Greater → R n m) → AllPairs R new
  put_pairs R pairs fore aft =
      let in_old : (m : ℕ) → Contains (put.before ++ put.after) m → Contains old m = λ m. subst (λ ns. Contains ns m) (sym put.was) in
      let left : All (λ m. R m n) put.before = λ k d lt. fore _ (in_old _ (Contains-append_left put.before put.after _ (All-contains_itself put.before k d lt))) (put.less k d lt) in
      let right : All (R n) put.after = λ k d lt. aft _ (in_old _ (Contains-append_right put.before put.after _ (All-contains_itself put.after k d lt))) (put.greater k d lt) in
      subst (AllPairs R) (sym put.is) (pairs_between R n put.before put.after (subst (AllPairs R) put.was pairs) left right)

-- numbers that stand in an order of their own ascend beside what is sought
pub ascends_by : (R : ℕ → ℕ → Type 0) (order : ℕ → Ordering) (ns : List ℕ) → AllPairs R ns
    → ((a b : ℕ) → Contains ns a → Contains ns b → R a b → (order a ≡ Less) ⊎ (order b ≡ Greater)) → Ascends order ns
unfolding Ascends
ascends_by R order ns pairs each i j d lt within =
    each _ _ (All-contains_itself ns i d (omega arith)) (All-contains_itself ns j d within) (pairs i j d lt within)

-- where no number is equal, none of them is
pub misses_each : (order : ℕ → Ordering) (ns : List ℕ) (n : ℕ) → Misses order ns → Contains ns n → order n ≡ Equal → ⊥
unfolding Misses
misses_each order ns n none has = All-contains (λ m. order m ≡ Equal → ⊥) ns n none has

pub misses_all : (order : ℕ → Ordering) (ns : List ℕ) → ((n : ℕ) → Contains ns n → order n ≡ Equal → ⊥) → Misses order ns
unfolding Misses
misses_all order ns each k d lt = each _ (All-contains_itself ns k d lt)

-- one that is less stands before any list that ascends, and any stands before those that are greater
pub ascends_less : (order : ℕ → Ordering) (n : ℕ) (ns : List ℕ) → order n ≡ Less → Ascends order ns → Ascends order (n ∷ ns)
unfolding Ascends
ascends_less order n ns it rest = AllPairs-cons (λ a b. (order a ≡ Less) ⊎ (order b ≡ Greater)) n ns (λ k d lt. inl it) rest

pub ascends_greater : (order : ℕ → Ordering) (n : ℕ) (ns : List ℕ) → All (λ m. order m ≡ Greater) ns → Ascends order (n ∷ ns)
unfolding Ascends
ascends_greater order n ns all =
    let R : ℕ → ℕ → Type 0 = λ a b. (order a ≡ Less) ⊎ (order b ≡ Greater) in
    λ i j d lt within. inr (later i j d lt within)
  where
    later : (i j d : ℕ) → i < j → j < length (n ∷ ns) → order (get_or (n ∷ ns) j d) ≡ Greater
    later i zero d lt within = absurd (omega (arith, lt))
    later i (suc j) d lt within = all j d (omega (arith, within))
