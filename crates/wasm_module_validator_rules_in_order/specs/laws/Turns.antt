-- Items that are added one after the other, and what each of them asks for in turn.
use Rattle.std.proofs.Common.{◌≡◌, ◌⊎◌, ◌+◌, ◌<◌, ◌≤◌, ℕ, List, [], ◌∷◌, ◌++◌, inl, inr, sym, ap, ◌∙◌, subst, arith}
use Rattle.std.proofs.lemmas.List.{append_assoc, append-nil}
use Rattle.wasm_module_validator_rules.specs.Valid.{SumsBelow}
use Rattle.wasm_module_validator_rules_in_order.specs.contexts.InOrder.{InTurn}
use Rattle.wasm_module_validator_rules_in_order.specs.Adding.{AddsEach, sum_from}

-- ---- items in turn

module _ {A : Type 0} (P Q : List A → A → Type 0) where
  pub turn_from : ((b : List A) (x : A) → P b x → Q b x) → (before xs : List A) → InTurn P before xs → InTurn Q before xs
  turn_from f before [] h = tt
  turn_from f before (x ∷ xs) h = (f before x h.0, turn_from f (before ++ x ∷ []) xs h.1)

-- What is added one by one behind a list: `put` is the whole with this list in it, V and R what is asked of an item behind a list.
module _ {M A : Type 0} (put : List A → M) (V R : List A → A → Type 0) (adds : M → A → M → Type 0)
    (opened : (l : List A) (x : A) (n : M) → adds (put l) x n → V l x × R l x × (n ≡ put (l ++ x ∷ [])))
    (closed : (l : List A) (x : A) → V l x → R l x → adds (put l) x (put (l ++ x ∷ []))) where
  pub each_opened : (l xs : List A) (n : M) → AddsEach adds (put l) xs n → InTurn V l xs × InTurn R l xs × (n ≡ put (l ++ xs))
  each_opened l [] n h = (tt, tt, sym h ∙ ap put (sym (append-nil l)))
  each_opened l (x ∷ xs) n h =
      let a = opened l x h.0 h.1 in
      let rest = each_opened (l ++ x ∷ []) xs n (subst (λ k. AddsEach adds k xs n) a.2 h.2) in
      ((a.0, rest.0), (a.1, rest.1), rest.2 ∙ ap put (append_assoc l (x ∷ []) xs))

  pub each_closed : (l xs : List A) → InTurn V l xs → InTurn R l xs → AddsEach adds (put l) xs (put (l ++ xs))
  each_closed l [] v r = ap put (sym (append-nil l))
  each_closed l (x ∷ xs) v r =
      let rest = each_closed (l ++ x ∷ []) xs v.1 r.1 in
      (put (l ++ x ∷ []), closed l x v.0 r.0, subst (λ k. AddsEach adds (put (l ++ x ∷ [])) xs (put k)) (append_assoc l (x ∷ []) xs) rest)

-- ---- limits

-- A total that each item adds its weight to.
module _ {A : Type 0} (total : List A → ℕ) (weight : A → ℕ) (step : (l : List A) (x : A) → total (l ++ x ∷ []) ≡ total l + weight x) where
  grows : (l xs : List A) → total l ≤ total (l ++ xs)
  grows l [] = subst (λ k. total l ≤ total k) (sym (append-nil l)) (omega arith)
  grows l (x ∷ xs) =
      let rest = grows (l ++ x ∷ []) xs in
      let e = ap total (append_assoc l (x ∷ []) xs) in
      omega (arith, rest, e, step l x)

  -- an item without weight asks for nothing
  pub total_goes : (limit : ℕ) (l xs : List A) → total l ≤ limit → InTurn (λ b x. (weight x ≡ 0) ⊎ (total b + weight x ≤ limit)) l xs → total (l ++ xs) ≤ limit
  total_goes limit l [] k h = subst (λ b. total b ≤ limit) (sym (append-nil l)) k
  total_goes limit l (x ∷ xs) k h = subst (λ b. total b ≤ limit) (append_assoc l (x ∷ []) xs) (total_goes limit (l ++ x ∷ []) xs (here h.0) h.1)
    where
      here : (weight x ≡ 0) ⊎ (total l + weight x ≤ limit) → total (l ++ x ∷ []) ≤ limit
      here (inl e) = omega (arith, e, k, step l x)
      here (inr e) = omega (arith, e, step l x)

  pub total_comes : (limit : ℕ) (l xs : List A) → total (l ++ xs) ≤ limit → InTurn (λ b x. total b + weight x ≤ limit) l xs
  total_comes limit l [] k = tt
  total_comes limit l (x ∷ xs) k =
      let whole : total ((l ++ x ∷ []) ++ xs) ≤ limit = subst (λ b. total b ≤ limit) (sym (append_assoc l (x ∷ []) xs)) k in
      let here : total l + weight x ≤ limit = omega (arith, whole, grows (l ++ x ∷ []) xs, step l x) in
      (here, total_comes limit (l ++ x ∷ []) xs whole)

-- ---- sums

pub sums_joined : (limit sum : ℕ) (ns more : List ℕ) → SumsBelow limit sum ns → SumsBelow limit (sum_from sum ns) more → SumsBelow limit sum (ns ++ more)
sums_joined limit sum [] more h k = k
sums_joined limit sum (n ∷ ns) more h k = (h.0, sums_joined limit (sum + n) ns more h.1 k)

pub sums_first : (limit sum : ℕ) (ns more : List ℕ) → SumsBelow limit sum (ns ++ more) → SumsBelow limit sum ns
sums_first limit sum [] more h = tt
sums_first limit sum (n ∷ ns) more h = (h.0, sums_first limit (sum + n) ns more h.1)

pub sums_second : (limit sum : ℕ) (ns more : List ℕ) → SumsBelow limit sum (ns ++ more) → SumsBelow limit (sum_from sum ns) more
sums_second limit sum [] more h = h
sums_second limit sum (n ∷ ns) more h = sums_second limit (sum + n) ns more h.1

-- Sizes of a list, of which each item has one.
module _ {A : Type 0} (sizes : List A → List ℕ) (size : A → ℕ) (step : (l : List A) (x : A) → sizes (l ++ x ∷ []) ≡ sizes l ++ size x ∷ []) (limit sum : ℕ) where
  pub sums_go : (l xs : List A) → SumsBelow limit sum (sizes l) → InTurn (λ b x. sum_from sum (sizes b) + size x < limit) l xs → SumsBelow limit sum (sizes (l ++ xs))
  sums_go l [] k h = subst (λ b. SumsBelow limit sum (sizes b)) (sym (append-nil l)) k
  sums_go l (x ∷ xs) k h =
      let more = sums_joined limit sum (sizes l) (size x ∷ []) k (h.0, tt) in
      subst (λ b. SumsBelow limit sum (sizes b)) (append_assoc l (x ∷ []) xs) (sums_go (l ++ x ∷ []) xs (subst (SumsBelow limit sum) (sym (step l x)) more) h.1)

  -- those of a front are below the limit too
  pub sums_of_front : (l xs : List A) → SumsBelow limit sum (sizes (l ++ xs)) → SumsBelow limit sum (sizes l)
  sums_of_front l [] k = subst (λ b. SumsBelow limit sum (sizes b)) (append-nil l) k
  sums_of_front l (x ∷ xs) k =
      let more = sums_of_front (l ++ x ∷ []) xs (subst (λ b. SumsBelow limit sum (sizes b)) (sym (append_assoc l (x ∷ []) xs)) k) in
      sums_first limit sum (sizes l) (size x ∷ []) (subst (SumsBelow limit sum) (step l x) more)

  pub sums_come : (l xs : List A) → SumsBelow limit sum (sizes (l ++ xs)) → InTurn (λ b x. sum_from sum (sizes b) + size x < limit) l xs
  sums_come l [] k = tt
  sums_come l (x ∷ xs) k =
      let whole = subst (λ b. SumsBelow limit sum (sizes b)) (sym (append_assoc l (x ∷ []) xs)) k in
      let more = subst (SumsBelow limit sum) (step l x) (sums_of_front (l ++ x ∷ []) xs whole) in
      ((sums_second limit sum (sizes l) (size x ∷ []) more).0, sums_come (l ++ x ∷ []) xs whole)
