-- Facts of each item of a list, and of items in turn.
use Rattle.std.proofs.Common.{◌≡◌, ◌<◌, ℕ, zero, suc, ◌+◌, List, [], ◌∷◌, ◌++◌, map, length, take, flat_map, inl, inr, sym, ap, ◌∙◌, subst, arith}
use Rattle.std.proofs.lemmas.List.{append_assoc, map-append, length-map, length-append, take_at}
use Rattle.wasm_operator_validator_rules.specs.Row.{IsOneOf}
use Rattle.wasm_module_validator_rules.specs.Valid.{Each}
use Rattle.wasm_module_validator_rules_in_order.specs.contexts.InOrder.{InTurn, places_from}

module _ {A : Type 0} (P : A → Type 0) where
  pub each_left : (xs ys : List A) → Each P (xs ++ ys) → Each P xs
  each_left [] ys h = tt
  each_left (x ∷ xs) ys h = (h.0, each_left xs ys h.1)

  pub each_right : (xs ys : List A) → Each P (xs ++ ys) → Each P ys
  each_right [] ys h = h
  each_right (x ∷ xs) ys h = each_right xs ys h.1

  pub each_joined : (xs ys : List A) → Each P xs → Each P ys → Each P (xs ++ ys)
  each_joined [] ys h k = k
  each_joined (x ∷ xs) ys h k = (h.0, each_joined xs ys h.1 k)

  pub each_from : (Q : A → Type 0) → ((x : A) → Q x → P x) → (xs : List A) → Each Q xs → Each P xs
  each_from Q f [] h = tt
  each_from Q f (x ∷ xs) h = (f x h.0, each_from Q f xs h.1)

-- nothing is asked
pub each_trivial : {A : Type 0} (xs : List A) → Each (λ x. Unit {0}) xs
each_trivial [] = tt
each_trivial (x ∷ xs) = (tt, each_trivial xs)

pub each_both : {A : Type 0} (P Q : A → Type 0) (xs : List A) → Each P xs → Each Q xs → Each (λ x. P x × Q x) xs
each_both P Q [] h k = tt
each_both P Q (x ∷ xs) h k = ((h.0, k.0), each_both P Q xs h.1 k.1)

-- ---- one of some numbers

pub one_left : (x : ℕ) (xs ys : List ℕ) → IsOneOf x xs → IsOneOf x (xs ++ ys)
one_left x [] ys h = absurd h
one_left x (z ∷ xs) ys (inl h) = inl h
one_left x (z ∷ xs) ys (inr h) = inr (one_left x xs ys h)

pub one_right : (x : ℕ) (xs ys : List ℕ) → IsOneOf x ys → IsOneOf x (xs ++ ys)
one_right x [] ys h = h
one_right x (z ∷ xs) ys h = inr (one_right x xs ys h)

-- what is one of an item's is one of all
pub one_of_item : {A : Type 0} (f : A → List ℕ) (x : ℕ) (before : List A) (y : A) (rest : List A) → IsOneOf x (f y) → IsOneOf x (flat_map f (before ++ (y ∷ rest)))
one_of_item f x [] y rest h = one_left x (f y) (flat_map f rest) h
one_of_item f x (b ∷ before) y rest h = one_right x (f b) (flat_map f (before ++ (y ∷ rest))) (one_of_item f x before y rest h)

-- each place of a list is one of its places
pub one_of_places : {A : Type 0} (xs : List A) (i x : ℕ) → x < length xs → IsOneOf (i + x) (places_from i xs)
one_of_places [] i x h = absurd (omega (arith, h))
one_of_places (y ∷ xs) i zero h = inl (omega arith)
one_of_places (y ∷ xs) i (suc x) h =
    let e : suc i + x ≡ i + suc x = omega arith in
    inr (subst (λ n. IsOneOf n (places_from (suc i) xs)) e (one_of_places xs (suc i) x (omega (arith, h))))

-- ---- items in turn

module _ {A : Type 0} where
  -- what holds of each item, where an item and those before it decide it
  module _ (whole : List A) (P : A → Type 0) (Q : List A → A → Type 0) where
    pub in_turn : ((before rest : List A) (x : A) → whole ≡ before ++ (x ∷ rest) → P x → Q before x) → (before xs : List A) → whole ≡ before ++ xs → Each P xs → InTurn Q before xs
    in_turn f before [] e h = tt
    in_turn f before (x ∷ xs) e h = (f before xs x e h.0, in_turn f (before ++ x ∷ []) xs (e ∙ sym (append_assoc before (x ∷ []) xs)) h.1)

    pub from_turn : ((before rest : List A) (x : A) → whole ≡ before ++ (x ∷ rest) → Q before x → P x) → (before xs : List A) → whole ≡ before ++ xs → InTurn Q before xs → Each P xs
    from_turn f before [] e h = tt
    from_turn f before (x ∷ xs) e h = (f before xs x e h.0, from_turn f (before ++ x ∷ []) xs (e ∙ sym (append_assoc before (x ∷ []) xs)) h.1)

  module _ (P Q : List A → A → Type 0) where
    pub turn_both : (before xs : List A) → InTurn P before xs → InTurn Q before xs → InTurn (λ b x. P b x × Q b x) before xs
    turn_both before [] h k = tt
    turn_both before (x ∷ xs) h k = ((h.0, k.0), turn_both (before ++ x ∷ []) xs h.1 k.1)

    pub turn_first : (before xs : List A) → InTurn (λ b x. P b x × Q b x) before xs → InTurn P before xs
    turn_first before [] h = tt
    turn_first before (x ∷ xs) h = (h.0.0, turn_first (before ++ x ∷ []) xs h.1)

    pub turn_second : (before xs : List A) → InTurn (λ b x. P b x × Q b x) before xs → InTurn Q before xs
    turn_second before [] h = tt
    turn_second before (x ∷ xs) h = (h.0.1, turn_second (before ++ x ∷ []) xs h.1)

-- a space as far as its own items were read: what is imported, and those before
pub front_of_space : {A B C : Type 0} (f : A → B) (g : C → A) (imports : List A) (whole before rest : List C) (n : ℕ) → whole ≡ before ++ rest → n ≡ length imports + length before
    → take n (map f (imports ++ map g whole)) ≡ map f (imports ++ map g before)
front_of_space f g imports whole before rest n e k =
    let front = imports ++ map g before in
    let split : map f (imports ++ map g whole) ≡ map f front ++ map f (map g rest) =
    ap (λ xs. map f (imports ++ map g xs)) e ∙ (ap (λ xs. map f (imports ++ xs)) (map-append g before rest) ∙ (ap (map f) (sym (append_assoc imports (map g before) (map g rest)))
    ∙ map-append f front (map g rest))) in
    let long : length (map f front) ≡ n = length-map front f ∙ (length-append imports (map g before) ∙ (ap (λ l. length imports + l) (length-map before g) ∙ sym k)) in
    ap (take n) split ∙ take_at (map f front) (map f (map g rest)) n long
