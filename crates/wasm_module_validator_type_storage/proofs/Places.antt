-- Where an item of a list in pieces stands.
use Rattle.std.proofs.Common.{◌≡◌, ◌∙◌, ℕ, zero, suc, ◌+◌, ◌-◌, ◌<◌, ◌≤◌, List, [], ◌∷◌, ◌++◌, length, map, get_or, refl, ap, sym, arith, Option, Some, None}
use Rattle.std.specs.Prelude.{slice_get}
use Rattle.std.specs.List.{AllZip}
use Rattle.std.proofs.lemmas.Option.{none-some}
use Rattle.std.proofs.lemmas.List.{length-append, append_assoc, append-nil, length-map, get_or-map, map-append}
use Rattle.wasm_module_validator_type_storage.specs.snapshots.Pieces.{joined, starts_from, IsLaidOut}

module _ {A : Type 0} where
  pub get_left : (xs ys : List A) (i : ℕ) → i < length xs → slice_get (xs ++ ys) i ≡ slice_get xs i
  get_left [] ys i lt = absurd (omega arith)
  get_left (x ∷ xs) ys zero lt = refl
  get_left (x ∷ xs) ys (suc i) lt = get_left xs ys i (omega arith)

  pub get_right : (xs ys : List A) (i : ℕ) → length xs ≤ i → slice_get (xs ++ ys) i ≡ slice_get ys (i - length xs)
  get_right [] ys i le = ap (slice_get ys) (omega arith)
  get_right (x ∷ xs) ys zero le = absurd (omega arith)
  get_right (x ∷ xs) ys (suc i) le = get_right xs ys i (omega arith) ∙ ap (slice_get ys) (omega arith)

  pub slice_get_within : (xs : List A) (i : ℕ) (x : A) → slice_get xs i ≡ Some x → i < length xs
  slice_get_within [] i x e = absurd (none-some x e)
  slice_get_within (y ∷ xs) zero x e = omega arith
  slice_get_within (y ∷ xs) (suc i) x e = let lt = slice_get_within xs i x e in omega arith

  starts_above : (n : ℕ) (ps : List (List A)) (k : ℕ) → k < length ps → n ≤ get_or (starts_from n ps) k 0
  starts_above n [] k lt = absurd (omega arith)
  starts_above n (p ∷ ps) zero lt = omega arith
  starts_above n (p ∷ ps) (suc k) lt = let h = starts_above (n + length p) ps k (omega arith) in omega arith

  -- the last piece that begins at an item or before it has the item
  pub piece_at : (n : ℕ) (ps : List (List A)) (k i : ℕ) → k < length ps → get_or (starts_from n ps) k 0 ≤ n + i
      → (suc k < length ps → n + i < get_or (starts_from n ps) (suc k) 0) → i < length (joined ps)
      → slice_get (joined ps) i ≡ slice_get (get_or ps k []) (n + i - get_or (starts_from n ps) k 0)
  piece_at n [] k i lt from to below = absurd (omega arith)
  piece_at n (p ∷ []) zero i lt from to below =
      get_left p [] i (omega (arith, length-append p [])) ∙ ap (slice_get p) (omega arith)
  piece_at n (p ∷ q ∷ ps) zero i lt from to below =
      let end : n + i < n + length p = to (omega arith) in
      get_left p (joined (q ∷ ps)) i (omega arith) ∙ ap (slice_get p) (omega arith)
  piece_at n (p ∷ ps) (suc k) i lt from to below =
      let low = starts_above (n + length p) ps k (omega arith) in
      let le : length p ≤ i = omega arith in
      let all : length (p ++ joined ps) ≡ length p + length (joined ps) = length-append p (joined ps) in
      let same : n + length p + (i - length p) ≡ n + i = omega arith in
      let s : ℕ = get_or (starts_from (n + length p) ps) k 0 in
      get_right p (joined ps) i le
      ∙ piece_at (n + length p) ps k (i - length p) (omega arith) (omega arith)
      (λ l. let h : n + i < get_or (starts_from (n + length p) ps) (suc k) 0 = to (omega arith) in omega arith) (omega arith)
      ∙ ap (λ (m : ℕ). slice_get (get_or ps k []) (m - s)) same

  -- a further piece
  pub joined_push : (ps : List (List A)) (p : List A) → joined (ps ++ p ∷ []) ≡ joined ps ++ p
  joined_push [] p = append-nil p
  joined_push (q ∷ ps) p = ap (λ (l : List A). q ++ l) (joined_push ps p) ∙ sym (append_assoc q (joined ps) p)

  pub starts_push : (n : ℕ) (ps : List (List A)) (p : List A) → starts_from n (ps ++ p ∷ []) ≡ starts_from n ps ++ (n + length (joined ps)) ∷ []
  starts_push n [] p = ap (λ (m : ℕ). m ∷ []) (omega arith)
  starts_push n (q ∷ ps) p =
      ap (λ (l : List ℕ). n ∷ l)
      (starts_push (n + length q) ps p ∙ ap (λ (m : ℕ). starts_from (n + length q) ps ++ m ∷ []) (omega (arith, length-append q (joined ps))))

pub first_start : {A : Type 0} (ps : List (List A)) → get_or (starts_from 0 ps) 0 0 ≡ 0
first_start [] = refl
first_start (p ∷ ps) = refl

-- what a list in pieces has at an index that falls into one of them
pub found : {A X : Type 0} (piece : X → List A) (prior : X → ℕ) (xs : List X) (total : ℕ) (current : List A) (k i : ℕ) (x : X)
    → IsLaidOut (map piece xs) (map prior xs) total current → k < length xs → x ≡ get_or xs k x → get_or (map prior xs) k 0 ≤ i
    → (k + 1 < length xs → i < get_or (map prior xs) (k + 1) 0) → i < total
    → slice_get (joined (map piece xs) ++ current) i ≡ slice_get (piece x) (i - prior x)
found {A} {X} piece prior xs total current k i x laid lt is from to below =
    let ps : List (List A) = map piece xs in
    let long : length ps ≡ length xs = length-map xs piece in
    let s : ℕ = get_or (starts_from 0 ps) k 0 in
    let same : get_or (map prior xs) k 0 ≡ s = ap (λ (l : List ℕ). get_or l k 0) laid.starts in
    let next : get_or (map prior xs) (k + 1) 0 ≡ get_or (starts_from 0 ps) (suc k) 0 =
    ap (λ (l : List ℕ). get_or l (k + 1) 0) laid.starts ∙ ap (λ (n : ℕ). get_or (starts_from 0 ps) n 0) (omega arith) in
    let at : get_or ps k [] ≡ piece x = get_or-map piece xs k x [] lt ∙ ap piece (sym is) in
    let start : s ≡ prior x = sym same ∙ get_or-map prior xs k x 0 lt ∙ ap prior (sym is) in
    get_left (joined ps) current i (omega (arith, laid.counted))
    ∙ piece_at 0 ps k i (omega arith) (omega arith) (λ l. let h = to (omega arith) in omega arith) (omega (arith, laid.counted))
    ∙ ap (λ (l : List A). slice_get l (0 + i - s)) at
    ∙ ap (slice_get (piece x)) (omega arith)

-- what the list has past the pieces
pub found_last : {A : Type 0} (ps : List (List A)) (priors : List ℕ) (total : ℕ) (current : List A) (i : ℕ) → IsLaidOut ps priors total current → total ≤ i
    → slice_get (joined ps ++ current) i ≡ slice_get current (i - total)
found_last ps priors total current i laid le =
    get_right (joined ps) current i (omega (arith, laid.counted)) ∙ ap (slice_get current) (omega (arith, laid.counted))

-- what was pushed since becomes one more piece
module _ {A X : Type 0} (piece : X → List A) (prior : X → ℕ) (xs now : List X) (x : X) (current rest : List A) (more : now ≡ xs ++ x ∷ []) (is : piece x ≡ current) (none : rest ≡ []) where
  pieces_more : map piece now ≡ map piece xs ++ piece x ∷ []
  pieces_more = ap (map piece) more ∙ map-append piece xs (x ∷ [])

  all_more : joined (map piece now) ≡ joined (map piece xs) ++ piece x
  all_more = ap joined pieces_more ∙ joined_push (map piece xs) (piece x)

  pub laid_more : (total sum : ℕ) → IsLaidOut (map piece xs) (map prior xs) total current → prior x ≡ total → sum ≡ total + length current → IsLaidOut (map piece now) (map prior now) sum rest
  laid_more total sum laid at e =
      let priors : map prior now ≡ map prior xs ++ prior x ∷ [] = ap (map prior) more ∙ map-append prior xs (x ∷ []) in
      let begin : prior x ≡ 0 + length (joined (map piece xs)) = omega (arith, laid.counted) in
      record {
        starts = priors ∙ ap (λ (l : List ℕ). l ++ prior x ∷ []) laid.starts ∙ ap (λ (n : ℕ). starts_from 0 (map piece xs) ++ n ∷ []) begin
            ∙ sym (starts_push 0 (map piece xs) (piece x)) ∙ ap (starts_from 0) (sym pieces_more);
        counted = omega (arith, laid.counted, ap length all_more, length-append (joined (map piece xs)) (piece x), ap length is);
        fits = omega (arith, laid.fits, ap length none);
      }

  pub items_more : joined (map piece now) ≡ joined (map piece xs) ++ current
  items_more = all_more ∙ ap (λ (l : List A). joined (map piece xs) ++ l) is

-- clones of owners own the same
pub copies : {X Y A : Type 0} (held : X → Y) (f : Y → A) (xs ys : List X) → AllZip (λ x y. held y ≡ held x) xs ys → map (λ x. f (held x)) ys ≡ map (λ x. f (held x)) xs
copies held f [] [] h = refl
copies held f [] (y ∷ ys) h = absurd h
copies held f (x ∷ xs) [] h = absurd h
copies held f (x ∷ xs) (y ∷ ys) h = let a = ap f h.0 in let b = copies held f xs ys h.1 in cc

-- clones of the pieces hold the same
pub laid_alike : {A : Type 0} (ps qs : List (List A)) (ms ns : List ℕ) (total : ℕ) (current rest : List A) → qs ≡ ps → ns ≡ ms → rest ≡ [] → IsLaidOut ps ms total current → IsLaidOut qs ns total rest
laid_alike ps qs ms ns total current rest e f none laid = record {
  starts = f ∙ laid.starts ∙ ap (starts_from 0) (sym e);
  counted = laid.counted ∙ ap (λ ps. length (joined ps)) (sym e);
  fits = omega (arith, laid.fits, ap length none);
}

pub items_alike : {A : Type 0} (ps qs : List (List A)) (rest all : List A) → qs ≡ ps → rest ≡ [] → joined ps ≡ all → joined qs ++ rest ≡ all
items_alike ps qs rest all e none h = ap (λ l. joined l ++ rest) e ∙ ap (λ l. joined ps ++ l) none ∙ append-nil (joined ps) ∙ h
