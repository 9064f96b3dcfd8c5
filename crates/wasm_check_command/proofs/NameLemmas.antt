-- On the names in a list.
use Rattle.std.proofs.Common.{◌≡◌, ◌∙◌, ◌+◌, ◌<◌, ◌≤◌, ◌==◌, ◌⊎◌, ℕ, false, List, [], ◌∷◌, ◌++◌, All, ap, append-nil, append_assoc, subst, sym, refl, arith, length, take, drop, get_or, slice_get, inl, inr}
use Rattle.std.specs.Prelude.{Some}
use Rattle.std.specs.List.{AllZip}
use Rattle.std.proofs.lemmas.Bool.{cases_lt}
use Rattle.std.proofs.lemmas.List.{drop-drop, drop_all, drop_more, length-drop, take-append-drop, take_all}
use Rattle.std.proofs.lemmas.List.Elements.{All-head, All-tail, AllZip-push}
use Rattle.std.proofs.lemmas.Option.{get_or_from_slice_get}
use Rattle.wasm_check_command.specs.Names.{AreNames, IsWordText, names_in, onto_name}

abbrev HasNoEnd : List ℕ → Type 0
HasNoEnd name = All (λ b. (b == 0) ≡ false) name

-- one byte of a name
more_of_name : (b : ℕ) (bs : List ℕ) → (b == 0) ≡ false → names_in (b ∷ bs) ≡ onto_name b (names_in bs)
unfolding names_in
more_of_name b bs e = rw e refl

-- a name that ends
ended_name : (name rest : List ℕ) → HasNoEnd name → names_in (name ++ 0 ∷ rest) ≡ name ∷ names_in rest
unfolding names_in
ended_name [] rest h = refl
ended_name (b ∷ bs) rest h =
    more_of_name b (bs ++ 0 ∷ rest) (All-head (λ c. (c == 0) ≡ false) b bs h)
    ∙ ap (onto_name b) (ended_name bs rest (All-tail (λ c. (c == 0) ≡ false) b bs h))

-- the last name, which ends without the byte 0
last_name : (b : ℕ) (bs : List ℕ) → HasNoEnd (b ∷ bs) → names_in (b ∷ bs) ≡ (b ∷ bs) ∷ []
unfolding names_in
last_name b [] h = more_of_name b [] (All-head (λ c. (c == 0) ≡ false) b [] h)
last_name b (c ∷ cs) h =
    more_of_name b (c ∷ cs) (All-head (λ d. (d == 0) ≡ false) b (c ∷ cs) h)
    ∙ ap (onto_name b) (last_name c cs (All-tail (λ d. (d == 0) ≡ false) b (c ∷ cs) h))

-- The names before a place are these, and their texts those.
pub record AreSoFar (list : List ℕ) (start : ℕ) (texts : List (List ℕ)) : Type 0 where
  pub names : List (List ℕ)
  pub split : names_in list ≡ names ++ names_in (drop start list)
  pub told : AllZip IsWordText names texts

-- none yet
pub none_so_far : (list : List ℕ) → AreSoFar list 0 []
none_so_far list = record { names = []; split = refl; told = tt }

-- all that is left is a name
whole_name : (bs : List ℕ) (n : ℕ) → 0 < length bs → length bs ≤ n → HasNoEnd (take n bs) → names_in bs ≡ take n bs ∷ names_in (drop (n + 1) bs)
unfolding names_in
whole_name [] n s l h = absurd (omega (arith, s))
whole_name (b ∷ bs) n s l h =
    let all = take_all n (b ∷ bs) l in
    last_name b bs (subst HasNoEnd all h)
    ∙ ap (λ (name : List ℕ). name ∷ []) (sym all)
    ∙ ap (λ (left : List ℕ). take n (b ∷ bs) ∷ names_in left) (sym (drop_all (n + 1) (b ∷ bs) (omega (arith, l))))

-- what is left begins with a name
next_name : (rest : List ℕ) (n : ℕ) → 0 < length rest → HasNoEnd (take n rest) → (n < length rest → slice_get rest n ≡ Some 0)
    → names_in rest ≡ take n rest ∷ names_in (drop (n + 1) rest)
next_name rest n some before ended = by (cases_lt n (length rest))
  where
    by : (n < length rest) ⊎ (length rest ≤ n) → names_in rest ≡ take n rest ∷ names_in (drop (n + 1) rest)
    by (inl l) =
        let zero_there : get_or rest n 0 ≡ 0 = get_or_from_slice_get rest n 0 0 (ended l) in
        ap names_in (sym (take-append-drop n rest)
        ∙ ap (λ (back : List ℕ). take n rest ++ back) (drop_more rest n 0 l ∙ ap (λ (b : ℕ). b ∷ drop (n + 1) rest) zero_there))
        ∙ ended_name (take n rest) (drop (n + 1) rest) before
    by (inr l) = whole_name rest n some l before

-- one more
pub name_more : (list : List ℕ) (texts : List (List ℕ)) (start n : ℕ) (text : List ℕ) → start < length list → AreSoFar list start texts
    → HasNoEnd (take n (drop start list)) → (n < length (drop start list) → slice_get (drop start list) n ≡ Some 0)
    → IsWordText (take n (drop start list)) text → AreSoFar list (start + n + 1) (texts ++ text ∷ [])
name_more list texts start n text left s before ended told =
    let rest = drop start list in
    record {
      names = s.names ++ take n rest ∷ [];
      split = s.split
          ∙ ap (λ (names : List (List ℕ)). s.names ++ names) (next_name rest n (omega (arith, left, length-drop start list)) before ended)
          ∙ sym (append_assoc s.names (take n rest ∷ []) (names_in (drop (n + 1) rest)))
          ∙ ap (λ (back : List ℕ). (s.names ++ take n rest ∷ []) ++ names_in back) (drop-drop (n + 1) start list ∙ ap (λ (k : ℕ). drop k list) (omega arith));
      told = AllZip-push IsWordText s.names texts (take n rest) text s.told told;
    }

-- the same of what is left, by another form
pub name_more_by : (list : List ℕ) (texts : List (List ℕ)) (start n : ℕ) (rest text : List ℕ) → rest ≡ drop start list → start < length list → AreSoFar list start texts
    → HasNoEnd (take n rest) → (n < length rest → slice_get rest n ≡ Some 0) → IsWordText (take n rest) text → AreSoFar list (start + n + 1) (texts ++ text ∷ [])
name_more_by list texts start n rest text e left s before ended told =
    name_more list texts start n text left s (subst (λ (r : List ℕ). HasNoEnd (take n r)) e before)
    (subst (λ (r : List ℕ). n < length r → slice_get r n ≡ Some 0) e ended) (subst (λ (r : List ℕ). IsWordText (take n r) text) e told)

-- none is left
pub all_named : (list : List ℕ) (texts : List (List ℕ)) (start : ℕ) → length list ≤ start → AreSoFar list start texts → AreNames list texts
unfolding names_in
all_named list texts start end s =
    subst (λ (names : List (List ℕ)). AllZip IsWordText names texts)
    (sym (s.split ∙ ap (λ (back : List ℕ). s.names ++ names_in back) (drop_all start list end) ∙ append-nil s.names)) s.told
