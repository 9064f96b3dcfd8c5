-- Lists of words between commas, cut at their first comma.
use Rattle.std.proofs.Common.{◌≡◌, ◌∙◌, ◌+◌, ◌-◌, ◌<◌, ◌≤◌, ◌==◌, false, ℕ, List, [], ◌∷◌, ap, sym, subst, refl, length, take, drop, get_or, slice_get, arith}
use Rattle.std.specs.Prelude.{Option, Some, None, IfSome, MatchOption, option_map, Result, Ok, Err}
use Rattle.std.specs.Borrow.{Bor}
use Rattle.std.specs.List.{position_or_len, after_first}
use Rattle.std.specs.Prelude.{Contains}
use Rattle.std.proofs.lemmas.List.{at_drop_all, at_drop_more, drop-drop, length-take-le, length-drop}
use Rattle.std.proofs.lemmas.Option.{slice_get_within, get_or_from_slice_get}
use Rattle.std.proofs.lemmas.List.Splits.{slice_split_none, slice_split_first}
use Rattle.std.proofs.lemmas.List.Sums.{fails_before_first}
use Rattle.std.proofs.lemmas.List.Elements.{All-from_get_or, Contains-get_or}
use Rattle.std.proofs.lemmas.Str.Pattern.{IsSplitOnceResult, split_once_first}
use Rattle.wasm_check_faults.specs.Lists.{Place, IsWordAt, words_of, words_after, place_of, through, through_lists}

-- the words of a list, by its first comma
pub words_by_split : (list : List ℕ) (r : Option (Bor (List ℕ) × Bor (List ℕ))) → IsSplitOnceResult 44 list r
    → MatchOption r (words_of list ≡ list ∷ []) (λ x. words_of list ≡ x.0.now ∷ words_of x.1.now)
words_by_split list None h =
    let e = split_once_first 44 list None h (omega arith) in
    slice_split_none (λ b. b == 44) list (All-from_get_or (λ b. (b == 44) ≡ false) list 0
    (λ i below. fails_before_first (λ b. b == 44) list i 0 (omega (arith, e, below))))
words_by_split list (Some x) h =
    let e = split_once_first 44 list (Some x) h (omega arith) in
    slice_split_first (λ b. b == 44) list 0 e.0
    ∙ ap (λ (w : List ℕ). w ∷ words_of (after_first (λ b. b == 44) list)) (sym e.1)
    ∙ ap (λ (rest : List ℕ). x.0.now ∷ words_of rest) (sym e.2)

-- what stands before the first comma, and what after it
pub cut_parts : (list : List ℕ) (x : Bor (List ℕ) × Bor (List ℕ)) → IsSplitOnceResult 44 list (Some x)
    → ((length x.0.now ≤ length list) × (x.0.now ≡ take (length x.0.now) list))
    × ((length x.0.now + 1 + length x.1.now ≡ length list) × (x.1.now ≡ drop (length x.0.now + 1) list))
cut_parts list x h =
    let e = split_once_first 44 list (Some x) h (omega arith) in
    let at = position_or_len (λ b. b == 44) list in
    let long : length x.0.now ≡ at = ap length e.1 ∙ length-take-le at list (omega (arith, e.0)) in
    let after : length x.1.now ≡ length list - (at + 1) = ap length e.2 ∙ length-drop (at + 1) list in (
      (omega (arith, long, e.0), e.1 ∙ ap (λ n. take n list) (sym long)),
      (omega (arith, long, after, e.0), e.2 ∙ ap (λ n. drop (n + 1) list) (sym long)),
    )

-- the rest is the back of the list
abbrev pub IsBack : List ℕ → List ℕ → Type 0
IsBack list rest = (length rest ≤ length list) × (rest ≡ drop (length list - length rest) list)

module _ (list rest : List ℕ) (back : IsBack list rest) (word : List ℕ) where
  -- and so is what follows its first word
  back_more : (more : List ℕ) → length word + 1 + length more ≡ length rest → more ≡ drop (length word + 1) rest → IsBack list more
  back_more more l e = (
    omega (arith, l, back.0),
    e ∙ ap (drop (length word + 1)) back.1 ∙ drop-drop (length word + 1) (length list - length rest) list ∙ ap (λ n. drop n list) (omega (arith, l, back.0)),
  )

  -- its first word is in the list
  pub word_there : (length word ≤ length rest) × (word ≡ take (length word) rest) → IsWordAt list (length list - length rest) word
  word_there front = record {
    inside = omega (arith, front.0, back.0);
    there = front.1 ∙ ap (take (length word)) back.1;
  }

-- ---- what a list makes of a state
module _ {S F : Type 0} (step : Place → List ℕ → S → Result S F) where
  -- the first word is taken
  pub taken : (start : ℕ) (word : List ℕ) (words : List (List ℕ)) (s t : S) → step (place_of start word) word s ≡ Ok t
      → through step start (word ∷ words) s ≡ through step (start + length word + 1) words t
  unfolding through
  taken start word words s t e = ap (λ (r : Result S F). elim r [ Ok u ↦ through step (start + length word + 1) words u | Err f ↦ Err f ]) e

  -- it is at fault
  refused : (start : ℕ) (word : List ℕ) (words : List (List ℕ)) (s : S) (f : F) → step (place_of start word) word s ≡ Err f
      → through step start (word ∷ words) s ≡ Err f
  unfolding through
  refused start word words s f e = ap (λ (r : Result S F). elim r [ Ok u ↦ through step (start + length word + 1) words u | Err g ↦ Err g ]) e

  -- no word is left
  pub ended : (start : ℕ) (s : S) → through step start [] s ≡ Ok s
  unfolding through
  ended start s = refl

  -- what is left of the list, from this state on, decides
  abbrev pub IsLeft : List ℕ → Result S F → List ℕ → S → Type 0
  IsLeft list whole rest s = IsBack list rest × (whole ≡ through step (length list - length rest) (words_of rest) s)

  -- all of it is
  pub left_all : (list : List ℕ) (s : S) → IsLeft list (through step 0 (words_of list) s) list s
  left_all list s =
      let none : 0 ≡ length list - length list = omega arith in
      ((omega arith, ap (λ n. drop n list) none), ap (λ n. through step n (words_of list) s) none)

  module _ (list rest : List ℕ) (whole : Result S F) (s : S) (left : IsLeft list whole rest s) (word : List ℕ) where
    -- the first word that is left is at fault
    pub left_fault : (words : List (List ℕ)) (f : F) → words_of rest ≡ word ∷ words → step (place_of (length list - length rest) word) word s ≡ Err f → whole ≡ Err f
    left_fault words f w e = left.1 ∙ ap (λ ws. through step (length list - length rest) ws s) w ∙ refused (length list - length rest) word words s f e

    -- it is taken, and is the last
    pub left_last : (t : S) → words_of rest ≡ word ∷ [] → step (place_of (length list - length rest) word) word s ≡ Ok t → whole ≡ Ok t
    left_last t w e =
        left.1 ∙ ap (λ ws. through step (length list - length rest) ws s) w ∙ taken (length list - length rest) word [] s t e
        ∙ ended (length list - length rest + length word + 1) t

    -- it is taken, and more follow
    pub left_more : (more : List ℕ) (t : S) → words_of rest ≡ word ∷ words_of more
        → (length word + 1 + length more ≡ length rest) × (more ≡ drop (length word + 1) rest)
        → step (place_of (length list - length rest) word) word s ≡ Ok t → IsLeft list whole more t
    left_more more t w l e = (
      back_more list rest left.0 word more l.0 l.1,
      left.1 ∙ ap (λ ws. through step (length list - length rest) ws s) w ∙ taken (length list - length rest) word (words_of more) s t e
          ∙ ap (λ n. through step n (words_of more) t) (omega (arith, l.0, left.0.0)),
    )

-- ---- the first word, as it was cut off
module _ (list word : List ℕ) (cut : Option (Bor (List ℕ))) where
  -- it is the last
  pub words_end : words_of list ≡ word ∷ words_after (option_map (λ r. r.now) cut) → cut ≡ None → words_of list ≡ word ∷ []
  words_end e none = e ∙ ap (λ (o : Option (Bor (List ℕ))). word ∷ words_after (option_map (λ r. r.now) o)) none

  -- these follow
  pub words_go_on : (more : Bor (List ℕ)) → words_of list ≡ word ∷ words_after (option_map (λ r. r.now) cut) → cut ≡ Some more → words_of list ≡ word ∷ words_of more.now
  words_go_on more e some = e ∙ ap (λ (o : Option (Bor (List ℕ))). word ∷ words_after (option_map (λ r. r.now) o)) some

  pub rest_shorter : (more : Bor (List ℕ)) → IfSome cut (λ r. (length word + 1 + length r.now ≡ length list) × (r.now ≡ drop (length word + 1) list)) → cut ≡ Some more
      → (length word + 1 + length more.now ≡ length list) × (more.now ≡ drop (length word + 1) list)
  rest_shorter more h some =
      subst (λ (o : Option (Bor (List ℕ))). IfSome o (λ r. (length word + 1 + length r.now ≡ length list) × (r.now ≡ drop (length word + 1) list))) some h

-- ---- several lists
module _ {S F : Type 0} (along : List ℕ → S → Result S F) (lists : List (List ℕ)) (place : ℕ) (list : List ℕ) (found : slice_get lists place ≡ Some list) where
  first_list : (list : List ℕ) (rest : List (List ℕ)) (s t : S) → along list s ≡ Ok t → through_lists along (list ∷ rest) s ≡ through_lists along rest t
  unfolding through_lists
  first_list list rest s t e = ap (λ (r : Result S F). elim r [ Ok u ↦ through_lists along rest u | Err f ↦ Err f ]) e

  first_fault : (list : List ℕ) (rest : List (List ℕ)) (s : S) (f : F) → along list s ≡ Err f → through_lists along (list ∷ rest) s ≡ Err f
  unfolding through_lists
  first_fault list rest s f e = ap (λ (r : Result S F). elim r [ Ok u ↦ through_lists along rest u | Err g ↦ Err g ]) e

  here : get_or lists place list ≡ list
  here = get_or_from_slice_get lists place list list found

  within : place < length lists
  within = slice_get_within lists place list found

  -- the list at this place is taken
  pub list_taken : (s t : S) → along list s ≡ Ok t → through_lists along (drop place lists) s ≡ through_lists along (drop (place + 1) lists) t
  list_taken s t e =
      at_drop_more (λ (ls : List (List ℕ)). through_lists along ls s) lists place list within
      ∙ first_list (get_or lists place list) (drop (place + 1) lists) s t (ap (λ l. along l s) here ∙ e)

  -- it is at fault
  pub list_fault : (s : S) (f : F) → along list s ≡ Err f → through_lists along (drop place lists) s ≡ Err f
  list_fault s f e =
      at_drop_more (λ (ls : List (List ℕ)). through_lists along ls s) lists place list within
      ∙ first_fault (get_or lists place list) (drop (place + 1) lists) s f (ap (λ l. along l s) here ∙ e)

  -- it is one of them
  pub list_there : Contains lists list
  list_there = subst (Contains lists) here (Contains-get_or lists place list within)

-- none is left
no_lists : {S F : Type 0} (along : List ℕ → S → Result S F) (s : S) → through_lists along [] s ≡ Ok s
unfolding through_lists
no_lists along s = refl

pub lists_end : {S F : Type 0} (along : List ℕ → S → Result S F) (lists : List (List ℕ)) (place : ℕ) (s : S) → length lists ≤ place
    → through_lists along (drop place lists) s ≡ Ok s
lists_end along lists place s past = at_drop_all (λ (ls : List (List ℕ)). through_lists along ls s) lists place past ∙ no_lists along s
