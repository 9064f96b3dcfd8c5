-- Lists of words between commas, as options of the command line have them.
use Rattle.std.specs.Prelude.{◌≡◌, ℕ, ◌+◌, ◌≤◌, ◌==◌, List, [], ◌∷◌, length, take, drop, Result, Ok, Err, Option, Some, None}
use Rattle.std.specs.List.{slice_split}

-- the words between the commas (44): an empty list is one empty word
abbrev pub words_of : List ℕ → List (List ℕ)
words_of list = slice_split (λ b. b == 44) list

-- the words of what follows a comma, if there is one
abbrev pub words_after : Option (List ℕ) → List (List ℕ)
words_after None = []
words_after (Some rest) = words_of rest

-- where a word is in its list: the place of its first byte, and that after its last
pub record Place : Type 0 where
  pub start : ℕ
  pub end : ℕ

-- the place of a word that begins here
abbrev pub place_of : ℕ → List ℕ → Place
place_of start word = record { start = start; end = start + length word }

-- this word is in the list, from this place on
pub record IsWordAt (list : List ℕ) (start : ℕ) (word : List ℕ) : Type 0 where
  pub inside : start + length word ≤ length list
  pub there : word ≡ take (length word) (drop start list)

-- What a list makes of a state, word by word from left to right: `step` says what one word makes of it, or its fault, and the first fault
-- is that of the list.
module _ {S F : Type 0} (step : Place → List ℕ → S → Result S F) where
  -- the words, of which the first begins here
  unfoldable pub through : ℕ → List (List ℕ) → S → Result S F
  through start [] s = Ok s
  through start (word ∷ words) s = elim (step (place_of start word) word s) [ Ok t ↦ through (start + length word + 1) words t | Err e ↦ Err e ]

-- What several lists make of a state, one after another: `along` says what one list makes of it, or its first fault, and the first fault of all
-- is that of the lists.
module _ {S F : Type 0} (along : List ℕ → S → Result S F) where
  unfoldable pub through_lists : List (List ℕ) → S → Result S F
  through_lists [] s = Ok s
  through_lists (list ∷ lists) s = elim (along list s) [ Ok t ↦ through_lists lists t | Err e ↦ Err e ]
