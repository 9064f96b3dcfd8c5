-- Names of files as texts: words of the command line, and the names in a list. One that is no UTF-8 becomes a text with the byte 0, which no word
-- of the system has.
use Rattle.std.specs.Prelude.{◌≡◌, ◌==◌, ◌⊎◌, ℕ, Bool, true, false, List, [], ◌∷◌, flat_map, IsUtf8, if◌then◌else◌, nat_lt}
use Rattle.std.specs.List.{AllZip}
use Rattle.std.specs.Fmt.{digits}

-- a byte of such a word: itself if it is ASCII, else the byte 0 and two hexadecimal digits
abbrev pub byte_text : ℕ → List ℕ
byte_text b = if nat_lt b 128 then b ∷ [] else 0 ∷ digits 16 false b

-- such a word
abbrev pub escaped : List ℕ → List ℕ
escaped word = flat_map byte_text word

-- the text of a word is the word itself, if that is UTF-8
abbrev pub IsWordText : List ℕ → List ℕ → Type 0
IsWordText word text = (IsUtf8 word × (text ≡ word)) ⊎ (¬ IsUtf8 word × (text ≡ escaped word))

-- a byte before these names: it begins the first, or is the only name
abbrev pub onto_name : ℕ → List (List ℕ) → List (List ℕ)
onto_name b [] = (b ∷ []) ∷ []
onto_name b (name ∷ names) = (b ∷ name) ∷ names

-- The names in a list: the byte 0 ends each of them, and the last one may end without it.
unfoldable pub names_in : List ℕ → List (List ℕ)
names_in [] = []
names_in (b ∷ bs) = if b == 0 then [] ∷ names_in bs else onto_name b (names_in bs)

-- these are the texts of the names in this list
abbrev pub AreNames : List ℕ → List (List ℕ) → Type 0
AreNames list texts = AllZip IsWordText (names_in list) texts
