-- Lists of features that begin with `mvp`: each word after it adds a feature.
use Rattle.std.specs.Prelude.{◌≡◌, ◌==◌, ℕ, ◌<◌, ◌+◌, Bool, true, false, List, [], ◌∷◌, ◌++◌, All, Contains, length, map, flat_map, take, drop, codes, Ok}
use Rattle.std.specs.Int.RustNames.{bit_and, bit_or}
use Rattle.wasm_types.specs.settings.Features.{mask, vectors_bit, FunctionReferences, Gc}
use Rattle.wasm_check_lines.specs.FeatureWords.{feature_words}
use Rattle.wasm_check_lines.specs.Json.{json_text}
use Rattle.wasm_check_lines.specs.Shown.{shown}
use Rattle.wasm_check_lines.specs.LineLaws.{IsOneLine}
use Rattle.wasm_check_lines.specs.declared.forms.Form.{Form}
use Rattle.wasm_check_lines.specs.declared.forms.Form.TheVariants.{Lines, Json, Quiet}
use Rattle.wasm_check_faults.specs.FeatureLists.{features_of}
use Rattle.wasm_check_faults.specs.declared.word_lists.FeatureWord.{FeatureWord}

-- a comma (44), and a word
abbrev pub next_word : List ℕ → List ℕ
next_word word = 44 ∷ word

-- `mvp` and these words, as a list of `--features`
unfoldable pub listed : List (List ℕ) → List ℕ
listed words = codes "mvp" ++ flat_map next_word words

-- a word and its bits, as a row of the table of words
abbrev pub row_of : FeatureWord → List ℕ × ℕ
row_of w = (w.word.now, w.features.0)

-- the words alone
abbrev pub words_in : List FeatureWord → List (List ℕ)
words_in words = map (λ w. w.word.now) words

-- each is the word of a feature, beside the bits that its name stands for
abbrev pub AreFeatures : List FeatureWord → Type 0
AreFeatures words = All (λ w. Contains feature_words (row_of w)) words

-- ---- lists of which no word can be left out

-- the words without the one at this place
abbrev pub without_word : ℕ → List (List ℕ) → List (List ℕ)
without_word place words = take place words ++ drop (place + 1) words

-- these are the bits of the list with these words, with the switch for operators on vectors
abbrev pub HasBits : List (List ℕ) → ℕ → Type 0
HasBits words bits = (features : ℕ) × (features_of (listed words) ≡ Ok features) × (bits ≡ bit_or features vectors_bit)

-- By the features of the list with these words and with operators on vectors it is valid: `accepts` says by which bits it is.
pub record Suffices (accepts : ℕ → Type 0) (words : List (List ℕ)) : Type 0 where
  pub features : ℕ
  pub named : features_of (listed words) ≡ Ok features
  pub valid : accepts (bit_or features vectors_bit)

-- by those it is not
pub record Lacks (accepts : ℕ → Type 0) (words : List (List ℕ)) : Type 0 where
  pub features : ℕ
  pub named : features_of (listed words) ≡ Ok features
  pub invalid : ¬ accepts (bit_or features vectors_bit)

-- Whether it takes the switch for operators on vectors as well: by the list with these words and without the switch it is valid or not.
abbrev pub HasSwitch : (ℕ → Type 0) → List (List ℕ) → Bool → Type 0
HasSwitch accepts words true = (features : ℕ) × (features_of (listed words) ≡ Ok features) × ¬ accepts features
HasSwitch accepts words false = (features : ℕ) × (features_of (listed words) ≡ Ok features) × accepts features

-- the word of a feature
abbrev pub IsFeature : List ℕ → Type 0
IsFeature word = Contains (map (λ row. row.0) feature_words) word

-- By this list it is valid, and by the list without any one of its words it is not. There may be several such lists, of several lengths.
pub record IsMinimal (accepts : ℕ → Type 0) (words : List (List ℕ)) : Type 0 where
  pub known : All IsFeature words
  pub enough : Suffices accepts words
  pub minimal : (place : ℕ) → place < length words → Lacks accepts (without_word place words)

-- the bits of two features
abbrev pub two_features : ℕ
two_features = bit_or (mask FunctionReferences) (mask Gc)

-- either of the two is enough, as for the null of a defined type
abbrev pub has_either : ℕ → Type 0
has_either bits = (bit_and bits two_features == 0) ≡ false

-- both are needed
abbrev pub has_both : ℕ → Type 0
has_both bits = (bit_and bits two_features == two_features) ≡ true

-- Worked lists: of two features, of which either is enough, each alone is a minimal list. With both, one can be left out.
pub record MinimalRows : Type 0 where
  pub either_first : IsMinimal has_either (codes "function-references" ∷ [])
  pub either_second : IsMinimal has_either (codes "gc" ∷ [])
  pub either_with_both : ¬ IsMinimal has_either (codes "function-references" ∷ codes "gc" ∷ [])
  pub either_with_none : ¬ IsMinimal has_either []
  pub either_with_a_set : ¬ IsMinimal has_either (codes "all" ∷ [])
  pub both : IsMinimal has_both (codes "function-references" ∷ codes "gc" ∷ [])
  pub both_in_turn : IsMinimal has_both (codes "gc" ∷ codes "function-references" ∷ [])
  pub both_with_one : ¬ IsMinimal has_both (codes "gc" ∷ [])
  pub nothing : IsMinimal (λ bits. Unit {0}) []

-- ---- what is written of it

-- what follows the list in a line, if the switch for operators on vectors is needed too
abbrev pub switch_text : Bool → List ℕ
switch_text true = codes " --vectors"
switch_text false = []

-- what follows it in an object: the end of its text, and then the switch
abbrev pub switch_member : Bool → List ℕ
switch_member true = codes "\",\"vectors\":true"
switch_member false = codes "\""

-- `NAME: needs LIST`, the name as it is shown
abbrev pub needs_line : List ℕ → List ℕ → List ℕ
needs_line name list = shown name ++ codes ": needs " ++ list ++ codes "\n"

-- `{"file":"NAME","valid":true,"needs":"LIST"}`; the list ends the text that it begins
abbrev pub needs_object : List ℕ → List ℕ → List ℕ
needs_object name list = codes "{\"file\":\"" ++ json_text name ++ codes "\",\"valid\":true,\"needs\":\"" ++ list ++ codes "}\n"

-- in each form, with these words, and with the switch or without it
abbrev pub needs_text : Form → List ℕ → List (List ℕ) → Bool → List ℕ
needs_text Lines name words vectors = needs_line name (listed words ++ switch_text vectors)
needs_text Json name words vectors = needs_object name (listed words ++ switch_member vectors)
needs_text Quiet name words vectors = []

-- A law: each is one line, whatever the file's name holds; and worked lines.
pub record NeedsEndOnce : Type 0 where
  pub line : (name : List ℕ) (words : List (List ℕ)) (vectors : Bool) → All IsFeature words → IsOneLine (needs_text Lines name words vectors)
  pub object : (name : List ℕ) (words : List (List ℕ)) (vectors : Bool) → All IsFeature words → IsOneLine (needs_text Json name words vectors)
  pub mvp : needs_text Lines (codes "a\n") [] false ≡ codes "a\\u{a}: needs mvp\n"
  pub two : needs_text Lines (codes "a") (codes "gc" ∷ codes "simd" ∷ []) true ≡ codes "a: needs mvp,gc,simd --vectors\n"
  pub two_json : needs_text Json (codes "a") (codes "gc" ∷ codes "simd" ∷ []) false
      ≡ codes "{\"file\":\"a\",\"valid\":true,\"needs\":\"mvp,gc,simd\"}\n"
  pub switch_json : needs_text Json (codes "a") [] true
      ≡ codes "{\"file\":\"a\",\"valid\":true,\"needs\":\"mvp\",\"vectors\":true}\n"
