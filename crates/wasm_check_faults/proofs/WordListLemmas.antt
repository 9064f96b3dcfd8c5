-- On lists that begin with `mvp`.
use Rattle.std.proofs.Common.{◌≡◌, ◌∙◌, ◌+◌, ◌<◌, ◌≤◌, ◌==◌, ℕ, zero, suc, Bool, true, false, not, List, [], ◌∷◌, ◌++◌, All, ap, sym, subst, refl, append-nil, append_assoc, codes, flat_map, length, map, drop, take, get_or, nat_eq, nat_le, arith, lit<, lit≤}
use Rattle.std.specs.Prelude.{Contains, IfOk, IfSome, Option, Some, None, Result, Ok, option_map}
use Rattle.std.specs.Option.{ok_or}
use Rattle.std.specs.Fmt.{◌++?◌, digits}
use Rattle.std.specs.List.{list_all}
use Rattle.std.specs.Str.{chars}
use Rattle.std.specs.Int.RustNames.{bit_or}
use Rattle.std.proofs.lemmas.Bool.{eqb-true}
use Rattle.std.proofs.lemmas.List.{at_drop_more, at_drop_all, length-map, get_or-map}
use Rattle.std.proofs.lemmas.List.Folds.{flat_map-map}
use Rattle.std.proofs.lemmas.Result.{IfOk-weaker}
use Rattle.std.proofs.lemmas.Simd.{map-map}
use Rattle.std.proofs.lemmas.List.Elements.{All-nil, All-append, All-cons, All-contains, All-head, All-map, All-tail, All-take, All-drop, All-weaker, Contains-get_or}
use Rattle.std.proofs.lemmas.List.Splits.{slice_split_none, slice_split_at}
use Rattle.std.proofs.lemmas.List.Sums.{AllPass-from_list_all}
use Rattle.wasm_types.specs.settings.Features.{vectors_bit}
use Rattle.wasm_types.specs.settings.Sets.{bits_of, default_features, mvp}
use Rattle.wasm_check_lines.specs.FeatureWords.{feature_words}
use Rattle.wasm_check_lines.specs.Json.{json_text}
use Rattle.wasm_check_lines.specs.Shown.{shown}
use Rattle.wasm_check_lines.specs.LineLaws.{IsOneLine, StaysInLine}
use Rattle.wasm_check_lines.specs.declared.forms.Form.TheVariants.{Lines, Json}
use Rattle.wasm_check_lines.proofs.InLine.{json_stays, literal, shown_stays}
use Rattle.wasm_check_faults.specs.Lists.{Place, place_of, through, words_of}
use Rattle.wasm_check_faults.specs.FeatureLists.{all_features, Change, Replace, Add, Remove, change_of, changed, features_along, features_of, feature_step}
use Rattle.wasm_check_faults.specs.WordLists.{AreFeatures, IsFeature, Lacks, MinimalRows, NeedsEndOnce, Suffices, has_both, has_either}
use Rattle.wasm_check_faults.specs.WordLists.{listed, needs_line, needs_object, needs_text, next_word, row_of, switch_member, switch_text, without_word, words_in}
use Rattle.wasm_check_faults.specs.declared.word_lists.FeatureWord.{FeatureWord}
use Rattle.wasm_check_faults.proofs.ListLemmas.{taken, ended}

-- ---- the table of words

-- the word adds these bits
abbrev adds : Option Change → ℕ → Bool
adds None bits = false
adds (Some (Replace set)) bits = false
adds (Some (Add feature)) bits = feature == bits
adds (Some (Remove feature)) bits = false

adds_is : (o : Option Change) (bits : ℕ) → adds o bits ≡ true → o ≡ Some (Add bits)
adds_is None bits e = absurd cc
adds_is (Some (Replace set)) bits e = absurd cc
adds_is (Some (Add feature)) bits e = ap (λ b. Some (Add b)) (eqb-true feature bits e)
adds_is (Some (Remove feature)) bits e = absurd cc

-- a byte that is no comma
abbrev is_plain : ℕ → Bool
is_plain b = not (b == 44)

is_not : (t : Bool) → not t ≡ true → t ≡ false
is_not true e = absurd cc
is_not false e = refl

plain_is : (b : ℕ) → is_plain b ≡ true → (b == 44) ≡ false
plain_is b = is_not (b == 44)

abbrev HasNoComma : List ℕ → Type 0
HasNoComma word = All (λ b. (b == 44) ≡ false) word

no_comma : (word : List ℕ) → list_all is_plain word ≡ true → HasNoComma word
no_comma word e = All-weaker (λ b. is_plain b ≡ true) (λ b. (b == 44) ≡ false) plain_is word (AllPass-from_list_all is_plain word e)

abbrev Row : Type 0
Row = List ℕ × ℕ

-- each row of the table has a word that adds its bits, without a comma, and which stays in its line
all_add : All (λ (row : Row). adds (change_of row.0) row.1 ≡ true) feature_words
unfolding feature_words
all_add = AllPass-from_list_all (λ (row : Row). adds (change_of row.0) row.1) feature_words refl

all_plain : All (λ (row : Row). list_all is_plain row.0 ≡ true) feature_words
unfolding feature_words
all_plain = AllPass-from_list_all (λ (row : Row). list_all is_plain row.0) feature_words refl

all_in_line : All (λ (row : Row). list_all (λ b. nat_le 32 b) row.0 ≡ true) feature_words
unfolding feature_words
all_in_line = AllPass-from_list_all (λ (row : Row). list_all (λ b. nat_le 32 b) row.0) feature_words refl

-- ---- the features of a list

-- the bits that these words add
pub added : List FeatureWord → ℕ → ℕ
added [] bits = bits
added (w ∷ ws) bits = added ws (bit_or bits w.features.0)

words_split : (front : List ℕ) (words : List (List ℕ)) → HasNoComma front → All HasNoComma words
    → words_of (front ++ flat_map next_word words) ≡ front ∷ words
words_split front [] p h = ap words_of (append-nil front) ∙ slice_split_none (λ b. b == 44) front p
words_split front (w ∷ ws) p h =
    slice_split_at (λ b. b == 44) front 44 (w ++ flat_map next_word ws) p refl
    ∙ ap (λ (rest : List (List ℕ)). front ∷ rest) (words_split w ws (All-head HasNoComma w ws h) (All-tail HasNoComma w ws h))

word_added : (place : Place) (w : FeatureWord) (bits : ℕ) → Contains feature_words (row_of w)
    → feature_step place w.word.now bits ≡ Ok (bit_or bits w.features.0)
word_added place w bits c =
    ap (λ (o : Option Change). ok_or (option_map (λ change. changed change bits) o) place)
    (adds_is (change_of w.word.now) w.features.0 (All-contains (λ (row : Row). adds (change_of row.0) row.1 ≡ true) feature_words (row_of w) all_add c))

words_added : (start : ℕ) (ws : List FeatureWord) (bits : ℕ) → AreFeatures ws → through feature_step start (words_in ws) bits ≡ Ok (added ws bits)
unfolding added
words_added start [] bits h = ended feature_step start bits
words_added start (w ∷ ws) bits h =
    taken feature_step start w.word.now (words_in ws) bits (bit_or bits w.features.0)
    (word_added (place_of start w.word.now) w bits (All-head (λ (x : FeatureWord). Contains feature_words (row_of x)) w ws h))
    ∙ words_added (start + length w.word.now + 1) ws (bit_or bits w.features.0) (All-tail (λ (x : FeatureWord). Contains feature_words (row_of x)) w ws h)

no_commas : (ws : List FeatureWord) → AreFeatures ws → All HasNoComma (words_in ws)
no_commas ws h = All-map HasNoComma (λ (w : FeatureWord). w.word.now) ws
    (All-weaker (λ (w : FeatureWord). Contains feature_words (row_of w)) (λ (w : FeatureWord). HasNoComma w.word.now)
    (λ w c. no_comma w.word.now (All-contains (λ (row : Row). list_all is_plain row.0 ≡ true) feature_words (row_of w) all_plain c)) ws h)

pub listed_is : (ws : List FeatureWord) → AreFeatures ws → features_of (listed (words_in ws)) ≡ Ok (added ws (bits_of mvp))
unfolding features_along listed
listed_is ws h =
    ap (λ (words : List (List ℕ)). through feature_step 0 words (bits_of default_features))
    (words_split (codes "mvp") (words_in ws) (no_comma (codes "mvp") refl) (no_commas ws h))
    ∙ taken feature_step 0 (codes "mvp") (words_in ws) (bits_of default_features) (bits_of mvp) refl
    ∙ words_added 4 ws (bits_of mvp) h

-- ---- lines

both : (xs ys : List ℕ) → StaysInLine xs → StaysInLine ys → StaysInLine (xs ++ ys)
both = All-append (λ b. 32 ≤ b)

feature_stays : (word : List ℕ) → IsFeature word → StaysInLine word
feature_stays word c = literal word (All-contains (λ (w : List ℕ). list_all (λ b. nat_le 32 b) w ≡ true) (map (λ (row : Row). row.0) feature_words) word
    (All-map (λ (w : List ℕ). list_all (λ b. nat_le 32 b) w ≡ true) (λ (row : Row). row.0) feature_words all_in_line) c)

words_stay : (words : List (List ℕ)) → All IsFeature words → StaysInLine (flat_map next_word words)
words_stay [] h = literal [] refl
words_stay (w ∷ ws) h = both (44 ∷ w) (flat_map next_word ws) (All-cons (λ b. 32 ≤ b) 44 w (lit≤ tt) (feature_stays w (All-head IsFeature w ws h)))
    (words_stay ws (All-tail IsFeature w ws h))

list_stays : (words : List (List ℕ)) → All IsFeature words → StaysInLine (listed words)
unfolding listed
list_stays words h = both (codes "mvp") (flat_map next_word words) (literal (codes "mvp") refl) (words_stay words h)

switch_stays : (vectors : Bool) → StaysInLine (switch_text vectors)
switch_stays true = literal (codes " --vectors") refl
switch_stays false = literal [] refl

member_stays : (vectors : Bool) → StaysInLine (switch_member vectors)
member_stays true = literal (codes "\",\"vectors\":true") refl
member_stays false = literal (codes "\"") refl

line_of : (name list : List ℕ) → StaysInLine list → IsOneLine (needs_line name list)
line_of name list s = record {
  front = shown name ++ codes ": needs " ++ list;
  inside = both (shown name ++ codes ": needs ") list (both (shown name) (codes ": needs ") (shown_stays name) (literal (codes ": needs ") refl)) s;
  ended = refl;
}

line_ends : (name : List ℕ) (words : List (List ℕ)) (vectors : Bool) → All IsFeature words → IsOneLine (needs_text Lines name words vectors)
line_ends name words vectors h =
    line_of name (listed words ++ switch_text vectors) (both (listed words) (switch_text vectors) (list_stays words h) (switch_stays vectors))

object_of : (name list : List ℕ) → StaysInLine list → IsOneLine (needs_object name list)
object_of name list s =
    let a = codes "{\"file\":\"" in
    let b = codes "\",\"valid\":true,\"needs\":\"" in
    let all = a ++ json_text name ++ b ++ list in
    let in_name : StaysInLine (a ++ json_text name) = both a (json_text name) (literal a refl) (json_stays name) in
    let in_valid : StaysInLine (a ++ json_text name ++ b) = both (a ++ json_text name) b in_name (literal b refl) in
    record {
      front = all ++ codes "}";
      inside = both all (codes "}") (both (a ++ json_text name ++ b) list in_valid s) (literal (codes "}") refl);
      ended = sym (append_assoc all (codes "}") (10 ∷ []));
    }

object_ends : (name : List ℕ) (words : List (List ℕ)) (vectors : Bool) → All IsFeature words → IsOneLine (needs_text Json name words vectors)
object_ends name words vectors h =
    object_of name (listed words ++ switch_member vectors) (both (listed words) (switch_member vectors) (list_stays words h) (member_stays vectors))

pub needs_end : NeedsEndOnce
unfolding shown json_text listed chars digits lib.Utf8.encode
needs_end = record { line = line_ends; object = object_ends; mvp = refl; two = refl; two_json = refl; switch_json = refl }

-- ---- worked lists of which no word can be left out
module _ (accepts : ℕ → Type 0) (words : List (List ℕ)) (bits : ℕ) (named : features_of (listed words) ≡ Ok bits) where
  same : (features : ℕ) → features_of (listed words) ≡ Ok features → bits ≡ features
  same features e = let k : Ok bits ≡ Ok features = sym named ∙ e in cc

  -- what is valid by this list is valid by its bits
  suffices_not : ¬ accepts (bit_or bits vectors_bit) → ¬ Suffices accepts words
  suffices_not n s = n (subst (λ (b : ℕ). accepts (bit_or b vectors_bit)) (sym (same s.features s.named)) s.valid)

  lacks_not : accepts (bit_or bits vectors_bit) → ¬ Lacks accepts words
  lacks_not a l = l.invalid (subst (λ (b : ℕ). accepts (bit_or b vectors_bit)) (same l.features l.named) a)

-- nothing is below a list of no words
none_left_out : (accepts : ℕ → Type 0) (place : ℕ) → place < 0 → Lacks accepts (without_word place [])
none_left_out accepts place l = absurd (omega (arith, l))

-- a list of one word
one_left_out : (accepts : ℕ → Type 0) (word : List ℕ) → Lacks accepts [] → (place : ℕ) → place < 1
    → Lacks accepts (without_word place (word ∷ []))
one_left_out accepts word k zero l = k
one_left_out accepts word k (suc n) l = absurd (omega (arith, l))

-- a list of two words
two_left_out : (accepts : ℕ → Type 0) (first second : List ℕ) → Lacks accepts (second ∷ []) → Lacks accepts (first ∷ []) → (place : ℕ) → place < 2
    → Lacks accepts (without_word place (first ∷ second ∷ []))
two_left_out accepts first second k g zero l = k
two_left_out accepts first second k g (suc zero) l = g
two_left_out accepts first second k g (suc (suc n)) l = absurd (omega (arith, l))

no_words : All IsFeature []
no_words = All-nil IsFeature

reference_known : IsFeature (codes "function-references")
unfolding feature_words
reference_known = (17, lit< tt, refl)

gc_known : IsFeature (codes "gc")
unfolding feature_words
gc_known = (19, lit< tt, refl)

-- no feature's word has three letters
set_unknown : ¬ IsFeature (codes "all")
unfolding feature_words
set_unknown c = absurd (let e : true ≡ false = All-contains (λ (w : List ℕ). nat_eq (length w) 3 ≡ false) (map (λ (row : Row). row.0) feature_words)
    (codes "all") three c in cc)
  where
    three : All (λ (w : List ℕ). nat_eq (length w) 3 ≡ false) (map (λ (row : Row). row.0) feature_words)
    three = All-weaker (λ (w : List ℕ). not (nat_eq (length w) 3) ≡ true) (λ (w : List ℕ). nat_eq (length w) 3 ≡ false) (λ w. is_not (nat_eq (length w) 3))
        (map (λ (row : Row). row.0) feature_words)
        (AllPass-from_list_all (λ (w : List ℕ). not (nat_eq (length w) 3)) (map (λ (row : Row). row.0) feature_words) refl)

pub minimal_rows : MinimalRows
unfolding through features_along feature_words listed
minimal_rows = record {
  either_first = record {
    known = All-cons IsFeature (codes "function-references") [] reference_known no_words;
    enough = record { features = 0x420800; named = refl; valid = refl };
    minimal = one_left_out has_either (codes "function-references") none_is_too_few;
  };
  either_second = record {
    known = All-cons IsFeature (codes "gc") [] gc_known no_words;
    enough = record { features = 0x480800; named = refl; valid = refl };
    minimal = one_left_out has_either (codes "gc") none_is_too_few;
  };
  either_with_both = λ m. lacks_not has_either (codes "gc" ∷ []) 0x480800 refl refl (m.minimal 0 (lit< tt));
  either_with_none = λ m. suffices_not has_either [] 0x400800 refl (λ e. cc) m.enough;
  either_with_a_set = λ m. set_unknown (All-head IsFeature (codes "all") [] m.known);
  both = record {
    known = All-cons IsFeature (codes "function-references") (codes "gc" ∷ []) reference_known (All-cons IsFeature (codes "gc") [] gc_known no_words);
    enough = record { features = 0x4a0800; named = refl; valid = refl };
    minimal = two_left_out has_both (codes "function-references") (codes "gc") gc_is_too_few reference_is_too_few;
  };
  both_in_turn = record {
    known = All-cons IsFeature (codes "gc") (codes "function-references" ∷ []) gc_known (All-cons IsFeature (codes "function-references") [] reference_known no_words);
    enough = record { features = 0x4a0800; named = refl; valid = refl };
    minimal = two_left_out has_both (codes "gc") (codes "function-references") reference_is_too_few gc_is_too_few;
  };
  both_with_one = λ m. suffices_not has_both (codes "gc" ∷ []) 0x480800 refl (λ e. cc) m.enough;
  nothing = record {
    known = no_words;
    enough = record { features = 0x400800; named = refl; valid = tt };
    minimal = none_left_out (λ bits. Unit {0});
  };
}
  where
    none_is_too_few : Lacks has_either []
    none_is_too_few = record { features = 0x400800; named = refl; invalid = λ e. cc }

    gc_is_too_few : Lacks has_both (codes "gc" ∷ [])
    gc_is_too_few = record { features = 0x480800; named = refl; invalid = λ e. cc }

    reference_is_too_few : Lacks has_both (codes "function-references" ∷ [])
    reference_is_too_few = record { features = 0x420800; named = refl; invalid = λ e. cc }

-- ---- texts that were formatted of several parts
module _ {S E : Type 0} (bytes : S → List ℕ) (r : Result S E) (a b d e : List ℕ) where
  -- of four
  pub text_of_4 : IfOk r (λ s. IfSome (Some a ++? Some b ++? Some d ++? Some e) (λ bs. bytes s ≡ bs)) → IfOk r (λ s. bytes s ≡ a ++ b ++ d ++ e)
  text_of_4 k = IfOk-weaker r _ _ (λ s x. simp append_assoc x) k

  -- of five
  pub text_of_5 : (f : List ℕ) → IfOk r (λ s. IfSome (Some a ++? Some b ++? Some d ++? Some e ++? Some f) (λ bs. bytes s ≡ bs))
      → IfOk r (λ s. bytes s ≡ a ++ b ++ d ++ e ++ f)
  text_of_5 f k = IfOk-weaker r _ _ (λ s x. simp append_assoc x) k

-- ---- places

contains_map : {X Y : Type 0} (f : X → Y) (xs : List X) (x : X) → Contains xs x → Contains (map f xs) (f x)
contains_map f xs x c = (c.0, omega (arith, c.1, length-map xs f), get_or-map f xs c.0 x (f x) c.1 ∙ ap f c.2)

-- the words are those of features
pub words_known : (ws : List FeatureWord) → AreFeatures ws → All IsFeature (words_in ws)
words_known ws h = All-map IsFeature (λ (w : FeatureWord). w.word.now) ws
    (All-weaker (λ (w : FeatureWord). Contains feature_words (row_of w)) (λ (w : FeatureWord). IsFeature w.word.now)
    (λ w c. contains_map (λ (r : Row). r.0) feature_words (row_of w) c) ws h)

-- all features
pub all_known : (ws : List FeatureWord) → map row_of ws ≡ feature_words → AreFeatures ws
all_known ws e k d l =
    subst (λ (rows : List Row). Contains rows (row_of (get_or ws k d))) e (contains_map row_of ws (get_or ws k d) (Contains-get_or ws k d l))

all_listed : features_of (listed (map (λ (r : Row). r.0) feature_words)) ≡ Ok (bits_of all_features)
unfolding through features_along feature_words listed
all_listed = refl

pub all_named : (ws : List FeatureWord) → map row_of ws ≡ feature_words → features_of (listed (words_in ws)) ≡ Ok (bits_of all_features)
all_named ws e =
    ap (λ (words : List (List ℕ)). features_of (listed words)) (sym (map-map (λ (r : Row). r.0) row_of ws) ∙ ap (map (λ (r : Row). r.0)) e) ∙ all_listed

-- without one of them
pub fewer_known : (ws : List FeatureWord) (place : ℕ) → AreFeatures ws → AreFeatures (take place ws ++ drop (place + 1) ws)
fewer_known ws place h =
    let P = λ (w : FeatureWord). Contains feature_words (row_of w) in
    All-append P (take place ws) (drop (place + 1) ws) (All-take P place ws h) (All-drop P (place + 1) ws h)

-- ---- loops

-- the word at this place is added
pub added_more : (ws : List FeatureWord) (i : ℕ) (d : FeatureWord) (bits : ℕ) → i < length ws
    → added (drop i ws) bits ≡ added (drop (i + 1) ws) (bit_or bits (get_or ws i d).features.0)
unfolding added
added_more ws i d bits l = at_drop_more (λ (xs : List FeatureWord). added xs bits) ws i d l

-- none is left
pub added_all : (ws : List FeatureWord) (i bits : ℕ) → length ws ≤ i → added (drop i ws) bits ≡ bits
unfolding added
added_all ws i bits l = at_drop_all (λ (xs : List FeatureWord). added xs bits) ws i l

-- the words one by one, or their list
pub words_flat : (ws : List FeatureWord) → flat_map next_word (words_in ws) ≡ flat_map (λ w. next_word w.word.now) ws
words_flat ws = flat_map-map next_word (λ (w : FeatureWord). w.word.now) ws
