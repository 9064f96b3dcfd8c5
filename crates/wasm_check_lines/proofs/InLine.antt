-- What is shown stays within its line.
use Rattle.std.proofs.Common.{◌&&◌, ◌≡◌, ◌<◌, ◌≤◌, ◌+◌, ◌/◌, ◌%◌, ◌==◌, ℕ, zero, suc, Bool, true, false, List, [], ◌∷◌, ◌++◌, cond, sym, refl, length, encode_utf8, codes, flat_map, get_or, append-nil, append_assoc, arith, nat_lt, nat_le, ◌⊎◌, inl, inr, rules}
use Rattle.std.proofs.lemmas.Bool.{cases_lt}
use Rattle.std.proofs.lemmas.Grind.{common_steps}
use Rattle.std.specs.List.{list_all}
use Rattle.std.proofs.lemmas.List.Sums.{AllPass-from_list_all}
use Rattle.std.specs.Fmt.{digits, digits_onto, digit_glyph, decimal}
use Rattle.std.specs.Str.{chars}
use Rattle.std.proofs.lemmas.Str.{inside_one}
use Rattle.std.proofs.lemmas.List.Elements.{All-weaker, All-append, All-cons, All-nil, All-from_get_or}
use Rattle.wasm_check_lines.specs.Shown.{shown, shown_char, is_unshown, escape}
use Rattle.wasm_check_lines.specs.LineLaws.{StaysInLine, IsOneLine, LinesEndOnce}
use Rattle.std.specs.Prelude.{IfSome, Option, Some, None, String, string_bytes, option_map}
use Rattle.wasm_types.specs.decoding.ErrorValue.{ErrorValue}
use Rattle.wasm_types.specs.decoding.declared.error.ErrorKind.{ErrorKind}
use Rattle.wasm_types.specs.decoding.declared.error.ErrorKind.TheVariants.{EndOfData, MissingFeature, OutOfMemory, Failed, Other}
use Rattle.wasm_check_lines.specs.Json.{json_text, json_char, json_escape, zeros}
use Rattle.wasm_check_lines.specs.FeatureWords.{worded, first_word, word_for, words_from_0, words_from_7, words_from_14, words_from_21}
use Rattle.wasm_types.specs.settings.declared.Limits.{Limits}
use Rattle.wasm_types.specs.settings.declared.WasmFeatures.{WasmFeatures}
use Rattle.wasm_check_lines.specs.declared.limit.Limit.{Limit as Chosen}
use Rattle.wasm_check_lines.specs.declared.limit.Limit.TheVariants as limits
use Rattle.wasm_check_lines.specs.declared.causes.Cause.{Cause}
use Rattle.wasm_check_lines.specs.declared.causes.Cause.TheVariants.{Vectors, Limit, Feature, FixedLimit, Types, Another}
use Rattle.wasm_check_lines.specs.Causes.{cause_of}
use Rattle.wasm_check_lines.specs.Limits.{is_highest, word_of}
use Rattle.wasm_check_lines.specs.Hints.{feature_hint, features_hint, framed, is_text, limit_help, limit_hint, text_hint, hint_for, hint_of}
use Rattle.wasm_check_lines.specs.Forms.{valid_line, invalid_line, hint_line, valid_object, invalid_object, error_word, kind_word, cause_member, help_members, hint_member, refusal_object}
use Rattle.wasm_check_lines.specs.Explanations.{array_text, explanation_member, member_text, next_item, note_line, value_text}
use Rattle.wasm_check_lines.specs.declared.notes.Explanation.{Explanation}
use Rattle.wasm_check_lines.specs.declared.notes.Member.{Member}
use Rattle.wasm_check_lines.specs.declared.notes.Value.{Value}
use Rattle.wasm_check_lines.specs.declared.notes.Value.TheVariants.{Number, Flag, Text, Texts}
use Rattle.std.specs.declared.alloc.Global.{Global}

-- both halves of a conjunction
first_holds : (a b : Bool) → (a && b) ≡ true → a ≡ true
first_holds true b e = refl
first_holds false b e = absurd cc

rest_holds : (a b : Bool) → (a && b) ≡ true → b ≡ true
rest_holds true b e = e
rest_holds false b e = absurd cc

-- either of two
chosen : (b : Bool) (xs ys : List ℕ) → StaysInLine xs → StaysInLine ys → StaysInLine (cond b xs ys)
chosen true xs ys p q = p
chosen false xs ys p q = q

both : (xs ys : List ℕ) → StaysInLine xs → StaysInLine ys → StaysInLine (xs ++ ys)
both = All-append (λ b. 32 ≤ b)

one_more : (b : ℕ) (xs : List ℕ) → 32 ≤ b → StaysInLine xs → StaysInLine (b ∷ xs)
one_more = All-cons (λ b. 32 ≤ b)

nothing : StaysInLine []
nothing = All-nil (λ b. 32 ≤ b)

glyph : (d : ℕ) → 32 ≤ digit_glyph false d
glyph d = chosen_glyph (nat_lt d 10)
  where
    chosen_glyph : (b : Bool) → 32 ≤ cond b (48 + d) (87 + d)
    chosen_glyph true = omega arith
    chosen_glyph false = omega arith

onto : (k base n : ℕ) (acc : List ℕ) → StaysInLine acc → StaysInLine (digits_onto k base false n acc)
onto zero base n acc h = h
onto (suc k) base n acc h =
    let more = one_more (digit_glyph false (n % base)) acc (glyph (n % base)) h in
    chosen (n / base == 0) _ _ more (onto k base (n / base) (digit_glyph false (n % base) ∷ acc) more)

pub digits_stay : (base n : ℕ) → StaysInLine (digits base false n)
unfolding digits
digits_stay base n = onto 64 base n [] nothing

-- a character that is shown
below_space : (c : ℕ) → c < 32 → is_unshown c ≡ true
below_space c h = grind (arith, common_steps)

other_stays : (c : ℕ) → is_unshown c ≡ false → StaysInLine (encode_utf8 c)
other_stays c e = All-from_get_or (λ b. 32 ≤ b) (encode_utf8 c) 0 (λ k h. at k h (cases_lt (get_or (encode_utf8 c) k 0) 32))
  where
    at : (k : ℕ) → k < length (encode_utf8 c) → (get_or (encode_utf8 c) k 0 < 32) ⊎ (32 ≤ get_or (encode_utf8 c) k 0) → 32 ≤ get_or (encode_utf8 c) k 0
    at k h (inr p) = p
    at k h (inl p) =
        let same : c ≡ get_or (encode_utf8 c) k 0 = inside_one c [] (encode_utf8 c) k (sym (append-nil (encode_utf8 c))) h (omega (arith, p)) in
        let low : is_unshown c ≡ true = below_space c (omega (arith, p, same)) in
        absurd cc

escape_stays : (c : ℕ) → StaysInLine (escape c)
escape_stays c = both (codes "\\u{" ++ digits 16 false c) (codes "}") (both (codes "\\u{") (digits 16 false c) (search rules) (digits_stay 16 c)) (search rules)

-- a literal, by computing
pub literal : (text : List ℕ) → list_all (λ b. nat_le 32 b) text ≡ true → StaysInLine text
literal text e = All-weaker (λ b. nat_le 32 b ≡ true) (λ b. 32 ≤ b) (λ b t. grind (arith, common_steps)) text (AllPass-from_list_all (λ b. nat_le 32 b) text e)

-- a character that has its code, or stands for itself
by_code : (c : ℕ) (code : List ℕ) (b : Bool) → StaysInLine code → is_unshown c ≡ b → StaysInLine (cond b code (encode_utf8 c))
by_code c code true h e = h
by_code c code false h e = other_stays c e

char_stays : (c : ℕ) → StaysInLine (shown_char c)
char_stays c = chosen (c == 92) _ _ (literal (codes "\\\\") refl) (by_code c (escape c) (is_unshown c) (escape_stays c) refl)

zeros_stay : (c : ℕ) → StaysInLine (zeros c)
zeros_stay c = chosen (nat_lt c 16) _ _ (literal (codes "000") refl)
    (chosen (nat_lt c 256) _ _ (literal (codes "00") refl) (chosen (nat_lt c 4096) _ _ (literal (codes "0") refl) nothing))

json_escape_stays : (c : ℕ) → StaysInLine (json_escape c)
json_escape_stays c = both (codes "\\u" ++ zeros c) (digits 16 false c) (both (codes "\\u") (zeros c) (literal (codes "\\u") refl) (zeros_stay c)) (digits_stay 16 c)

json_char_stays : (c : ℕ) → StaysInLine (json_char c)
json_char_stays c = chosen (c == 34) _ _ (literal (codes "\\\"") refl)
    (chosen (c == 92) _ _ (literal (codes "\\\\") refl) (by_code c (json_escape c) (is_unshown c) (json_escape_stays c) refl))

json_chars_stay : (cs : List ℕ) → StaysInLine (flat_map json_char cs)
json_chars_stay [] = nothing
json_chars_stay (c ∷ cs) = both (json_char c) (flat_map json_char cs) (json_char_stays c) (json_chars_stay cs)

pub json_stays : (text : List ℕ) → StaysInLine (json_text text)
unfolding json_text
json_stays text = json_chars_stay (chars text)

chars_stay : (cs : List ℕ) → StaysInLine (flat_map shown_char cs)
chars_stay [] = nothing
chars_stay (c ∷ cs) = both (shown_char c) (flat_map shown_char cs) (char_stays c) (chars_stay cs)

pub shown_stays : (text : List ℕ) → StaysInLine (shown text)
unfolding shown
shown_stays text = chars_stay (chars text)

-- ---- hints

-- a word of a feature
abbrev pub stays_if : Option (List ℕ) → Type 0
stays_if None = Unit {0}
stays_if (Some word) = StaysInLine word

worded_stays : (rows : List (List ℕ × ℕ)) (bits : ℕ) → list_all (λ row. list_all (λ b. nat_le 32 b) row.0) rows ≡ true → stays_if (worded rows bits)
worded_stays [] bits e = tt
worded_stays (row ∷ rows) bits e = here (bits == row.1) (first_holds (list_all (λ b. nat_le 32 b) row.0) _ e) (worded_stays rows bits (rest_holds (list_all (λ b. nat_le 32 b) row.0) _ e))
  where
    here : (b : Bool) → list_all (λ b. nat_le 32 b) row.0 ≡ true → stays_if (worded rows bits) → stays_if (cond b (Some row.0) (worded rows bits))
    here true p q = literal row.0 p
    here false p q = q

first_stays : (a b : Option (List ℕ)) → stays_if a → stays_if b → stays_if (first_word a b)
first_stays (Some word) b p q = p
first_stays None b p q = q

pub word_stays : (bits : ℕ) → stays_if (word_for bits)
word_stays bits = first_stays _ _ (worded_stays words_from_0 bits refl)
    (first_stays _ _ (worded_stays words_from_7 bits refl) (first_stays _ _ (worded_stays words_from_14 bits refl) (worded_stays words_from_21 bits refl)))

-- either of two
either_stays : (b : Bool) (x y : Option (List ℕ)) → stays_if x → stays_if y → stays_if (cond b x y)
either_stays true x y p q = p
either_stays false x y p q = q

-- the word of a limit
limit_word_stays : (l : Chosen) → StaysInLine (word_of l)
limit_word_stays limits.Types = literal (codes "types") refl
limit_word_stays limits.Params = literal (codes "params") refl
limit_word_stays limits.Results = literal (codes "results") refl
limit_word_stays limits.Fields = literal (codes "fields") refl
limit_word_stays limits.StringBytes = literal (codes "string-bytes") refl
limit_word_stays limits.Imports = literal (codes "imports") refl
limit_word_stays limits.Exports = literal (codes "exports") refl
limit_word_stays limits.Functions = literal (codes "functions") refl
limit_word_stays limits.Globals = literal (codes "globals") refl
limit_word_stays limits.Tags = literal (codes "tags") refl
limit_word_stays limits.Tables = literal (codes "tables") refl
limit_word_stays limits.Memories = literal (codes "memories") refl
limit_word_stays limits.ElementSegments = literal (codes "element-segments") refl
limit_word_stays limits.DataSegments = literal (codes "data-segments") refl
limit_word_stays limits.SegmentItems = literal (codes "segment-items") refl
limit_word_stays limits.BodyBytes = literal (codes "body-bytes") refl
limit_word_stays limits.SelectTypes = literal (codes "select-types") refl
limit_word_stays limits.Locals = literal (codes "locals") refl
limit_word_stays limits.Catches = literal (codes "catches") refl
limit_word_stays limits.SubtypingDepth = literal (codes "subtyping-depth") refl
limit_word_stays limits.TypeSize = literal (codes "type-size") refl

between : (a word b : List ℕ) → list_all (λ b. nat_le 32 b) a ≡ true → StaysInLine word → list_all (λ b. nat_le 32 b) b ≡ true → StaysInLine (a ++ word ++ b)
between a word b p h q = both (a ++ word) b (both a word (literal a p) h) (literal b q)

between_texts : (a text b : List ℕ) → StaysInLine a → StaysInLine text → list_all (λ b. nat_le 32 b) b ≡ true → StaysInLine (a ++ text ++ b)
between_texts a text b p h q = both (a ++ text) b (both a text p h) (literal b q)

text_hint_stays : (front : List ℕ) → stays_if (text_hint front)
text_hint_stays front = either_stays (is_text front) _ _ (literal (codes "this is the text format; wasm-check judges the binary format") refl) tt

limit_hint_stays : (word : List ℕ) → StaysInLine word → StaysInLine (limit_hint word)
unfolding limit_hint
limit_hint_stays word h = between (codes "--limits ") word (codes "=N sets this limit") refl h refl

feature_hint_stays : (word : List ℕ) → StaysInLine word → StaysInLine (feature_hint word)
unfolding feature_hint
feature_hint_stays word h = between (codes "--features ") word (codes " allows it") refl h refl

mapped_stays : (o : Option (List ℕ)) → stays_if o → stays_if (option_map feature_hint o)
mapped_stays None h = tt
mapped_stays (Some word) h = feature_hint_stays word h

features_hint_stays : (f : WasmFeatures) → stays_if (features_hint f)
features_hint_stays f = mapped_stays (word_for f.0) (word_stays f.0)

limit_help_stays : (l : Limits) (limit : Chosen) → StaysInLine (limit_help l limit)
limit_help_stays l limit = chosen (is_highest limit l) _ _ (literal (codes "no option raises this limit") refl) (limit_hint_stays (word_of limit) (limit_word_stays limit))

hint_for_stays : (l : Limits) (c : Cause) (front : List ℕ) → stays_if (hint_for l c front)
hint_for_stays l Vectors front = literal (codes "--vectors judges operators on vectors") refl
hint_for_stays l (Limit limit) front = limit_help_stays l limit
hint_for_stays l (Feature features) front = features_hint_stays features
hint_for_stays l FixedLimit front = tt
hint_for_stays l Types front = tt
hint_for_stays l Another front = text_hint_stays front

pub hint_stays : (l : Limits) (e : ErrorValue) (front : List ℕ) → stays_if (hint_of l e front)
hint_stays l e front = hint_for_stays l (cause_of l e) front

-- ---- the lines

valid_ends : (name : List ℕ) → IsOneLine (valid_line name)
valid_ends name = record {
  front = shown name ++ codes ": valid";
  inside = both (shown name) (codes ": valid") (shown_stays name) (literal (codes ": valid") refl);
  ended = sym (append_assoc (shown name) (codes ": valid") (10 ∷ []));
}

invalid_ends : (name : List ℕ) (e : ErrorValue) → IsOneLine (invalid_line name e)
invalid_ends name e = record {
  front = shown name ++ codes ": invalid at 0x" ++ digits 16 false e.offset ++ codes ": " ++ shown e.message;
  inside = both _ _ (both _ _ (both _ _ (both _ _ (shown_stays name) (literal (codes ": invalid at 0x") refl)) (digits_stay 16 e.offset))
      (literal (codes ": ") refl)) (shown_stays e.message);
  ended = refl;
}

hint_line_ends : (o : Option (List ℕ)) → stays_if o → IfSome o (λ h. IsOneLine (hint_line (Some h)))
hint_line_ends None h = tt
hint_line_ends (Some hint) h = record {
  front = codes "  " ++ hint;
  inside = both (codes "  ") hint (literal (codes "  ") refl) h;
  ended = refl;
}

note_ends : (text : List ℕ) → IsOneLine (note_line text)
note_ends text = record {
  front = codes "  " ++ shown text;
  inside = both (codes "  ") (shown text) (literal (codes "  ") refl) (shown_stays text);
  ended = refl;
}

object_ends : (name : List ℕ) → IsOneLine (valid_object name)
object_ends name = record {
  front = codes "{\"file\":\"" ++ json_text name ++ codes "\",\"valid\":true}";
  inside = both (codes "{\"file\":\"" ++ json_text name) (codes "\",\"valid\":true}")
      (both (codes "{\"file\":\"") (json_text name) (literal (codes "{\"file\":\"") refl) (json_stays name)) (literal (codes "\",\"valid\":true}") refl);
  ended = sym (append_assoc (codes "{\"file\":\"" ++ json_text name) (codes "\",\"valid\":true}") (10 ∷ []));
}

error_stays : (k : ErrorKind) → StaysInLine (error_word k)
error_stays (EndOfData n) = literal (codes "end-of-data") refl
error_stays (MissingFeature f) = literal (codes "other") refl
error_stays OutOfMemory = literal (codes "out-of-memory") refl
error_stays Failed = literal (codes "failed") refl
error_stays Other = literal (codes "other") refl

kind_stays : (c : Cause) (k : ErrorKind) → StaysInLine (kind_word c k)
kind_stays Vectors k = literal (codes "vectors") refl
kind_stays (Limit limit) k = literal (codes "limit") refl
kind_stays (Feature features) k = literal (codes "missing-feature") refl
kind_stays FixedLimit k = error_stays k
kind_stays Types k = literal (codes "types") refl
kind_stays Another k = error_stays k

framed_stays : (a : List ℕ) (o : Option (List ℕ)) (b : List ℕ) → list_all (λ b. nat_le 32 b) a ≡ true → stays_if o
    → list_all (λ b. nat_le 32 b) b ≡ true → StaysInLine (framed a o b)
framed_stays a None b p h q = nothing
framed_stays a (Some text) b p h q = between a text b p h q

member_stays : (c : Cause) → StaysInLine (cause_member c)
member_stays Vectors = nothing
member_stays (Limit limit) = between (codes ",\"limit\":\"") (word_of limit) (codes "\"") refl (limit_word_stays limit) refl
member_stays (Feature features) = framed_stays (codes ",\"feature\":\"") (word_for features.0) (codes "\"") refl (word_stays features.0) refl
member_stays FixedLimit = nothing
member_stays Types = nothing
member_stays Another = nothing

hint_member_stays : (o : Option (List ℕ)) → stays_if o → StaysInLine (hint_member o)
hint_member_stays o h = framed_stays (codes ",\"hint\":\"") o (codes "\"") refl h refl

item_stays : (text : List ℕ) → StaysInLine (next_item text)
item_stays text = both (codes ",\"" ++ json_text text) (codes "\"") (both (codes ",\"") (json_text text) (literal (codes ",\"") refl) (json_stays text)) (literal (codes "\"") refl)

items_stay : (texts : List (String Global)) → StaysInLine (flat_map (λ n. next_item (string_bytes n)) texts)
items_stay [] = nothing
items_stay (text ∷ texts) = both (next_item (string_bytes text)) (flat_map (λ n. next_item (string_bytes n)) texts) (item_stays (string_bytes text)) (items_stay texts)

array_stays : (texts : List (String Global)) → StaysInLine (array_text texts)
array_stays [] = literal (codes "[]") refl
array_stays (text ∷ texts) = let rest = flat_map (λ n. next_item (string_bytes n)) texts in
    between_texts (codes "[\"" ++ json_text (string_bytes text) ++ codes "\"") rest (codes "]")
    (between (codes "[\"") (json_text (string_bytes text)) (codes "\"") refl (json_stays (string_bytes text)) refl) (items_stay texts) refl

value_stays : (v : Value) → StaysInLine (value_text v)
value_stays (Number n) = digits_stay 10 n
value_stays (Flag flag) = chosen flag _ _ (literal (codes "true") refl) (literal (codes "false") refl)
value_stays (Text text) = between (codes "\"") (json_text (string_bytes text)) (codes "\"") refl (json_stays (string_bytes text)) refl
value_stays (Texts texts) = array_stays texts.items

told_member_stays : (m : Member) → StaysInLine (member_text m)
told_member_stays m = both (codes ",\"" ++ json_text m.name.now ++ codes "\":") (value_text m.value)
    (between (codes ",\"") (json_text m.name.now) (codes "\":") refl (json_stays m.name.now) refl) (value_stays m.value)

told_members_stay : (ms : List Member) → StaysInLine (flat_map member_text ms)
told_members_stay [] = nothing
told_members_stay (m ∷ ms) = both (member_text m) (flat_map member_text ms) (told_member_stays m) (told_members_stay ms)

explanation_stays : (o : Option Explanation) → StaysInLine (explanation_member o)
explanation_stays None = nothing
explanation_stays (Some x) = between_texts (codes ",\"explanation\":{\"rules\":\"" ++ json_text x.chapter.now ++ codes "\"") (flat_map member_text x.members.items) (codes "}")
    (between (codes ",\"explanation\":{\"rules\":\"") (json_text x.chapter.now) (codes "\"") refl (json_stays x.chapter.now) refl)
    (told_members_stay x.members.items) refl

decimal_stays : (n : ℕ) → StaysInLine (decimal n)
decimal_stays n = digits_stay 10 n

members_stay : (l : Limits) (c : Cause) (front : List ℕ) (x : Option Explanation) → StaysInLine (help_members l c front x)
members_stay l c front x = both (cause_member c ++ hint_member (hint_for l c front)) (explanation_member x)
    (both (cause_member c) (hint_member (hint_for l c front)) (member_stays c) (hint_member_stays (hint_for l c front) (hint_for_stays l c front))) (explanation_stays x)

object_told : (name : List ℕ) (offset : ℕ) (kind message members : List ℕ) → StaysInLine kind → StaysInLine members
    → IsOneLine (refusal_object name offset kind message members)
object_told name offset kind message members in_kind in_members =
    let a = codes "{\"file\":\"" ++ json_text name in
    let b = a ++ codes "\",\"valid\":false,\"offset\":" in
    let d = b ++ decimal offset ++ codes ",\"kind\":\"" in
    let f = d ++ kind ++ codes "\",\"message\":\"" in
    let g = f ++ json_text message ++ codes "\"" in
    let h = g ++ members in
    let in_a : StaysInLine a = both (codes "{\"file\":\"") (json_text name) (literal (codes "{\"file\":\"") refl) (json_stays name) in
    let in_b : StaysInLine b = both a (codes "\",\"valid\":false,\"offset\":") in_a (literal (codes "\",\"valid\":false,\"offset\":") refl) in
    let in_d : StaysInLine d = both (b ++ decimal offset) (codes ",\"kind\":\"") (both b (decimal offset) in_b (decimal_stays offset)) (literal (codes ",\"kind\":\"") refl) in
    let in_f : StaysInLine f = both (d ++ kind) (codes "\",\"message\":\"") (both d kind in_d in_kind) (literal (codes "\",\"message\":\"") refl) in
    let in_g : StaysInLine g = both (f ++ json_text message) (codes "\"") (both f (json_text message) in_f (json_stays message)) (literal (codes "\"") refl) in
    let in_h : StaysInLine h = both g members in_g in_members in
    record {
      front = h ++ codes "}";
      inside = both h (codes "}") in_h (literal (codes "}") refl);
      ended = sym (append_assoc h (codes "}") (10 ∷ []));
    }

refusal_ends : (name : List ℕ) (l : Limits) (e : ErrorValue) (front : List ℕ) (x : Option Explanation) → IsOneLine (invalid_object name l e front x)
refusal_ends name l e front x = object_told name e.offset (kind_word (cause_of l e) e.kind) e.message (help_members l (cause_of l e) front x)
    (kind_stays (cause_of l e) e.kind) (members_stay l (cause_of l e) front x)

pub lines_end_once : LinesEndOnce
lines_end_once = record {
  text = shown_stays;
  valid = valid_ends;
  invalid = invalid_ends;
  hint = λ l e front. hint_line_ends (hint_of l e front) (hint_stays l e front);
  note = λ text. (shown text ++ codes "\n", note_ends text, refl);
  valid_json = object_ends;
  invalid_json = refusal_ends;
}
