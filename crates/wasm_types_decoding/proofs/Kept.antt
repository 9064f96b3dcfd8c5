-- What a message keeps, write by write.
use Rattle.std.proofs.Common.{◌≡◌, ℕ, zero, suc, ◌+◌, ◌-◌, ◌/◌, ◌%◌, ◌<◌, ◌≤◌, List, [], ◌∷◌, ◌++◌, length, take, get_or, refl, sym, ap, ◌∙◌, arith}
use Rattle.std.proofs.Common.{append_assoc, Bool, true, false, cond, inl, inr, nat_lt, Option, Some, None, IfSome, Result, Ok, Err}
use Rattle.std.proofs.lemmas.Bool.{lt-ltb, le-ltb, lt-leb, cases_lt, ltb-true, ltb-false}
use Rattle.std.proofs.lemmas.List.{append-nil, length-append, get_or_append_left, get_or-append-add, take-append-le}
use Rattle.std.proofs.Math.Seq.{take-append-add}
use Rattle.std.specs.Fmt.{is_char_start, WritesText, digit_glyph}
use Rattle.std.specs.Fmt.Cut.{floor_char_boundary}
use Rattle.std.specs.List.{FoldsTo, concat}
use Rattle.std.specs.Result.{OnOk, is_err}
use Rattle.std.specs.Str.{IsCharBoundary}
use Rattle.wasm_types_decoding.specs.ErrorText.{cut_to, message_of, Keeps, IsWrittenMessage}
use Rattle.wasm_types_decoding.specs.Texts.{hex_digits, bits}
use Rattle.wasm_types_decoding.proofs.Cut.{starts, cut_fits}

abbrev either : Bool → ℕ → ℕ → ℕ
either t a b = cond t a b

lower : (t : Bool) (n i : ℕ) → n ≤ i → either t (suc i) n ≤ suc i
lower true n i le = omega arith
lower false n i le = omega (arith, le)

boundary_le : (bs : List ℕ) (i : ℕ) → floor_char_boundary bs i ≤ i
unfolding floor_char_boundary
boundary_le bs zero = omega arith
boundary_le bs (suc i) = lower (is_char_start (get_or bs (suc i) 0)) (floor_char_boundary bs i) i (boundary_le bs i)

-- more at the end leaves the boundaries below
boundary_front : (text more : List ℕ) (i : ℕ) → i < length text → floor_char_boundary (text ++ more) i ≡ floor_char_boundary text i
unfolding floor_char_boundary
boundary_front text more zero lt = refl
boundary_front text more (suc i) lt = rw (get_or_append_left text more 0 (suc i) lt, boundary_front text more i (omega arith)) refl

boundary_here : (bs : List ℕ) (i : ℕ) → is_char_start (get_or bs i 0) ≡ true → floor_char_boundary bs i ≡ i
unfolding floor_char_boundary
boundary_here bs zero e = refl
boundary_here bs (suc i) e = ap (λ (t : Bool). either t (suc i) (floor_char_boundary bs i)) e

-- the boundaries of what comes behind a text
boundary_behind : (text more : List ℕ) (r : ℕ) → IsCharBoundary more 0 → r < length more → floor_char_boundary (text ++ more) (length text + r)
    ≡ length text + floor_char_boundary more r
unfolding floor_char_boundary
boundary_behind text more zero b lt =
    boundary_here (text ++ more) (length text + 0) (ap is_char_start (get_or-append-add text more 0 0) ∙ starts (get_or more 0 0) (b.1 lt))
boundary_behind text more (suc r) b lt =
    let k : length text + suc r ≡ suc (length text + r) = omega arith in
    let here : get_or (text ++ more) (suc (length text + r)) 0 ≡ get_or more (suc r) 0 = ap (λ (n : ℕ). get_or (text ++ more) n 0) (sym k) ∙
    get_or-append-add text more (suc r) 0 in
    ap (floor_char_boundary (text ++ more)) k
    ∙ ap (λ (t : Bool). either t (suc (length text + r)) (floor_char_boundary (text ++ more) (length text + r))) (ap is_char_start here)
    ∙ ap (λ (n : ℕ). either (is_char_start (get_or more (suc r) 0)) (suc (length text + r)) n) (boundary_behind text more r b (omega arith))
    ∙ go (is_char_start (get_or more (suc r) 0))
  where
    go : (t : Bool) → either t (suc (length text + r)) (length text + floor_char_boundary more r) ≡ length text + either t (suc r) (floor_char_boundary more r)
    go true = omega arith
    go false = refl

cut_long : (room : ℕ) (text : List ℕ) → room < length text → cut_to room text ≡ take (floor_char_boundary text room) text
unfolding cut_to
cut_long room text long = rw (lt-leb (length text) room long) refl

module _ (text more : List ℕ) where
  -- once it is full it stays as it is
  pub keeps_full : (kept : List ℕ) → Keeps text kept true → Keeps (text ++ more) kept true
  keeps_full kept k =
      let long : 256 < length text = ltb-true _ _ (sym k.full) in
      let whole : 256 < length (text ++ more) = omega (arith, long, length-append text more) in
      record {
        message = k.message ∙ cut_long 256 text long
            ∙ sym (take-append-le (floor_char_boundary text 256) text more (let le = boundary_le text 256 in omega (arith, le, long)))
            ∙ ap (λ (n : ℕ). take n (text ++ more)) (sym (boundary_front text more 256 long))
            ∙ sym (cut_long 256 (text ++ more) whole);
        full = sym (lt-ltb 256 (length (text ++ more)) whole);
      }

  -- and before that it takes what there is room for
  pub keeps_more : (kept : List ℕ) (room : ℕ) → IsCharBoundary more 0 → Keeps text kept false → room ≡ 256 - length kept → Keeps (text ++ more)
      (kept ++ cut_to room more) (nat_lt room (length more))
  keeps_more kept room b k is =
      let short : length text ≤ 256 = ltb-false _ _ (sym k.full) in
      let same : kept ≡ text = k.message ∙ cut_fits 256 text short in
      let left : room ≡ 256 - length text = is ∙ ap (λ (xs : List ℕ). 256 - length xs) same in
      let both = length-append text more in
      elim (cases_lt room (length more)) as (λ _. Keeps (text ++ more) (kept ++ cut_to room more) (nat_lt room (length more))) [
        | inl long ↦
            let whole : 256 < length (text ++ more) = omega (arith, long, both, left, short) in
            let sum : 256 ≡ length text + room = omega (arith, left, short) in
            record {
              message = ap (λ (xs : List ℕ). xs ++ cut_to room more) same
                  ∙ ap (λ (xs : List ℕ). text ++ xs) (cut_long room more long)
                  ∙ sym (take-append-add text more (floor_char_boundary more room))
                  ∙ ap (λ (n : ℕ). take n (text ++ more)) (sym (boundary_behind text more room b long) ∙ ap (floor_char_boundary (text ++ more)) (sym sum))
                  ∙ sym (cut_long 256 (text ++ more) whole);
              full = lt-ltb room (length more) long ∙ sym (lt-ltb 256 (length (text ++ more)) whole);
            }
        | inr fits ↦
            let whole : length (text ++ more) ≤ 256 = omega (arith, fits, both, left, short) in
            record {
              message = ap (λ (xs : List ℕ). xs ++ cut_to room more) same
                  ∙ ap (λ (xs : List ℕ). text ++ xs) (cut_fits room more fits)
                  ∙ sym (cut_fits 256 (text ++ more) whole);
              full = le-ltb room (length more) fits ∙ sym (le-ltb 256 (length (text ++ more)) whole);
            }
      ]

-- nothing is kept of nothing
pub keeps_none : Keeps [] [] false
keeps_none = record { message = sym (cut_fits 256 [] (omega arith)); full = refl }

-- write after write
pub keeps_calls : {W : Type 0} (kept : W → List ℕ) (full : W → Bool) (parts : List (List ℕ)) (w v : W) (text : List ℕ) → FoldsTo
    (λ a more b. (t : List ℕ) → Keeps t (kept a) (full a) → Keeps (t ++ more) (kept b) (full b)) w parts v → Keeps text (kept w) (full w) → Keeps
    (text ++ concat parts) (kept v) (full v)
keeps_calls kept full [] w v text f k = rw (append-nil text) (rw f at k)
keeps_calls kept full (p ∷ ps) w v text f k = rw (← append_assoc text p (concat ps)) (keeps_calls kept full ps f.0 v (text ++ p) f.2 (f.1 text k))

module _ {W : Type 0} (kept : W → List ℕ) (full : W → Bool) where
  -- all that was written, of which a message is kept
  pub written_message : (o : Option (List ℕ)) (w v : W) → WritesText
      (λ a more b. (t : List ℕ) → Keeps t (kept a) (full a) → Keeps (t ++ more) (kept b) (full b)) w o v → kept w ≡ [] → full w ≡ false → IfSome o
      (λ text. IsWrittenMessage text (kept v))
  written_message None w v h none open_still = tt
  written_message (Some text) w v h none open_still =
      let first : Keeps [] (kept w) (full w) = rw (none, open_still) keeps_none in
      let all : Keeps (concat h.parts) (kept v) (full v) = keeps_calls kept full h.parts w v [] h.calls first in
      inl (all.message ∙ ap message_of h.whole)

-- a value that gave up
pub written_nothing : (o : Option (List ℕ)) (message : List ℕ) → message ≡ [] → IfSome o (λ text. IsWrittenMessage text message)
written_nothing None message e = tt
written_nothing (Some text) message e = inr e

pub of_ok : {X E : Type 0} (r : Result X E) (P : Type 0) → is_err r ≡ false → OnOk r P → P
of_ok (Ok x) P e h = h
of_ok (Err x) P e h = absurd cc

-- what was written part by part is the text of these parts
pub in_2 : (t a b kept : List ℕ) (full : Bool) → Keeps ((t ++ a) ++ b) kept full → Keeps (t ++ (a ++ b)) kept full
in_2 t a b kept full k = rw (← append_assoc t a b) k

pub in_3 : (t a b d kept : List ℕ) (full : Bool) → Keeps (((t ++ a) ++ b) ++ d) kept full → Keeps (t ++ ((a ++ b) ++ d)) kept full
in_3 t a b d kept full k = rw (← append_assoc t (a ++ b) d, ← append_assoc t a b) k

pub in_4 : (t a b d e kept : List ℕ) (full : Bool) → Keeps ((((t ++ a) ++ b) ++ d) ++ e) kept full → Keeps (t ++ (((a ++ b) ++ d) ++ e)) kept full
in_4 t a b d e kept full k = rw (← append_assoc t ((a ++ b) ++ d) e, ← append_assoc t (a ++ b) d, ← append_assoc t a b) k

pub in_5 : (t a b d e f kept : List ℕ) (full : Bool) → Keeps (((((t ++ a) ++ b) ++ d) ++ e) ++ f) kept full → Keeps (t ++ ((((a ++ b) ++ d) ++ e) ++ f)) kept full
in_5 t a b d e f kept full k =
    rw (← append_assoc t (((a ++ b) ++ d) ++ e) f, ← append_assoc t ((a ++ b) ++ d) e, ← append_assoc t (a ++ b) d, ← append_assoc t a b) k

pub in_7 : (t a b d e f g h kept : List ℕ) (full : Bool) → Keeps (((((((t ++ a) ++ b) ++ d) ++ e) ++ f) ++ g) ++ h) kept full
    → Keeps (t ++ ((((((a ++ b) ++ d) ++ e) ++ f) ++ g) ++ h)) kept full
in_7 t a b d e f g h kept full k =
    rw (
      ← append_assoc t (((((a ++ b) ++ d) ++ e) ++ f) ++ g) h,
      ← append_assoc t ((((a ++ b) ++ d) ++ e) ++ f) g,
      ← append_assoc t (((a ++ b) ++ d) ++ e) f,
      ← append_assoc t ((a ++ b) ++ d) e,
      ← append_assoc t (a ++ b) d,
      ← append_assoc t a b,
    ) k

-- digits, the last one apart
pub suc_of : (m : ℕ) → (m ≡ 0 → ⊥) → m ≡ suc (m - 1)
suc_of zero h = absurd (h refl)
suc_of (suc k) h = omega arith

pub hex_one : (m n : ℕ) → (m ≡ 0 → ⊥) → n < 16 → hex_digits m n ≡ digit_glyph false (n % 16) ∷ []
hex_one zero n h lt = absurd (h refl)
hex_one (suc k) n h lt = ap (λ (b : Bool). cond b [] (hex_digits k (n / 16)) ++ digit_glyph false (n % 16) ∷ []) (lt-ltb n 16 lt)

pub hex_more : (m n : ℕ) → (m ≡ 0 → ⊥) → 16 ≤ n → hex_digits m n ≡ hex_digits (m - 1) (n / 16) ++ digit_glyph false (n % 16) ∷ []
hex_more zero n h le = absurd (h refl)
hex_more (suc k) n h le = ap (λ (b : Bool). cond b [] (hex_digits k (n / 16)) ++ digit_glyph false (n % 16) ∷ []) (le-ltb n 16 le)
    ∙ ap (λ (j : ℕ). hex_digits j (n / 16) ++ digit_glyph false (n % 16) ∷ []) {x = k} {y = suc k - 1} (omega arith)

pub bits_more : (m n : ℕ) → (m ≡ 0 → ⊥) → bits m n ≡ bits (m - 1) (n / 2) ++ digit_glyph false (n % 2) ∷ []
bits_more zero n h = absurd (h refl)
bits_more (suc k) n h = ap (λ (j : ℕ). bits j (n / 2) ++ digit_glyph false (n % 2) ∷ []) {x = k} {y = suc k - 1} (omega arith)
