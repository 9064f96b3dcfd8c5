-- Texts that are shown alike are the same text.
use Rattle.std.proofs.Common.{◌≡◌, ◌∙◌, ◌<◌, ◌^◌, ◌==◌, ℕ, Bool, true, false, List, [], ◌∷◌, ◌++◌, cond, sym, ap, subst, refl, drop, get_or, length, codes, flat_map, encode_utf8, encode_utf8_all, append_assoc, IsUtf8, length-append, arith}
use Rattle.std.proofs.lemmas.Bool.{eqb-true}
use Rattle.std.proofs.lemmas.Grind.{common_steps}
use Rattle.std.proofs.lemmas.List.{append_cancel_right}
use Rattle.std.proofs.lemmas.Str.{char_from_byte, encode_same, encodes-chars, length-encode, len_utf8_bounds}
use Rattle.std.proofs.lemmas.Fmt.{digits_is_IsNumeral}
use Rattle.std.specs.Char.{digit_value}
use Rattle.std.specs.Fmt.{digits}
use Rattle.std.specs.Str.{chars}
use Rattle.std.specs.Str.Parse.{AllDigits, digits_value}
use Rattle.wasm_check_lines.specs.Shown.{shown, shown_char, is_unshown, escape}
use Rattle.wasm_check_lines.specs.Forms.{valid_line}
use Rattle.wasm_check_lines.specs.LineLaws.{IsShownApart}

-- ---- codes

-- hexadecimal digits, up to the brace (125) that ends them
up_to_brace : (ds es xs ys : List ℕ) → AllDigits 16 ds → AllDigits 16 es → ds ++ (125 ∷ xs) ≡ es ++ (125 ∷ ys) → (ds ≡ es) × (xs ≡ ys)
up_to_brace [] [] xs ys p q e = (refl, ap (drop 1) e)
up_to_brace [] (b ∷ bs) xs ys p q e = absurd (no_digit (subst (λ (x : ℕ). digit_value x < 16) (sym (ap (λ l. get_or l 0 0) e)) q.0))
  where
    no_digit : digit_value 125 < 16 → ⊥
    no_digit h = omega (arith, h)
up_to_brace (a ∷ cs) [] xs ys p q e = absurd (no_digit (subst (λ (x : ℕ). digit_value x < 16) (ap (λ l. get_or l 0 0) e) p.0))
  where
    no_digit : digit_value 125 < 16 → ⊥
    no_digit h = omega (arith, h)
up_to_brace (a ∷ cs) (b ∷ bs) xs ys p q e =
    let r = up_to_brace cs bs xs ys p.1 q.1 (ap (drop 1) e) in
    ((λ k. ap (λ l. get_or l 0 0) e k ∷ r.0 k), r.1)

-- which character a code is of
small : (c : ℕ) → is_unshown c ≡ true → c < 0x2070
small c e = grind (arith, common_steps)

below : (c : ℕ) → c < 0x2070 → c < 16 ^ 64
below c h = omega (arith, h)

code_digits : (c : ℕ) → is_unshown c ≡ true → AllDigits 16 (digits 16 false c) × (digits_value 16 (digits 16 false c) ≡ c)
code_digits c e = let k = digits_is_IsNumeral 16 false (omega arith) (omega arith) c (below c (small c e)) in (k.0.1, k.1)

escapes_same : (c d : ℕ) (xs ys : List ℕ) → is_unshown c ≡ true → is_unshown d ≡ true → escape c ++ xs ≡ escape d ++ ys → (c ≡ d) × (xs ≡ ys)
escapes_same c d xs ys p q e =
    let m = code_digits c p in
    let n = code_digits d q in
    let inner : digits 16 false c ++ (125 ∷ xs) ≡ digits 16 false d ++ (125 ∷ ys) =
    sym (append_assoc (digits 16 false c) (codes "}") xs) ∙ ap (drop 3) e ∙ append_assoc (digits 16 false d) (codes "}") ys in
    let r = up_to_brace (digits 16 false c) (digits 16 false d) xs ys m.0 n.0 inner in
    (sym m.1 ∙ ap (digits_value 16) r.0 ∙ n.1, r.1)

-- ---- characters

-- a character that stands for itself begins with a backslash (92) if it is one
begins_back : (d : ℕ) (xs ys : List ℕ) → 92 ∷ xs ≡ encode_utf8 d ++ ys → d ≡ 92
begins_back d xs ys e = char_from_byte (92 ∷ xs) ys d e (omega arith) (omega arith)

no_back : (d : ℕ) → (d == 92) ≡ false → d ≡ 92 → ⊥
no_back d e h = cc

differ : ◌≡◌ {A = ℕ} 92 117 → ⊥
differ h = omega (arith, h)

by_cases : (c d : ℕ) (xs ys : List ℕ) (a b s t : Bool) → (c == 92) ≡ a → (d == 92) ≡ b → is_unshown c ≡ s → is_unshown d ≡ t
    → cond a (codes "\\\\") (cond s (escape c) (encode_utf8 c)) ++ xs ≡ cond b (codes "\\\\") (cond t (escape d) (encode_utf8 d)) ++ ys
    → (c ≡ d) × (xs ≡ ys)
by_cases c d xs ys true true s t p q m n e = (eqb-true c 92 p ∙ sym (eqb-true d 92 q), ap (drop 2) e)
by_cases c d xs ys true false s true p q m n e = absurd (differ (ap (λ l. get_or l 1 0) e))
by_cases c d xs ys true false s false p q m n e = absurd (no_back d q (begins_back d (92 ∷ xs) ys e))
by_cases c d xs ys false true true t p q m n e = absurd (differ (sym (ap (λ l. get_or l 1 0) e)))
by_cases c d xs ys false true false t p q m n e = absurd (no_back c p (begins_back c (92 ∷ ys) xs (sym e)))
by_cases c d xs ys false false true true p q m n e = escapes_same c d xs ys m n e
by_cases c d xs ys false false true false p q m n e = absurd (no_back d q (begins_back d _ ys e))
by_cases c d xs ys false false false true p q m n e = absurd (no_back c p (begins_back c _ xs (sym e)))
by_cases c d xs ys false false false false p q m n e = encode_same c d xs ys e

chars_same : (c d : ℕ) (xs ys : List ℕ) → shown_char c ++ xs ≡ shown_char d ++ ys → (c ≡ d) × (xs ≡ ys)
chars_same c d xs ys e = by_cases c d xs ys (c == 92) (d == 92) (is_unshown c) (is_unshown d) refl refl refl refl e

-- a character is shown by one byte or more
some_byte : (c : ℕ) (xs : List ℕ) → [] ≡ shown_char c ++ xs → ⊥
some_byte c xs e = by (c == 92) (is_unshown c) e
  where
    by : (a s : Bool) → [] ≡ cond a (codes "\\\\") (cond s (escape c) (encode_utf8 c)) ++ xs → ⊥
    by true s h = let k = ap length h in omega (arith, k)
    by false true h = let k = ap length h in omega (arith, k)
    by false false h = let k = ap length h in omega (arith, k, length-append (encode_utf8 c) xs, length-encode c, (len_utf8_bounds c).0)

lists_same : (cs ds : List ℕ) → flat_map shown_char cs ≡ flat_map shown_char ds → cs ≡ ds
lists_same [] [] e = refl
lists_same [] (d ∷ ds) e = absurd (some_byte d (flat_map shown_char ds) e)
lists_same (c ∷ cs) [] e = absurd (some_byte c (flat_map shown_char cs) (sym e))
lists_same (c ∷ cs) (d ∷ ds) e =
    let r = chars_same c d (flat_map shown_char cs) (flat_map shown_char ds) e in
    let s = lists_same cs ds r.1 in
    (λ k. r.0 k ∷ s k)

-- ---- texts

texts_same : (a b : List ℕ) → IsUtf8 a → IsUtf8 b → shown a ≡ shown b → a ≡ b
unfolding shown
texts_same a b u v e = sym (encodes-chars a u) ∙ ap encode_utf8_all (lists_same (chars a) (chars b) e) ∙ encodes-chars b v

lines_same : (a b : List ℕ) → IsUtf8 a → IsUtf8 b → valid_line a ≡ valid_line b → a ≡ b
lines_same a b u v e = texts_same a b u v (append_cancel_right (shown a) (shown b) (codes ": valid\n") e)

pub shown_apart : IsShownApart
shown_apart = record { texts = texts_same; lines = lines_same }
