-- What is written of a text that others chose.
use Rattle.std.proofs.Common.{◌≡◌, ◌∙◌, ℕ, List, [], ◌∷◌, ◌++◌, IsUtf8, encode_utf8, sym, ap, subst, refl, append_assoc, append-nil, length}
use Rattle.std.specs.Fmt.{HasWritten}
use Rattle.std.specs.declared.fmt.Formatter.{Formatter}
use Rattle.std.proofs.lemmas.Str.{chars_past_char, chars-nil}
use Rattle.std.proofs.lemmas.Grind.{put_two}
use Rattle.wasm_check_lines.specs.Json.{json_text, json_char}

-- the text from its first character on
json_step : (text rest : List ℕ) (c : ℕ) → IsUtf8 text → text ≡ encode_utf8 c ++ rest → json_text text ≡ json_char c ++ json_text rest
unfolding json_text
json_step text rest c u e = rw (chars_past_char text rest c u e) refl

-- where nothing is left all is json_text
nothing_left : (text : List ℕ) → length text ≡ 0 → json_text text ≡ []
unfolding json_text
nothing_left [] e = rw chars-nil refl
nothing_left (b ∷ text) e = absurd cc

module _ {W : Type 0} (took : W → List ℕ → W → Type 0) (f g : Formatter W) (rest whole : List ℕ) where
  -- so far this is written, and with the rest as it is json_text it is the whole
  abbrev pub IsWritten : Formatter W → List ℕ → Type 0
  IsWritten h after = (front : List ℕ) × HasWritten took f front h × (front ++ json_text after ≡ whole)

  -- one character more is
  pub written_more : (h : Formatter W) (after : List ℕ) (c : ℕ) → IsUtf8 rest → rest ≡ encode_utf8 c ++ after
      → IsWritten g rest → HasWritten took g (json_char c) h → IsWritten h after
  written_more h after c u e w more = (
    w.0 ++ json_char c,
    put_two took f g h w.0 (json_char c) (w.0 ++ json_char c) w.1 more refl,
    append_assoc w.0 (json_char c) (json_text after) ∙ ap (λ (x : List ℕ). w.0 ++ x) (sym (json_step rest after c u e)) ∙ w.2,
  )

  -- and then no more
  pub written_all : length rest ≡ 0 → IsWritten g rest → HasWritten took f whole g
  written_all e w = subst (λ (x : List ℕ). HasWritten took f x g) (sym (append-nil w.0) ∙ ap (λ (x : List ℕ). w.0 ++ x) (sym (nothing_left rest e)) ∙ w.2) w.1
