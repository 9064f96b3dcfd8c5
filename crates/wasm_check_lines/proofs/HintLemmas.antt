-- On the first bytes of an input.
use Rattle.std.proofs.Common.{◌≡◌, ◌∙◌, ◌<◌, ◌≤◌, ◌+◌, true, false, ℕ, List, [], ◌∷◌, sym, refl, length, drop, take, get_or, bytes_eq, codes}
use Rattle.std.proofs.lemmas.List.{at_drop_more, at_drop_all}
use Rattle.wasm_check_lines.specs.Hints.{is_space, is_text}

-- the first byte that is no space decides
first_decides : (b : ℕ) (bs : List ℕ) → is_space b ≡ false → is_text (b ∷ bs) ≡ bytes_eq (take 7 (b ∷ bs)) (codes "(module")
unfolding is_text
first_decides b bs e = rw e refl

pub text_decides : (front : List ℕ) (i d : ℕ) → i < length front → is_space (get_or front i d) ≡ false → is_text (drop i front) ≡ bytes_eq (take 7 (drop i front)) (codes "(module")
text_decides front i d below e =
    at_drop_more is_text front i d below ∙ first_decides (get_or front i d) (drop (i + 1) front) e
    ∙ sym (at_drop_more (λ (bs : List ℕ). bytes_eq (take 7 bs) (codes "(module")) front i d below)

-- after a space the others do
space_skipped : (b : ℕ) (bs : List ℕ) → is_space b ≡ true → is_text (b ∷ bs) ≡ is_text bs
unfolding is_text
space_skipped b bs e = rw e refl

pub space_goes_on : (front : List ℕ) (i d : ℕ) → i < length front → is_space (get_or front i d) ≡ true → is_text (drop i front) ≡ is_text (drop (i + 1) front)
space_goes_on front i d below e = at_drop_more is_text front i d below ∙ space_skipped (get_or front i d) (drop (i + 1) front) e

-- no byte is left
no_bytes : is_text [] ≡ false
unfolding is_text
no_bytes = refl

pub nothing_decides : (front : List ℕ) (i : ℕ) → length front ≤ i → is_text (drop i front) ≡ false
nothing_decides front i past = at_drop_all is_text front i past ∙ no_bytes
