-- A text that is cut to fit.
use Rattle.std.proofs.Common.{◌≡◌, ℕ, zero, suc, ◌<◌, ◌≤◌, List, length, take, get_or, refl, sym, ap, ◌∙◌, subst, arith, Bool, true, false, cond, inl, inr}
use Rattle.std.proofs.lemmas.Bool.{lt-ltb, le-ltb, le-leb, lt-leb, cases_lt}
use Rattle.std.specs.Fmt.{is_char_start}
use Rattle.std.specs.Str.{IsCharBoundary}
use Rattle.std.specs.Fmt.Cut.{floor_char_boundary}
use Rattle.wasm_types_decoding.specs.ErrorText.{cut_to}

-- what the method `floor_char_boundary` ensures
abbrev pub IsLastBoundary : List ℕ → ℕ → ℕ → Type 0
IsLastBoundary bs i kept = (kept ≤ i) × IsCharBoundary bs kept × ((j : ℕ) → kept < j → j ≤ i → ¬ (IsCharBoundary bs j))

pub starts : (b : ℕ) → (128 ≤ b → 192 ≤ b) → is_char_start b ≡ true
starts b h = elim (cases_lt b 128) [ inl low ↦ rw (lt-ltb b 128 low) refl | inr high ↦ rw (le-ltb b 128 high, le-leb 192 b (h high)) refl ]

continues : (b : ℕ) → ¬ (128 ≤ b → 192 ≤ b) → is_char_start b ≡ false
continues b h = elim (cases_lt b 128) [
  | inl low ↦ absurd (h (λ high. absurd (omega arith)))
  | inr high ↦ elim (cases_lt b 192) [ inl mid ↦ rw (le-ltb b 128 high, lt-leb 192 b mid) refl | inr top ↦ absurd (h (λ _. top)) ]
]

-- its clauses fix its result
pub last_boundary_is : (bs : List ℕ) (i kept : ℕ) → i < length bs → IsLastBoundary bs i kept → floor_char_boundary bs i ≡ kept
unfolding floor_char_boundary
last_boundary_is bs zero kept within last = omega (arith, last.0)
last_boundary_is bs (suc i) kept within last = elim (cases_lt kept (suc i)) [
  | inl below ↦
      ap (λ (t : Bool). cond t (suc i) (floor_char_boundary bs i)) (continues (get_or bs (suc i) 0) (λ h. last.2 (suc i) below (omega arith) (omega arith, λ _. h)))
      ∙ last_boundary_is bs i kept (omega arith) (omega arith, last.1, λ j p q. last.2 j p (omega arith))
  | inr above ↦
      let same : kept ≡ suc i = omega (arith, last.0) in
      ap (λ (t : Bool). cond t (suc i) (floor_char_boundary bs i)) (starts (get_or bs (suc i) 0) ((subst (IsCharBoundary bs) same last.1).1 within)) ∙ sym same
]

pub cut_fits : (room : ℕ) (text : List ℕ) → length text ≤ room → cut_to room text ≡ text
unfolding cut_to
cut_fits room text fits = rw (le-leb (length text) room fits) refl

pub cut_cuts : (room : ℕ) (text : List ℕ) (kept : ℕ) → room < length text → IsLastBoundary text room kept → cut_to room text ≡ take kept text
unfolding cut_to
cut_cuts room text kept long last = rw (lt-leb (length text) room long, last_boundary_is text room kept long last) refl
