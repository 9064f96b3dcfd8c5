-- Rows that a loop writes one by one.
use Rattle.std.proofs.Common.{◌≡◌, ◌∙◌, ℕ, zero, suc, ◌+◌, ◌<◌, ◌≤◌, List, [], ◌∷◌, ◌++◌, length, take, drop, set, min, refl, ap, sym, Some, None, arith, add-one}
use Rattle.std.specs.Prelude.{slice_get}
use Rattle.std.proofs.lemmas.Option.{slice_get_within}
use Rattle.wasm_module_validator_rows.proofs.Places.{none_past}
use Rattle.wasm_module_validator_rows.specs.Written.{written}

-- the first i are written
abbrev pub filled : {A : Type 0} → List A → List A → ℕ → List A
filled xs old i = take i xs ++ drop i old

-- as far as a loop has come
pub record IsFilled {A : Type 0} (xs old : List A) (i : ℕ) (rows : List A) : Type 0 where
  pub within : i ≤ length xs
  pub are : rows ≡ filled xs old i

module _ {A : Type 0} where
  put : (xs old : List A) (i : ℕ) (x : A) → i < length old → slice_get xs i ≡ Some x → set (filled xs old i) i x ≡ filled xs old (suc i)
  put [] old i x lt e = absurd cc
  put (y ∷ ys) [] i x lt e = absurd (omega arith)
  put (y ∷ ys) (o ∷ os) zero x lt e = let same : y ≡ x = cc in ap (λ (z : A). z ∷ os) (sym same)
  put (y ∷ ys) (o ∷ os) (suc i) x lt e = ap (λ (l : List A). y ∷ l) (put ys os i x (omega arith) e)

  done : (xs old : List A) (i : ℕ) → i ≡ min (length xs) (length old) → filled xs old i ≡ written xs old
  done [] [] zero e = refl
  done [] [] (suc i) e = absurd (omega arith)
  done [] (o ∷ os) zero e = refl
  done [] (o ∷ os) (suc i) e = absurd (omega arith)
  done (x ∷ xs) [] zero e = refl
  done (x ∷ xs) [] (suc i) e = absurd (omega arith)
  done (x ∷ xs) (o ∷ os) zero e = absurd (omega arith)
  done (x ∷ xs) (o ∷ os) (suc i) e = ap (λ (l : List A). x ∷ l) (done xs os i (omega arith))

  -- at the start nothing is written
  pub filled_none : (xs rows : List A) → IsFilled xs rows 0 rows
  filled_none xs rows = record { within = omega arith; are = refl }

  -- one row more
  pub filled_more : (xs old rows : List A) (i : ℕ) (x : A) → i < length old → IsFilled xs old i rows → slice_get xs i ≡ Some x → IsFilled xs old (i + 1) (set rows i x)
  filled_more xs old rows i x lt h e =
      let there = slice_get_within xs i x e in
      record {
        within = omega arith;
        are = ap (λ (l : List A). set l i x) h.are ∙ put xs old i x lt e ∙ ap (filled xs old) (sym (add-one i));
      }

  -- all rows are written
  pub filled_all : (xs old rows : List A) (i : ℕ) → i ≡ length old → IsFilled xs old i rows → rows ≡ written xs old
  filled_all xs old rows i e h = let le = h.within in h.are ∙ done xs old i (omega arith)

  -- or there is none left to write
  pub filled_end : (xs old rows : List A) (i : ℕ) → i ≤ length old → IsFilled xs old i rows → slice_get xs i ≡ None → rows ≡ written xs old
  filled_end xs old rows i le h e = let within = h.within in let over = none_past xs i e in h.are ∙ done xs old i (omega arith)
