-- The rows of a group that have certain codes: at such a code they have the same kinds as all rows of the group.
use Rattle.std.proofs.Common.{◌≡◌, ◌≤◌, ◌∙◌, ℕ, Bool, true, false, ◌&&◌, leb, List, [], ◌∷◌, Some, refl, sym, ap}
use Rattle.std.specs.Prelude.{◌==◌, if◌then◌else◌}
use Rattle.std.proofs.lemmas.Bool.{eqb-true, le-leb, and_parts, both_ways}
use Rattle.wasm_operators_immediates.specs.Kinds.{Kind}
use Rattle.wasm_operators_encoding.specs.Rows.{Row, kinds_by}

-- ---- rows by their codes

abbrev pub between : ℕ → ℕ → ℕ → Bool
between from to code = leb from code && leb code to

pub is_between : (from to code : ℕ) → from ≤ code → code ≤ to → between from to code ≡ true
is_between from to code low high = ap (λ (b : Bool). b && leb code to) (le-leb from code low) ∙ le-leb code to high

abbrev pub kept : (ℕ → Bool) → List Row → List Row
kept keep [] = []
kept keep (r ∷ rs) = if keep r.0 then r ∷ kept keep rs else kept keep rs

module _ (keep : ℕ → Bool) (code : ℕ) (here : keep code ≡ true) where
  at_row : (r : Row) (rs : List Row) (same held : Bool) → (code == r.0) ≡ same → keep r.0 ≡ held → kinds_by rs code ≡ kinds_by (kept keep rs) code →
      (if same then Some r.1 else kinds_by rs code) ≡ kinds_by (if held then r ∷ kept keep rs else kept keep rs) code
  at_row r rs true true e h later = ap (λ (b : Bool). if b then Some r.1 else kinds_by (kept keep rs) code) (sym e)
  at_row r rs true false e h later = absurd (both_ways (keep r.0) h (ap keep (sym (eqb-true code r.0 e)) ∙ here))
  at_row r rs false true e h later = later ∙ ap (λ (b : Bool). if b then Some r.1 else kinds_by (kept keep rs) code) (sym e)
  at_row r rs false false e h later = later

  pub kinds_kept : (rs : List Row) → kinds_by rs code ≡ kinds_by (kept keep rs) code
  kinds_kept [] = refl
  kinds_kept (r ∷ rs) = at_row r rs (code == r.0) (keep r.0) refl refl (kinds_kept rs)

-- ---- codes by their kinds

module _ (wanted : List Kind → Bool) (within : ℕ → Bool) where
  -- each row with kinds that are wanted has its code within
  abbrev pub each_wanted : List Row → Bool
  each_wanted [] = true
  each_wanted (r ∷ rs) = (if wanted r.1 then within r.0 else true) && each_wanted rs

  module _ (code : ℕ) (ks : List Kind) (want : wanted ks ≡ true) where
    of_wanted : (r : Row) → wanted r.1 ≡ true → (if wanted r.1 then within r.0 else true) ≡ true → within r.0 ≡ true
    of_wanted r w h = ap (λ (b : Bool). if b then within r.0 else true) (sym w) ∙ h

    by_row : (r : Row) (rs : List Row) (same : Bool) → (code == r.0) ≡ same → (if wanted r.1 then within r.0 else true) ≡ true →
        (kinds_by rs code ≡ Some ks → within code ≡ true) → (if same then Some r.1 else kinds_by rs code) ≡ Some ks → within code ≡ true
    by_row r rs true e h later f =
        let g : r.1 ≡ ks = cc in
        ap within (eqb-true code r.0 e) ∙ of_wanted r (ap wanted g ∙ want) h
    by_row r rs false e h later f = later f

    -- so a code that has such kinds is within
    pub code_within : (rs : List Row) → each_wanted rs ≡ true → kinds_by rs code ≡ Some ks → within code ≡ true
    code_within [] all f = absurd cc
    code_within (r ∷ rs) all f =
        let parts = and_parts (if wanted r.1 then within r.0 else true) (each_wanted rs) all in
        by_row r rs (code == r.0) refl parts.0 (code_within rs parts.1) f
