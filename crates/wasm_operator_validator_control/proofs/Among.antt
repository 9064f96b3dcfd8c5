-- Labels that suit one after the other, and lists of the same labels.
use Rattle.std.proofs.Common.{
  ◌≡◌,
  ◌∙◌,
  ◌==◌,
  ◌||◌,
  ◌↔◌,
  ℕ,
  Bool,
  true,
  false,
  IsTrue,
  List,
  [],
  ◌∷◌,
  ◌++◌,
  refl,
  sym,
  ap,
  subst,
  ⊎_elim,
  arith,
}
use Rattle.std.proofs.lemmas.List.Folds.{list_any-append}
use Rattle.wasm_operator_validator_rules.specs.Operands.{ValueType, Operand}
use Rattle.wasm_operator_validator_state.specs.resources.Meaning.{Meaning}
use Rattle.wasm_operator_validator_state.specs.State.{State}
use Rattle.wasm_operator_validator_control.specs.Fitting.{Suits, EachSuits, FitsAt, EachFitsAt}
use Rattle.wasm_operator_validator_locals.specs.labels.Among.{is_among, IsAmong, KeepsOne, SameLabels}

-- ---- labels that suit

module _ (m : Meaning) (σ : State) (n : ℕ) where
  pub suits_next : (all left rest : List ℕ) (l : ℕ) → left ≡ l ∷ rest → Suits m σ n l → EachSuits m σ n left ↔ EachSuits m σ n all → EachSuits m σ n rest ↔ EachSuits m σ n all
  suits_next all left rest l e p s = (λ h. s.0 (subst (EachSuits m σ n) (sym e) (p, h)), λ h. (subst (EachSuits m σ n) e (s.1 h)).1)

-- ---- labels that fit in a place

module _ (ls : List (List ValueType)) (i : ℕ) (t : Operand) where
  fits_at_one : (labels : List ℕ) (l : ℕ) → IsAmong l labels → EachFitsAt ls i t labels → FitsAt ls i t l
  fits_at_one [] l e h = cc
  fits_at_one (x ∷ labels) l e (p, h) = by (x == l) refl (λ r. fits_at_one labels l r h)
    where
      by : (b : Bool) → (x == l) ≡ b → (IsAmong l labels → FitsAt ls i t l) → FitsAt ls i t l
      by true q f = let k : x ≡ l = grind arith in subst (FitsAt ls i t) k p
      by false q f = let r : IsAmong l labels = grind arith in f r

  fit_where_each : (labels : List ℕ) → ((l : ℕ) → IsAmong l labels → FitsAt ls i t l) → EachFitsAt ls i t labels
  fit_where_each [] f = tt
  fit_where_each (x ∷ labels) f = (f x first, fit_where_each labels (λ l e. f l (behind l e)))
    where
      first : IsAmong x (x ∷ labels)
      first = grind arith

      behind : (l : ℕ) → IsAmong l labels → IsAmong l (x ∷ labels)
      behind l e = grind arith

  fit_same : (some others : List ℕ) → SameLabels some others → EachFitsAt ls i t some → EachFitsAt ls i t others
  fit_same some others s h = fit_where_each others (λ l e. fits_at_one some l (s l ∙ e) h)

  -- whether a label and others fit, where the others are named by a list of the same
  pub fit_as_named : (r : Bool) (d : ℕ) (some others : List ℕ) → SameLabels some others → FitsAt ls i t d → IsTrue r ↔ EachFitsAt ls i t some → IsTrue r ↔ EachFitsAt ls i t (d ∷ others)
  fit_as_named r d some others s f b = (λ x. (f, fit_same some others s (b.0 x)), λ (x, y). b.1 (fit_same others some (λ l. sym (s l)) y))

-- ---- labels that are named once

-- one that was named again
named_again : (a e r : Bool) → (e ≡ true → a ≡ true) → (a || r) ≡ (a || (e || r))
named_again true e r h = refl
named_again false true r h = let no : false ≡ true = h refl in absurd cc
named_again false false r h = refl

-- one that was not named before
named_anew : (a e r : Bool) → ((a || (e || false)) || r) ≡ (a || (e || r))
named_anew true e r = refl
named_anew false true r = refl
named_anew false false r = refl

equal_is : (l k : ℕ) → (l == k) ≡ true → l ≡ k
equal_is l k q = grind arith

pub named_more : (named more left rest all : List ℕ) (l : ℕ) → left ≡ l ∷ rest → more ≡ named ++ l ∷ [] → ((k : ℕ) → (is_among k named || is_among k left) ≡ is_among k all)
    → (k : ℕ) → (is_among k more || is_among k rest) ≡ is_among k all
named_more named more left rest all l e q same k =
    let pushed : is_among k more ≡ (is_among k named || ((l == k) || false)) = ap (is_among k) q ∙ list_any-append (λ (x : ℕ). x == k) named (l ∷ []) in
    let before : (is_among k named || ((l == k) || is_among k rest)) ≡ is_among k all = rw e at (same k) in
    ap (λ (b : Bool). b || is_among k rest) pushed ∙ named_anew (is_among k named) (l == k) (is_among k rest) ∙ before

pub named_same : (named left rest all : List ℕ) (l : ℕ) → left ≡ l ∷ rest → IsAmong l named → ((k : ℕ) → (is_among k named || is_among k left) ≡ is_among k all)
    → (k : ℕ) → (is_among k named || is_among k rest) ≡ is_among k all
named_same named left rest all l e there same k =
    let before : (is_among k named || ((l == k) || is_among k rest)) ≡ is_among k all = rw e at (same k) in
    named_again (is_among k named) (l == k) (is_among k rest) (λ q. subst (λ (x : ℕ). IsAmong x named) (equal_is l k q) there) ∙ before

-- those that were met were named
pub met_named : (met kept named more : List ℕ) (l : ℕ) → more ≡ named ++ l ∷ [] → ((k : ℕ) → IsAmong k met → IsAmong k named) → KeepsOne met l kept → (k : ℕ) → IsAmong k kept → IsAmong k more
met_named met kept named more l q f s k a =
    let pushed : is_among k more ≡ (is_among k named || ((l == k) || false)) = ap (is_among k) q ∙ list_any-append (λ (x : ℕ). x == k) named (l ∷ []) in
    pushed ∙ ⊎_elim (λ h. first (is_among k named) ((l == k) || false) (f k h)) (λ h. last (is_among k named) k h) (s k a)
  where
    first : (a b : Bool) → a ≡ true → (a || b) ≡ true
    first true b e = refl
    first false b e = cc

    last : (a : Bool) (k : ℕ) → k ≡ l → (a || ((l == k) || false)) ≡ true
    last true k e = refl
    last false k e = grind arith
