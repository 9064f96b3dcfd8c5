-- The places of the functions that are so.
use Rattle.std.proofs.Common.{◌≡◌, ◌↔◌, ◌⊎◌, inl, inr, ⊎_elim, ℕ, zero, suc, ◌+◌, ◌<◌, Bool, true, false, IsTrue, List, [], ◌∷◌, refl, subst, Option, Some, None, arith}
use Rattle.std.specs.Prelude.{slice_get, if◌then◌else◌}
use Rattle.wasm_operator_validator_rules.specs.Row.{IsOneOf}
use Rattle.wasm_module_validator_index_spaces.specs.declared.module.Function.{Function}
use Rattle.wasm_module_validator_resources.specs.Reading.{places}
use Rattle.wasm_module_validator_resources.specs.laws.Bare.{no_truth}

-- there is a function, and it is so
abbrev pub is_so : (Function → Bool) → Option Function → Bool
is_so p None = false
is_so p (Some f) = p f

one_of_if : (b : Bool) (x i : ℕ) (rest : List ℕ) → IsOneOf x (if b then i ∷ rest else rest) ↔ ((IsTrue b × (x ≡ i)) ⊎ IsOneOf x rest)
one_of_if true x i rest = (λ h. ⊎_elim (λ e. inl (refl, e)) (λ w. inr w) h, λ h. ⊎_elim (λ e. inl e.1) (λ w. inr w) h)
one_of_if false x i rest = (λ h. inr h, λ h. ⊎_elim (λ e. absurd (no_truth e.0)) (λ w. w) h)

none_before : (p : Function → Bool) (i : ℕ) (fs : List Function) (x : ℕ) → x < i → IsOneOf x (places p i fs) → ⊥
none_before p i [] x lt h = absurd h
none_before p i (f ∷ fs) x lt h =
    ⊎_elim
    (λ e. let same = e.1 in absurd (omega arith))
    (λ w. none_before p (suc i) fs x (omega arith) w)
    ((one_of_if (p f) x i (places p (suc i) fs)).0 h)

places_from : (p : Function → Bool) (i : ℕ) (fs : List Function) (n : ℕ) → IsOneOf (i + n) (places p i fs) ↔ IsTrue (is_so p (slice_get fs n))
places_from p i [] n = (λ h. absurd h, λ e. absurd (no_truth e))
places_from p i (f ∷ fs) zero =
    let w = one_of_if (p f) (i + 0) i (places p (suc i) fs) in (
      λ h. ⊎_elim (λ e. e.0) (λ r. absurd (none_before p (suc i) fs (i + 0) (omega arith) r)) (w.0 h),
      λ t. w.1 (inl (t, omega arith)),
    )
places_from p i (f ∷ fs) (suc n) =
    let w = one_of_if (p f) (i + suc n) i (places p (suc i) fs) in
    let next : suc i + n ≡ i + suc n = omega arith in
    let rest = subst (λ (x : ℕ). IsOneOf x (places p (suc i) fs) ↔ IsTrue (is_so p (slice_get fs n))) next (places_from p (suc i) fs n) in (
      λ h. ⊎_elim (λ e. let same = e.1 in absurd (omega arith)) (λ r. rest.0 r) (w.0 h),
      λ t. w.1 (inr (rest.1 t)),
    )

-- a place is one of them exactly where the function there is so
pub place_is_so : (p : Function → Bool) (fs : List Function) (n : ℕ) → IsOneOf n (places p 0 fs) ↔ IsTrue (is_so p (slice_get fs n))
place_is_so p fs n = subst (λ (x : ℕ). IsOneOf x (places p 0 fs) ↔ IsTrue (is_so p (slice_get fs n))) (let e : 0 + n ≡ n = omega arith in e) (places_from p 0 fs n)
