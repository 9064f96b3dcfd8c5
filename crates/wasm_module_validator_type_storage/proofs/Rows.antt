-- What the worked rows need.
use Rattle.std.specs.Prelude.{◌≡◌, ℕ, zero, suc, List, [], ◌∷◌, ◌++◌, All, Contains}
use Rattle.std.specs.declared.cmp.Ordering.TheVariants.{Less, Greater}
use Rattle.std.proofs.Common.{refl, sym, ap, subst, ◌∙◌, get_or, arith}
use Rattle.std.proofs.lemmas.List.Elements.{All-nil, All-cons}
use Rattle.wasm_module_validator_type_storage.specs.ordered.Worked.{by_five}

pub one_less : All (λ n. by_five n ≡ Less) (1 ∷ [])
one_less = All-cons (λ n. by_five n ≡ Less) 1 [] refl (All-nil (λ n. by_five n ≡ Less))

pub one_greater : (n : ℕ) → by_five n ≡ Greater → All (λ n. by_five n ≡ Greater) (n ∷ [])
one_greater n e = All-cons (λ n. by_five n ≡ Greater) n [] e (All-nil (λ n. by_five n ≡ Greater))

pub not_among : Contains {X = ℕ} (1 ∷ 9 ∷ []) 5 → ⊥
not_among (zero, lt, e) = absurd (omega (arith, e))
not_among (suc zero, lt, e) = absurd (omega (arith, e))
not_among (suc (suc k), lt, e) = absurd (omega (arith, lt))

pub not_early : (before after : List ℕ) → 1 ∷ 9 ∷ [] ≡ before ++ after → 7 ∷ 1 ∷ 9 ∷ [] ≡ before ++ 7 ∷ after → All (λ n. by_five n ≡ Greater) after → ⊥
not_early [] after was is greater = let h = subst (All (λ n. by_five n ≡ Greater)) (sym was) greater 0 0 (omega arith) in cc
not_early (b ∷ before) after was is greater = let h : 1 ≡ 7 = ap (λ l. get_or l 0 0) was ∙ sym (ap (λ l. get_or l 0 0) is) in absurd (omega (arith, h))

pub not_last : (before after : List ℕ) → 1 ∷ 9 ∷ [] ≡ before ++ after → 1 ∷ 9 ∷ 7 ∷ [] ≡ before ++ 7 ∷ after → All (λ n. by_five n ≡ Less) before → ⊥
not_last [] after was is less = let h : 1 ≡ 7 = ap (λ l. get_or l 0 0) is in absurd (omega (arith, h))
not_last (b ∷ []) after was is less = let h : 9 ≡ 7 = ap (λ l. get_or l 1 0) is in absurd (omega (arith, h))
not_last (b ∷ c ∷ before) after was is less =
    let h : by_five 9 ≡ Less = ap (λ l. by_five (get_or l 1 0)) was ∙ less 1 0 (omega arith) in cc
