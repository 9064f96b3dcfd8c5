-- The worked module in parts.
use Rattle.std.proofs.Common.{◌≡◌, ◌<◌, ◌≤◌, ◌%◌, ℕ, zero, suc, false, true, List, [], ◌∷◌, ◌++◌, length, refl, subst, arith}
use Rattle.std.proofs.lemmas.Bool.{eqb-true}
use Rattle.std.proofs.lemmas.Nat.{mod_below}
use Rattle.wasm_module_validator_rules.proofs.WorkedBytes.{bytes_worked}
use Rattle.wasm_module_validator_rules.specs.worked.Trees.{everything}
use Rattle.wasm_module_validator_drivers.specs.judging.Bodies.{AllOfPart, is_of}
use Rattle.wasm_module_validator.specs.Parts.{AcceptsPart}
use Rattle.wasm_module_validator.specs.laws.PartRows.{PartRows, bodiless}
use Rattle.wasm_module_validator.specs.laws.Parts.{whole_is_accepted}
use Rattle.wasm_module_validator.specs.laws.Verdict.{as_many_bodies}

-- a part that is not below their number has no bodies
no_bodies : (R : ℕ → List ℕ → Type 0) (part parts n : ℕ) → 0 < parts → parts ≤ part → (xs : List ℕ) (ts : List (List ℕ)) → length ts ≡ length xs → AllOfPart R part parts n xs ts
no_bodies R part parts n some beyond [] [] e = tt
no_bodies R part parts n some beyond [] (t ∷ ts) e = absurd (omega (arith, e))
no_bodies R part parts n some beyond (x ∷ xs) [] e = absurd (omega (arith, e))
no_bodies R part parts n some beyond (x ∷ xs) (t ∷ ts) e =
    (λ k. absurd (not_of k), no_bodies R part parts (suc n) some beyond xs ts (omega (arith, e)))
  where
    not_of : is_of part parts n ≡ true → ⊥
    not_of k =
        let same : n % parts ≡ part = eqb-true (n % parts) part k in
        let below = mod_below n parts some in
        omega (arith, same, below, beyond)

each_of_two : AcceptsPart everything 0 2 bodiless → AcceptsPart everything 1 2 bodiless → (part : ℕ) → part < 2 → AcceptsPart everything part 2 bodiless
each_of_two first second zero l = first
each_of_two first second (suc zero) l = second
each_of_two first second (suc (suc n)) l = absurd (omega (arith, l))

each_of_one : AcceptsPart everything 0 1 bodiless → (part : ℕ) → part < 1 → AcceptsPart everything part 1 bodiless
each_of_one first zero l = first
each_of_one first (suc n) l = absurd (omega (arith, l))

pub part_rows : PartRows
part_rows = record {
  beyond = (
    bytes_worked.body_aside,
    λ q read. no_bodies _ 1 1 0 (omega arith) (omega arith) q.tree.functions q.bodies (as_many_bodies everything bodiless q read),
  );
  only = λ first. bytes_worked.body_empty (whole_is_accepted everything 1 bodiless (omega arith) (each_of_one first));
  one_of_two = λ first second. bytes_worked.body_empty (whole_is_accepted everything 2 bodiless (omega arith) (each_of_two first second));
  outside = λ a. bytes_worked.no_body_aside a.0;
  not_the_first = λ x s. (λ k. absurd (let bad : false ≡ true = k in cc), tt);
  second = λ x y s t. (λ k. absurd (let bad : false ≡ true = k in cc), (λ k. (refl, refl), tt));
  not_without_it = λ x y s t h. h.1.0 refl;
}
