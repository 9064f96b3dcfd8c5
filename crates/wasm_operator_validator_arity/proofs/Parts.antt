-- Numbers in 32 bits, from numbers that were looked up.
use Rattle.std.proofs.Common.{◌≡◌, ◌∙◌, ◌+◌, ◌-◌, ℕ, Option, Some, None, option_map, option_and_then, refl, ap, subst, arith}
use Rattle.wasm_operator_validator_rules.specs.arity.Arity.{Counts, in_u32, leaving, params_alone}
use Rattle.wasm_operator_validator_arity.specs.Knowing.{ended}

-- ---- numbers

pub none_more : (n : ℕ) → in_u32 (n + 0) ≡ in_u32 n
none_more n = let e : n + 0 ≡ n = omega arith in ap in_u32 e

pub one_more : (n : ℕ) → in_u32 (in_u32 n + 1) ≡ in_u32 (n + 1)
one_more n = omega arith

-- ---- tags, whose numbers come in 32 bits

pub thrown_ended : (c : Option Counts) → option_map (λ n. (n.0, 0)) (ended c) ≡ ended (leaving 0 (params_alone c))
thrown_ended None = refl
thrown_ended (Some c) = rw (none_more c.0) refl

pub caught_ended : (c : Option Counts) (r : Option ℕ)
    → option_and_then (λ n. option_map (λ k. (in_u32 k, n.0)) r) (ended c) ≡ ended (option_and_then (λ n. option_map (λ k. (k, n.0)) r) c)
caught_ended None r = refl
caught_ended (Some c) None = refl
caught_ended (Some c) (Some r) = refl

thrown_into_ended : (c t : Option Counts) → option_and_then (λ n. option_map (λ d. (in_u32 (d.0 + 1), in_u32 n.1)) (ended t)) c
    ≡ ended (option_and_then (λ n. option_map (λ d. (d.0 + 1, n.1)) t) c)
thrown_into_ended None t = refl
thrown_into_ended (Some c) None = refl
thrown_into_ended (Some c) (Some d) = rw (one_more d.0) refl

-- ---- continuations

pub thrown_counted : (c tag is t r : Option Counts) → c ≡ is → tag ≡ ended t → r ≡ option_and_then (λ n. option_map (λ d. (in_u32 (d.0 + 1), in_u32 n.1)) tag) c
    → r ≡ ended (option_and_then (λ n. option_map (λ d. (d.0 + 1, n.1)) t) is)
thrown_counted c tag is t r p q e =
    let f = subst (λ (x : Option Counts). r ≡ option_and_then (λ n. option_map (λ d. (in_u32 (d.0 + 1), in_u32 n.1)) tag) x) p e in
    subst (λ (y : Option Counts). r ≡ option_and_then (λ n. option_map (λ d. (in_u32 (d.0 + 1), in_u32 n.1)) y) is) q f ∙ thrown_into_ended is t

pub bound_counted : (from to is js r : Option Counts) → from ≡ is → to ≡ js → r ≡ ended (option_and_then (λ c. option_map (λ d. (c.0 - d.0 + 1, 1)) to) from)
    → r ≡ ended (option_and_then (λ c. option_map (λ d. (c.0 - d.0 + 1, 1)) js) is)
bound_counted from to is js r p q e =
    let f = subst (λ (x : Option Counts). r ≡ ended (option_and_then (λ c. option_map (λ d. (c.0 - d.0 + 1, 1)) to) x)) p e in
    subst (λ (y : Option Counts). r ≡ ended (option_and_then (λ c. option_map (λ d. (c.0 - d.0 + 1, 1)) y) is)) q f
