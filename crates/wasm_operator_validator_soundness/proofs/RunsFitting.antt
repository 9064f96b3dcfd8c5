-- Values that fit operands, and stacks of operands.
use Rattle.std.proofs.Common.{◌≡◌, ℕ, List, [], ◌∷◌, ◌++◌, length, reverse, refl, ap, subst, ◌∙◌, append_assoc}
use Rattle.std.specs.Prelude.{take, drop}
use Rattle.std.proofs.lemmas.List.{reverse-append, length-map, length-reverse}
use Rattle.wasm_types.specs.trees.laws.Below.{below_transitive}
use Rattle.wasm_operator_validator_rules.specs.Operands.{ValueType, Operand, bottom, some_reference, known, OperandBelow, AllBelow, all_known, stack}
use Rattle.wasm_operator_validator_soundness.specs.runs.Values.{Program, Value, least_type, EachFits, FitsOperand, AllFit}

module _ (p : Program) where
  -- ---- one value, and all of them

  pub fits_below : (v : Value) (t u : Operand) → FitsOperand p v t → OperandBelow t u → FitsOperand p v u
  fits_below v bottom u f b = absurd f
  fits_below v some_reference u f b = absurd f
  fits_below v (known t) bottom f b = absurd b
  fits_below v (known t) some_reference f b = absurd b
  fits_below v (known t) (known u) f b = (f.0, below_transitive (least_type v) t u f.1 b)

  pub all_below : (vs : List Value) (ts us : List Operand) → AllFit p vs ts → AllBelow ts us → AllFit p vs us
  all_below [] [] [] f b = tt
  all_below [] [] (u ∷ us) f b = absurd b
  all_below [] (t ∷ ts) us f b = absurd f
  all_below (v ∷ vs) [] us f b = absurd f
  all_below (v ∷ vs) (t ∷ ts) [] f b = absurd b
  all_below (v ∷ vs) (t ∷ ts) (u ∷ us) f b = (fits_below v t u f.0 b.0, all_below vs ts us f.1 b.1)

  -- those on top for others above them, and the rest as it is
  pub below_on_top : (vs : List Value) (ts us rest : List Operand) → AllFit p vs (ts ++ rest) → AllBelow ts us → AllFit p vs (us ++ rest)
  below_on_top vs [] [] rest f b = f
  below_on_top vs [] (u ∷ us) rest f b = absurd b
  below_on_top vs (t ∷ ts) [] rest f b = absurd b
  below_on_top [] (t ∷ ts) (u ∷ us) rest f b = absurd f
  below_on_top (v ∷ vs) (t ∷ ts) (u ∷ us) rest f b = (fits_below v t u f.0 b.0, below_on_top vs ts us rest f.1 b.1)

  pub each_below : (vs : List Value) (t u : ValueType) → EachFits p vs t → OperandBelow (known t) (known u) → EachFits p vs u
  each_below [] t u f b = tt
  each_below (v ∷ vs) t u f b = (fits_below v (known t) (known u) f.0 b, each_below vs t u f.1 b)

  -- ---- parts of a stack

  top_fits : (ts us : List Operand) (vs : List Value) → AllFit p vs (ts ++ us) → AllFit p (take (length ts) vs) ts
  top_fits [] us vs f = tt
  top_fits (t ∷ ts) us [] f = absurd f
  top_fits (t ∷ ts) us (v ∷ vs) f = (f.0, top_fits ts us vs f.1)

  rest_fits : (ts us : List Operand) (vs : List Value) → AllFit p vs (ts ++ us) → AllFit p (drop (length ts) vs) us
  rest_fits [] us vs f = f
  rest_fits (t ∷ ts) us [] f = absurd f
  rest_fits (t ∷ ts) us (v ∷ vs) f = rest_fits ts us vs f.1

  -- as many as there are types
  stack_length : (ts : List ValueType) → length (stack ts) ≡ length ts
  stack_length ts = length-reverse (all_known ts) ∙ length-map ts known

  pub taken_fit : (ts : List ValueType) (us : List Operand) (vs : List Value) → AllFit p vs (stack ts ++ us) → AllFit p (take (length ts) vs) (stack ts)
  taken_fit ts us vs f = subst (λ (n : ℕ). AllFit p (take n vs) (stack ts)) (stack_length ts) (top_fits (stack ts) us vs f)

  pub left_fit : (ts : List ValueType) (us : List Operand) (vs : List Value) → AllFit p vs (stack ts ++ us) → AllFit p (drop (length ts) vs) us
  left_fit ts us vs f = subst (λ (n : ℕ). AllFit p (drop n vs) us) (stack_length ts) (rest_fits (stack ts) us vs f)

  pub fits_joined : (vs ws : List Value) (ts us : List Operand) → AllFit p vs ts → AllFit p ws us → AllFit p (vs ++ ws) (ts ++ us)
  fits_joined [] ws [] us f h = h
  fits_joined [] ws (t ∷ ts) us f h = absurd f
  fits_joined (v ∷ vs) ws [] us f h = absurd f
  fits_joined (v ∷ vs) ws (t ∷ ts) us f h = (f.0, fits_joined vs ws ts us f.1 h)

  pub fits_reversed : (vs : List Value) (ts : List Operand) → AllFit p vs ts → AllFit p (reverse vs) (reverse ts)
  fits_reversed [] [] f = tt
  fits_reversed [] (t ∷ ts) f = absurd f
  fits_reversed (v ∷ vs) [] f = absurd f
  fits_reversed (v ∷ vs) (t ∷ ts) f = rw (reverse-append (v ∷ []) vs, reverse-append (t ∷ []) ts) (fits_joined (reverse vs) (v ∷ []) (reverse ts) (t ∷ []) (fits_reversed vs ts f.1) (f.0, tt))

-- ---- stacks of types

map_known : (ts us : List ValueType) → all_known (ts ++ us) ≡ all_known ts ++ all_known us
map_known [] us = refl
map_known (t ∷ ts) us = ap (λ (l : List Operand). known t ∷ l) (map_known ts us)

-- more on top
pub stack_joined : (ts us : List ValueType) → stack (ts ++ us) ≡ stack us ++ stack ts
stack_joined ts us = ap (λ (l : List Operand). reverse l) (map_known ts us) ∙ reverse-append (all_known ts) (all_known us)

pub stack_more : (ts : List ValueType) (t : ValueType) → stack (ts ++ t ∷ []) ≡ known t ∷ stack ts
stack_more ts t = stack_joined ts (t ∷ [])

-- what stands on top of any operands
pub reversed_under : (any us rest : List Operand) → reverse (any ++ us) ++ rest ≡ reverse us ++ (reverse any ++ rest)
reversed_under any us rest = ap (λ (l : List Operand). l ++ rest) (reverse-append any us) ∙ append_assoc (reverse us) (reverse any) rest

pub reversed_more : (any us rest : List Operand) (t : Operand) → reverse (any ++ (us ++ t ∷ [])) ++ rest ≡ t ∷ (reverse us ++ (reverse any ++ rest))
reversed_more any us rest t =
    reversed_under any (us ++ t ∷ []) rest ∙ ap (λ (l : List Operand). l ++ (reverse any ++ rest)) (reverse-append us (t ∷ []))

pub both_joined : (ts us ws xs : List Operand) → AllBelow ts us → AllBelow ws xs → AllBelow (ts ++ ws) (us ++ xs)
both_joined [] [] ws xs p q = q
both_joined [] (u ∷ us) ws xs p q = absurd p
both_joined (t ∷ ts) [] ws xs p q = absurd p
both_joined (t ∷ ts) (u ∷ us) ws xs p q = (p.0, both_joined ts us ws xs p.1 q)

pub both_reversed : (ts us : List Operand) → AllBelow ts us → AllBelow (reverse ts) (reverse us)
both_reversed [] [] p = tt
both_reversed [] (u ∷ us) p = absurd p
both_reversed (t ∷ ts) [] p = absurd p
both_reversed (t ∷ ts) (u ∷ us) p =
    rw (reverse-append (t ∷ []) ts, reverse-append (u ∷ []) us) (both_joined (reverse ts) (reverse us) (t ∷ []) (u ∷ []) (both_reversed ts us p.1) (p.0, tt))
