-- Values that fit operands, and stacks of operands.
use Rattle.std.proofs.Common.{◌≡◌, ℕ, List, [], ◌∷◌, ◌++◌, length, drop, reverse, refl, ap, subst, ◌∙◌, append_assoc}
use Rattle.std.proofs.lemmas.List.{reverse-append, length-reverse}
use Rattle.wasm_types.specs.trees.laws.Below.{below_transitive}
use Rattle.wasm_operator_validator_rules.specs.Operands.{ValueType, Operand, bottom, some_reference, known, OperandBelow, AllBelow, all_known, stack}
use Rattle.wasm_operator_validator_soundness.specs.Values.{Value, least_type, EachFits, FitsOperand, AllFit}
use Rattle.wasm_operator_validator_soundness.specs.States.{front, back}

-- ---- one value, and all of them

fits_below : (v : Value) (t u : Operand) → FitsOperand v t → OperandBelow t u → FitsOperand v u
fits_below v bottom u f b = absurd f
fits_below v some_reference u f b = absurd f
fits_below v (known t) bottom f b = absurd b
fits_below v (known t) some_reference f b = absurd b
fits_below v (known t) (known u) f b = below_transitive (least_type v) t u f b

pub all_below : (vs : List Value) (ts us : List Operand) → AllFit vs ts → AllBelow ts us → AllFit vs us
all_below [] [] [] f b = tt
all_below [] [] (u ∷ us) f b = absurd b
all_below [] (t ∷ ts) us f b = absurd f
all_below (v ∷ vs) [] us f b = absurd f
all_below (v ∷ vs) (t ∷ ts) [] f b = absurd b
all_below (v ∷ vs) (t ∷ ts) (u ∷ us) f b = (fits_below v t u f.0 b.0, all_below vs ts us f.1 b.1)

-- those on top for others above them, and the rest as it is
pub below_on_top : (vs : List Value) (ts us rest : List Operand) → AllFit vs (ts ++ rest) → AllBelow ts us → AllFit vs (us ++ rest)
below_on_top vs [] [] rest f b = f
below_on_top vs [] (u ∷ us) rest f b = absurd b
below_on_top vs (t ∷ ts) [] rest f b = absurd b
below_on_top [] (t ∷ ts) (u ∷ us) rest f b = absurd f
below_on_top (v ∷ vs) (t ∷ ts) (u ∷ us) rest f b = (fits_below v t u f.0 b.0, below_on_top vs ts us rest f.1 b.1)

pub each_below : (vs : List Value) (t u : ValueType) → EachFits vs t → OperandBelow (known t) (known u) → EachFits vs u
each_below [] t u f b = tt
each_below (v ∷ vs) t u f b = (below_transitive (least_type v) t u f.0 b, each_below vs t u f.1 b)

-- ---- parts of a stack

pub fits_front : (ts us : List Operand) (vs : List Value) → AllFit vs (ts ++ us) → AllFit (front ts vs) ts
fits_front [] us vs f = tt
fits_front (t ∷ ts) us [] f = absurd f
fits_front (t ∷ ts) us (v ∷ vs) f = (f.0, fits_front ts us vs f.1)

pub fits_back : (ts us : List Operand) (vs : List Value) → AllFit vs (ts ++ us) → AllFit (back ts vs) us
fits_back [] us vs f = f
fits_back (t ∷ ts) us [] f = absurd f
fits_back (t ∷ ts) us (v ∷ vs) f = fits_back ts us vs f.1

fits_below_front : (ts us : List Operand) (vs : List Value) → AllFit vs (ts ++ us) → AllFit (drop (length ts) vs) us
fits_below_front [] us vs f = f
fits_below_front (t ∷ ts) us [] f = absurd f
fits_below_front (t ∷ ts) us (v ∷ vs) f = fits_below_front ts us vs f.1

-- those below as many as are taken
pub fits_dropped : (popped rest : List Operand) (n : ℕ) (vs : List Value) → length popped ≡ n → AllFit vs (reverse popped ++ rest) → AllFit (drop n vs) rest
fits_dropped popped rest n vs e f =
    subst (λ (m : ℕ). AllFit (drop m vs) rest) (length-reverse popped ∙ e) (fits_below_front (reverse popped) rest vs f)

pub fits_joined : (vs ws : List Value) (ts us : List Operand) → AllFit vs ts → AllFit ws us → AllFit (vs ++ ws) (ts ++ us)
fits_joined [] ws [] us f h = h
fits_joined [] ws (t ∷ ts) us f h = absurd f
fits_joined (v ∷ vs) ws [] us f h = absurd f
fits_joined (v ∷ vs) ws (t ∷ ts) us f h = (f.0, fits_joined vs ws ts us f.1 h)

-- ---- stacks of types

map_known : (ts us : List ValueType) → all_known (ts ++ us) ≡ all_known ts ++ all_known us
map_known [] us = refl
map_known (t ∷ ts) us = ap (λ (l : List Operand). known t ∷ l) (map_known ts us)

-- one more on top
pub stack_more : (ts : List ValueType) (t : ValueType) → stack (ts ++ t ∷ []) ≡ known t ∷ stack ts
stack_more ts t = ap (λ (l : List Operand). reverse l) (map_known ts (t ∷ [])) ∙ reverse-append (all_known ts) (known t ∷ [])

-- what stands on top of any operands
pub reversed_under : (any us rest : List Operand) → reverse (any ++ us) ++ rest ≡ reverse us ++ (reverse any ++ rest)
reversed_under any us rest = ap (λ (l : List Operand). l ++ rest) (reverse-append any us) ∙ append_assoc (reverse us) (reverse any) rest

pub reversed_more : (any us rest : List Operand) (t : Operand) → reverse (any ++ (us ++ t ∷ [])) ++ rest ≡ t ∷ (reverse us ++ (reverse any ++ rest))
reversed_more any us rest t =
    reversed_under any (us ++ t ∷ []) rest ∙ ap (λ (l : List Operand). l ++ (reverse any ++ rest)) (reverse-append us (t ∷ []))

both_joined : (ts us ws xs : List Operand) → AllBelow ts us → AllBelow ws xs → AllBelow (ts ++ ws) (us ++ xs)
both_joined [] [] ws xs p q = q
both_joined [] (u ∷ us) ws xs p q = absurd p
both_joined (t ∷ ts) [] ws xs p q = absurd p
both_joined (t ∷ ts) (u ∷ us) ws xs p q = (p.0, both_joined ts us ws xs p.1 q)

pub both_reversed : (ts us : List Operand) → AllBelow ts us → AllBelow (reverse ts) (reverse us)
both_reversed [] [] p = tt
both_reversed [] (u ∷ us) p = absurd p
both_reversed (t ∷ ts) [] p = absurd p
both_reversed (t ∷ ts) (u ∷ us) p =
    rw (reverse-append (t ∷ []) ts, reverse-append (u ∷ []) us) (both_joined (reverse ts) (reverse us) (t ∷ []) (u ∷ []) (both_reversed ts us p.1) (p.0, tt))
