-- Operands against others, in order and as stacks.
use Rattle.std.proofs.Common.{◌≡◌, ◌↔◌, List, [], ◌∷◌, ◌++◌, reverse}
use Rattle.std.proofs.lemmas.List.{reverse-append, reverse-reverse}
use Rattle.wasm_operator_validator_rules.specs.Operands.{ValueType, Operand, AllBelow, all_known, stack}

reverse_cons : (t : Operand) (s : List Operand) → reverse (t ∷ s) ≡ reverse s ++ t ∷ []
reverse_cons t s = reverse-append (t ∷ []) s

pub below_append : (a b c d : List Operand) → AllBelow a b → AllBelow c d → AllBelow (a ++ c) (b ++ d)
below_append [] [] c d p q = q
below_append [] (y ∷ b) c d p q = absurd p
below_append (x ∷ a) [] c d p q = absurd p
below_append (x ∷ a) (y ∷ b) c d p q = (p.0, below_append a b c d p.1 q)

pub below_reverse : (a b : List Operand) → AllBelow a b → AllBelow (reverse a) (reverse b)
below_reverse [] [] p = tt
below_reverse [] (y ∷ b) p = absurd p
below_reverse (x ∷ a) [] p = absurd p
below_reverse (x ∷ a) (y ∷ b) p = rw (reverse_cons x a, reverse_cons y b) (below_append (reverse a) (reverse b) (x ∷ []) (y ∷ []) (below_reverse a b p.1) (p.0, tt))

-- types against types, in order and as stacks
pub below_as_stacks : (ts us : List ValueType) → AllBelow (all_known ts) (all_known us) ↔ AllBelow (stack ts) (stack us)
below_as_stacks ts us = (
  λ p. below_reverse (all_known ts) (all_known us) p,
  λ p. (let q : AllBelow (reverse (reverse (all_known ts))) (reverse (reverse (all_known us))) = below_reverse (stack ts) (stack us) p in rw (reverse-reverse, reverse-reverse) at q),
)
