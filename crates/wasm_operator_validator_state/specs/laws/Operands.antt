-- The order of operands is a preorder.
use Rattle.std.proofs.Common.{◌≡◌, List, [], ◌∷◌, ◌++◌, refl}
use Rattle.wasm_types.specs.trees.Types.{ValueOf, number, ref}
use Rattle.wasm_types.specs.trees.Trees.{TypeTree}
use Rattle.wasm_types.specs.trees.Below.{Below}
use Rattle.wasm_types.specs.trees.laws.Below.{below_reflexive, below_transitive}
use Rattle.wasm_operator_validator_rules.specs.Operands.{Operand, bottom, some_reference, known, IsReference, OperandBelow, AllBelow}

-- what is above a reference is a reference
pub reference_above : (t u : ValueOf TypeTree) → IsReference (known t) → Below t u → IsReference (known u)
reference_above (number n) u r b = absurd r
reference_above (ref n h) (number m) r b = absurd b
reference_above (ref n h) (ref m k) r b = tt

pub operand_refl : (t : Operand) → OperandBelow t t
operand_refl bottom = tt
operand_refl some_reference = tt
operand_refl (known t) = below_reflexive t

pub operand_trans : (t u v : Operand) → OperandBelow t u → OperandBelow u v → OperandBelow t v
operand_trans bottom u v b c = tt
operand_trans some_reference bottom v b c = absurd b
operand_trans some_reference some_reference v b c = c
operand_trans some_reference (known u) bottom b c = absurd c
operand_trans some_reference (known u) some_reference b c = absurd c
operand_trans some_reference (known u) (known v) b c = reference_above u v b c
operand_trans (known t) bottom v b c = absurd b
operand_trans (known t) some_reference v b c = absurd b
operand_trans (known t) (known u) bottom b c = absurd c
operand_trans (known t) (known u) some_reference b c = absurd c
operand_trans (known t) (known u) (known v) b c = below_transitive t u v b c

pub all_below_refl : (s : List Operand) → AllBelow s s
all_below_refl [] = tt
all_below_refl (t ∷ s) = (operand_refl t, all_below_refl s)

pub all_below_trans : (s t u : List Operand) → AllBelow s t → AllBelow t u → AllBelow s u
all_below_trans [] [] u b c = c
all_below_trans [] (y ∷ t) u b c = absurd b
all_below_trans (x ∷ s) [] u b c = absurd b
all_below_trans (x ∷ s) (y ∷ t) [] b c = absurd c
all_below_trans (x ∷ s) (y ∷ t) (z ∷ u) b c = (operand_trans x y z b.0 c.0, all_below_trans s t u b.1 c.1)

-- the operands below others
pub all_below_under : (xs s t : List Operand) → AllBelow s t → AllBelow (xs ++ s) (xs ++ t)
all_below_under [] s t b = b
all_below_under (x ∷ xs) s t b = (operand_refl x, all_below_under xs s t b)

pub all_below_none : (rest : List Operand) → AllBelow [] rest → rest ≡ []
all_below_none [] b = refl
all_below_none (t ∷ rest) b = absurd b
