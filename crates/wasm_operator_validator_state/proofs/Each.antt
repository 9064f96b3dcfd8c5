-- Types against types, one by one.
use Rattle.std.proofs.Common.{◌≡◌, ◌<◌, ℕ, zero, suc, List, [], ◌∷◌, length, get_or, refl, ap, arith}
use Rattle.wasm_types.specs.trees.Below.{Below}
use Rattle.wasm_types.specs.values.declared.value.ValType.{ValType}
use Rattle.wasm_operator_validator_rules.specs.Operands.{AllBelow, all_known}
use Rattle.wasm_operator_validator_resources.specs.Meaning.{Meaning, type_in}
use Rattle.wasm_operator_validator_state.specs.State.{types_in}

abbrev pub AreBelow : Meaning → List ValType → List ValType → Type 0
AreBelow m ts us = AllBelow (all_known (types_in m ts)) (all_known (types_in m us))

pub as_long : (m : Meaning) (ts us : List ValType) → AreBelow m ts us → length ts ≡ length us
as_long m [] [] b = refl
as_long m [] (u ∷ us) b = absurd b
as_long m (t ∷ ts) [] b = absurd b
as_long m (t ∷ ts) (u ∷ us) b = ap suc (as_long m ts us b.1)

-- each of the first so many is below the other in its place
abbrev pub AreBelowUpTo : Meaning → List ValType → List ValType → ℕ → Type 0
AreBelowUpTo m ts us n = (k : ℕ) (t u : ValType) → k < n → Below (type_in m (get_or ts k t)) (type_in m (get_or us k u))

pub all_below : (m : Meaning) (ts us : List ValType) → length ts ≡ length us → AreBelowUpTo m ts us (length ts) → AreBelow m ts us
all_below m [] [] e b = tt
all_below m [] (u ∷ us) e b = cc
all_below m (t ∷ ts) [] e b = cc
all_below m (t ∷ ts) (u ∷ us) e b =
    (b zero t u (omega arith), all_below m ts us (omega (arith, e)) (λ k v w h. b (suc k) v w (omega arith)))

pub below_at : (m : Meaning) (ts us : List ValType) (k : ℕ) (t u : ValType) → AreBelow m ts us → k < length ts → Below (type_in m (get_or ts k t)) (type_in m (get_or us k u))
below_at m [] us k t u b h = absurd (omega arith)
below_at m (x ∷ ts) [] k t u b h = absurd b
below_at m (x ∷ ts) (y ∷ us) zero t u b h = b.0
below_at m (x ∷ ts) (y ∷ us) (suc k) t u b h = below_at m ts us k t u b.1 (omega arith)
