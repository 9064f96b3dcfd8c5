-- How it lies in memory: a mark for each local.
use Rattle.std.specs.Prelude.{◌≡◌, ◌∷◌, [], ℕ, Bool, true, false, List, Option, Some, None, get_or}
use Rattle.wasm_operator_validator_locals.specs.declared.inits.Mark.{Mark}
use Rattle.wasm_operator_validator_locals.specs.declared.inits.Mark.TheVariants as mark
use Rattle.wasm_operator_validator_locals.specs.inits.Inits.{is_among}

-- it has a value from the start
abbrev pub is_first : Mark → Bool
is_first mark.Unset = false
is_first mark.Set = false
is_first mark.First = true

-- it was set since
abbrev pub is_set : Mark → Bool
is_set mark.Unset = false
is_set mark.Set = true
is_set mark.First = false

-- locals without a value from the start, each once
abbrev pub AreUnset : List Bool → List ℕ → Type 0
AreUnset first [] = Unit {0}
AreUnset first (x ∷ xs) = (get_or first x true ≡ false) × (is_among xs x ≡ false) × AreUnset first xs

abbrev pub AreSavedUnset : List Bool → Option (List ℕ) → Type 0
AreSavedUnset first None = Unit {0}
AreSavedUnset first (Some xs) = AreUnset first xs

-- exactly these are marked as set
abbrev pub AreMarked : List Mark → List ℕ → Type 0
AreMarked marks set = (k : ℕ) → is_set (get_or marks k mark.Unset) ≡ is_among set k
