-- The offsets of refusals: each is among the bytes at hand, no earlier than where the reader stands and no later than their end.
use Rattle.std.specs.Prelude.{◌≡◌, ℕ, ◌+◌, ◌≤◌, List, [], ◌∷◌, length}
use Rattle.wasm_types_decoding.specs.Decoder.{State, Outcome, Done, Short, Fault, Decoder}

-- where the bytes that are left end
abbrev pub end_of : State → ℕ
end_of s = s.place + length s.rest

-- a value leaves the reader in the same bytes, further on; any other outcome is at an offset from low to high
abbrev pub StaysIn : {A : Type 0} → ℕ → ℕ → Outcome A → Type 0
StaysIn low high (Done x t) = (low ≤ t.place) × (end_of t ≡ high)
StaysIn low high (Short p h) = (low ≤ p) × (p ≤ high)
StaysIn low high (Fault k p) = (low ≤ p) × (p ≤ high)

-- each refusal is at an offset among the bytes that were left, or at their end
pub record RefusesWithin {A : Type 0} (d : Decoder A) : Type 0 where
  pub stays : (s : State) → StaysIn s.place (end_of s) (d s)

-- the same for what follows a byte, which may refuse at that byte
pub record RefusesFromByte {A : Type 0} (d : Decoder A) : Type 0 where
  pub stays : (p : ℕ) (s : State) → s.place ≡ p + 1 → StaysIn p (end_of s) (d s)

-- each alternative keeps its refusals within
abbrev pub AllWithin : {A : Type 0} → List (ℕ × Decoder A) → Type 0
AllWithin [] = Unit {0}
AllWithin (c ∷ cs) = RefusesWithin c.1 × AllWithin cs
