-- Operands as they lie in memory, as codes: those of the innermost frame, and those under them.
use Rattle.std.specs.Prelude.{ℕ, ◌-◌, List, ◌++◌, length, take, drop, reverse}

-- the operands of the innermost frame, and those under them, the top first in both
abbrev pub Values : Type 0
Values = List ℕ × List ℕ

-- all operands, of which so many lie under a frame
abbrev pub lying : ℕ → List ℕ → Values
lying base xs = (take (length xs - base) xs, drop (length xs - base) xs)

-- these were put on, the last on top
abbrev pub with_all : List ℕ → Values → Values
with_all ts v = (reverse ts ++ v.0, v.1)

-- so many items from one on
abbrev pub part : ℕ → ℕ → List ℕ → List ℕ
part from count xs = take count (drop from xs)
