-- Sums of sizes below a limit, as answers without an error.
use Rattle.std.specs.Prelude.{◌≡◌, ◌<◌, ℕ, Option, Some, None}

-- it is this sum, which is below the limit
abbrev pub IsAllBelow : ℕ → ℕ → ℕ → Type 0
IsAllBelow limit sum all = (all ≡ sum) × (sum < limit)

-- this sum where it is below the limit, else nothing
abbrev pub IsSumBelow : ℕ → ℕ → Option ℕ → Type 0
IsSumBelow limit sum None = sum < limit → ⊥
IsSumBelow limit sum (Some all) = IsAllBelow limit sum all
