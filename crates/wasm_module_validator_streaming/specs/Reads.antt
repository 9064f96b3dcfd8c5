-- What a read gives.
use Rattle.std.specs.Prelude.{◌≡◌, ◌<◌, ◌≤◌, ℕ, List, length, take, Option, Some, None}
use Rattle.std.specs.Io.KnownBytes.{Consumes, IsAtEnd, Keeps}

-- So many bytes at the front of these, and of none alone where the reader is at its end; or nothing, where the read failed.
abbrev pub Gives : Option (List ℕ) → Option (List ℕ) → Option ℕ → List ℕ → Type 0
Gives before after (Some n) chunk = (n ≤ length chunk) × Consumes before after (take n chunk) × (n ≡ 0 → 0 < length chunk → IsAtEnd after)
Gives before after None chunk = Keeps before after
