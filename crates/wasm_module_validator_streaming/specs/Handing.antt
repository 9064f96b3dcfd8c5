-- What takes bytes item by item, where they are handed over: it stands behind what came, and where it stands more may come.
use Rattle.std.specs.Prelude.{◌≡◌, ◌<◌, ◌≤◌, ◌+◌, ◌^◌, ◌++◌, ℕ, Bool, false, List, length, Result, Ok, Err}
use Rattle.wasm_types.specs.decoding.ErrorValue.{ErrorValue}
use Rattle.wasm_module_validator_streaming.specs.declared.handing.PieceError.{PieceError}
use Rattle.wasm_module_validator_streaming.specs.declared.handing.PieceError.TheVariants as errors
use Rattle.wasm_module_validator_streaming.specs.Taking.{IsDenied, IsPassed}

-- From what it was at first some bytes came, of which these are left, and so many more may come.
pub record HasRoom {S : Type 0} (stands : S → List ℕ → Bool → List ℕ → S → Type 0) (rest : List ℕ) (now : S) (more : ℕ) : Type 0 where
  pub first : S
  pub got : List ℕ
  pub there : stands first got false rest now
  pub room : length got + more < 2 ^ 64

-- Wherever it stood, with these left of the bytes that came: when this text came too it stands now, with those left.
abbrev pub Follows : {S : Type 0} → (S → List ℕ → Bool → List ℕ → S → Type 0) → List ℕ → S → List ℕ → List ℕ → S → Type 0
Follows {S = S} stands before then text rest now = (first : S) (got : List ℕ) → stands first got false before then
    → length (got ++ text) < 2 ^ 64 → stands first (got ++ text) false rest now

-- Wherever it stood: when this text came too the error denies whatever begins with the bytes that came.
abbrev pub DeniesBehind : {S E : Type 0} → (S → List ℕ → Bool → List ℕ → S → Type 0) → (S → List ℕ → E → Type 0) → List ℕ → S → List ℕ
    → E → Type 0
DeniesBehind {S = S} stands denied before then text e = (first : S) (got : List ℕ) → stands first got false before then
    → length (got ++ text) < 2 ^ 64 → IsDenied denied first (got ++ text) false e

-- An item of these bytes is longer than that many: of some bytes at their front all whole items were taken and none is refused, so many bytes or
-- more are left of these, one at least, which are in no whole item, and with those that came after them they are more.
pub record IsOverlong {S : Type 0} (stands : S → List ℕ → Bool → List ℕ → S → Type 0) (waits : S → List ℕ → Type 0) (first : S) (most : ℕ)
    (got : List ℕ) : Type 0 where
  pub front : List ℕ
  pub later : List ℕ
  pub whole : got ≡ front ++ later
  pub passed : IsPassed stands waits first front
  pub some : 0 < length passed.0
  pub full : most ≤ length passed.0
  pub more : most < length passed.0 + length later

-- Wherever it stood: an item of the bytes that came, with this text behind them, is too long.
abbrev pub LongBehind : {S : Type 0} → (S → List ℕ → Bool → List ℕ → S → Type 0) → (S → List ℕ → Type 0) → ℕ → List ℕ → S → List ℕ → Type 0
LongBehind {S = S} stands waits most before then text = (first : S) (got : List ℕ) → stands first got false before then
    → length (got ++ text) < 2 ^ 64 → IsOverlong stands waits first most (got ++ text)

-- The same where all bytes that came are left.
abbrev pub LongFrom : {S : Type 0} → (S → List ℕ → Bool → List ℕ → S → Type 0) → (S → List ℕ → Type 0) → ℕ → List ℕ → S → Type 0
LongFrom {S = S} stands waits most before then = (first : S) (got : List ℕ) → stands first got false before then → length got < 2 ^ 64
    → IsOverlong stands waits first most got

-- What an error says: that of a refusal, or that of an item that is too long.
abbrev pub Says : (ErrorValue → Type 0) → Type 0 → PieceError → Type 0
Says denied long (errors.Refused e) = denied e
Says denied long errors.TooLong = long

-- What is told of bytes behind which none follow.
abbrev pub TellsLast : {S D : Type 0} → (S → List ℕ → D → Type 0) → (S → List ℕ → ErrorValue → Type 0) → S → List ℕ → Result D ErrorValue
    → Type 0
TellsLast shown denied first got (Ok d) = shown first got d
TellsLast shown denied first got (Err e) = denied first got e
