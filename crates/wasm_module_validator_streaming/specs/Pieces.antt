-- What a call says of the bytes of a reader: which of them were read, and what that tells of all.
use Rattle.std.specs.Prelude.{◌≡◌, ◌<◌, ◌≤◌, ◌+◌, ◌^◌, ◌++◌, ℕ, Bool, true, false, List, [], length, Option, Result, Ok, Err}
use Rattle.std.specs.Io.KnownBytes.{Consumes, IsAtEnd}
use Rattle.wasm_types.specs.decoding.ErrorValue.{ErrorValue}
use Rattle.wasm_module_validator_streaming.specs.declared.reading.ReadError.{ReadError}
use Rattle.wasm_module_validator_streaming.specs.declared.reading.ReadError.TheVariants as errors
use Rattle.wasm_module_validator_streaming.specs.Taking.{IsDenied}

-- The reader had these bytes and no others, at most so many, and what is known of them holds.
pub record AcceptsAll {D : Type 0} (shown : List ℕ → D → Type 0) (most : ℕ) (before after : Option (List ℕ)) (d : D) : Type 0 where
  pub all : List ℕ
  pub read : Consumes before after all
  pub ended : IsAtEnd after
  pub within : length all ≤ most
  pub known : shown all d

-- Some bytes were read, and perhaps the end behind them; whatever the reader still has, the error denies the whole.
pub record RefusesAll {E : Type 0} (denied : List ℕ → E → Type 0) (before after : Option (List ℕ)) (e : E) : Type 0 where
  pub got : List ℕ
  pub read : Consumes before after got
  pub eof : Bool
  pub ended : eof ≡ true → IsAtEnd after
  pub refused : (more : List ℕ) → (eof ≡ true → more ≡ []) → length (got ++ more) < 2 ^ 64 → denied (got ++ more) e

-- so many bytes were read, and nothing was told of them
abbrev pub ReadsSome : (ℕ → Type 0) → Option (List ℕ) → Option (List ℕ) → Type 0
ReadsSome many before after = (got : List ℕ) × Consumes before after got × many (length got)

-- What was read is bytes of which all whole items were taken and none was refused, so many; and no more than a piece behind them. So in
-- whatever item a call stops, no more than a piece was read behind the end of it.
pub record StopsWithin (passed : List ℕ → Type 0) (piece : ℕ) (many : ℕ → Type 0) (before after : Option (List ℕ)) : Type 0 where
  pub front : List ℕ
  pub last : List ℕ
  pub read : Consumes before after (front ++ last)
  pub taken : passed front
  pub few : length last ≤ piece
  pub count : many (length front)

-- so many bytes are taken where there may be so many: all that there may be, if more came
abbrev pub takes_most : {D : Type 0} → ℕ → Result D ReadError → ℕ → Type 0
takes_most most (Ok d) n = n ≤ most
takes_most most (Err (errors.Refused e)) n = n ≤ most
takes_most most (Err errors.Read) n = n ≤ most
takes_most most (Err errors.TooLong) n = n ≡ most

-- how far a call has read where it gives this answer
abbrev pub Stops : {D : Type 0} → (List ℕ → Type 0) → ℕ → ℕ → Option (List ℕ) → Option (List ℕ) → Result D ReadError → Type 0
Stops passed most piece before after result = StopsWithin passed piece (takes_most most result) before after

-- whether a read failed
abbrev pub fails : {D : Type 0} → Result D ReadError → Bool
fails (Ok d) = false
fails (Err (errors.Refused e)) = false
fails (Err errors.Read) = true
fails (Err errors.TooLong) = false

-- what is answered of a reader that may have so many bytes
abbrev pub Answers : {D : Type 0} → (List ℕ → D → Type 0) → (List ℕ → ErrorValue → Type 0) → ℕ → Option (List ℕ) → Option (List ℕ)
    → Result D ReadError → Type 0
Answers shown denied most before after (Ok d) = AcceptsAll shown most before after d
Answers shown denied most before after (Err (errors.Refused e)) = RefusesAll denied before after e
Answers shown denied most before after (Err errors.Read) = ReadsSome (λ n. n ≤ most) before after
Answers shown denied most before after (Err errors.TooLong) = ReadsSome (λ n. most < n) before after

-- what is answered of bytes behind which none follow
abbrev pub Concludes : {S D : Type 0} → (S → List ℕ → D → Type 0) → (S → List ℕ → ErrorValue → Type 0) → S → List ℕ → Result D ReadError
    → Type 0
Concludes shown denied first got (Ok d) = shown first got d
Concludes shown denied first got (Err (errors.Refused e)) = IsDenied denied first got true e
Concludes shown denied first got (Err errors.Read) = ⊥
Concludes shown denied first got (Err errors.TooLong) = ⊥

-- Some bytes came, at most so many with the room that is left, and these are left of them.
abbrev pub HasCome : {S : Type 0} → (S → List ℕ → Bool → List ℕ → S → Type 0) → S → ℕ → ℕ → Option (List ℕ) → Option (List ℕ) → List ℕ → S
    → Type 0
HasCome stands first most room before after rest now =
    (got : List ℕ) × (length got + room ≡ most) × Consumes before after got × stands first got false rest now
