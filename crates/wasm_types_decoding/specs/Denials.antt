-- What an answer tells of a fact: where it is Ok the fact holds, and a refusal denies it, unless memory ran out.
use Rattle.std.specs.Prelude.{◌≡◌, ℕ, Result, Ok, Err}
use Rattle.wasm_types_decoding.specs.ErrorValue.{ErrorValue}
use Rattle.wasm_types_decoding.specs.declared.error.ErrorKind.{ErrorKind}
use Rattle.wasm_types_decoding.specs.declared.error.ErrorKind.TheVariants.{EndOfData, MissingFeature, OutOfMemory, Failed, Other}

-- standard: none: what a refusal says, by its kind
-- the fact does not hold, unless memory ran out
abbrev pub Denies : ErrorKind → Type 0 → Type 0
Denies (EndOfData h) P = ¬ P
Denies (MissingFeature f) P = ¬ P
Denies OutOfMemory P = Unit {0}
Denies Failed P = ¬ P
Denies Other P = ¬ P

-- standard: none: what an answer says
-- Ok exactly where the fact holds, unless memory ran out
abbrev pub Tells : {X : Type 0} → Result X ErrorValue → Type 0 → Type 0
Tells (Ok x) P = P
Tells (Err e) P = Denies e.kind P

-- the fact holds of a refusal; out of memory promises nothing
abbrev pub UnlessMemory : ErrorKind → Type 0 → Type 0
UnlessMemory (EndOfData h) P = P
UnlessMemory (MissingFeature f) P = P
UnlessMemory OutOfMemory P = Unit {0}
UnlessMemory Failed P = P
UnlessMemory Other P = P

-- what is refused is refused at this offset
abbrev pub RefusedAt : {X : Type 0} → ℕ → Result X ErrorValue → Type 0
RefusedAt offset (Ok x) = Unit {0}
RefusedAt offset (Err e) = UnlessMemory e.kind (e.offset ≡ offset)
