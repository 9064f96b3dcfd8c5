-- How a denial follows from another.
use Rattle.wasm_types_decoding.specs.declared.error.ErrorKind.{ErrorKind}
use Rattle.wasm_types_decoding.specs.declared.error.ErrorKind.TheVariants.{EndOfData, MissingFeature, OutOfMemory, Failed, Other}
use Rattle.wasm_types_decoding.specs.Denials.{Denies}

-- what implies what is denied is denied
pub denies_from : (k : ErrorKind) (P Q : Type 0) → (Q → P) → Denies k P → Denies k Q
denies_from (EndOfData h) P Q f d = λ q. d (f q)
denies_from (MissingFeature h) P Q f d = λ q. d (f q)
denies_from OutOfMemory P Q f d = tt
denies_from Failed P Q f d = λ q. d (f q)
denies_from Other P Q f d = λ q. d (f q)

-- what does not hold is denied
pub denies : (k : ErrorKind) (P : Type 0) → (P → ⊥) → Denies k P
denies (EndOfData h) P n = n
denies (MissingFeature h) P n = n
denies OutOfMemory P n = tt
denies Failed P n = n
denies Other P n = n
