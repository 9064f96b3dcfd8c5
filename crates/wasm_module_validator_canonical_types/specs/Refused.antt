-- Refusals for what stands in the input.
use Rattle.std.specs.Prelude.{◌≡◌, ℕ, Result, Ok, Err}
use Rattle.wasm_types.specs.decoding.ErrorValue.{ErrorValue}
use Rattle.wasm_types.specs.decoding.declared.error.ErrorKind.TheVariants.{Other}

-- what is refused is refused for what it is, at this offset
abbrev pub FailsAt : {X : Type 0} → ℕ → Result X ErrorValue → Type 0
FailsAt offset (Ok x) = Unit {0}
FailsAt offset (Err e) = (e.kind ≡ Other) × (e.offset ≡ offset)
