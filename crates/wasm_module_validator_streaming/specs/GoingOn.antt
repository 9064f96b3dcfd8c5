-- A module that is judged to its end: where what judges it stands, once a body of it was refused.
use Rattle.std.specs.Prelude.{◌≡◌, ◌<◌, ◌+◌, ◌^◌, ◌++◌, ℕ, Bool, true, List, [], length, Option, Some, None}
use Rattle.wasm_types.specs.decoding.ErrorValue.{ErrorValue}
use Rattle.wasm_types.specs.settings.Settings.{Settings}
use Rattle.wasm_module_validator.specs.Shown.{Learned}
use Rattle.wasm_module_validator_section_order.specs.rules.Accepts.{AcceptsUnder}
use Rattle.wasm_module_validator_streaming.specs.declared.going_on.GoingOn.{GoingOn}
use Rattle.wasm_module_validator_streaming.specs.declared.taking.Taken.{Taken}
use Rattle.wasm_module_validator_streaming.specs.Taking.{Takes}
use Rattle.wasm_module_validator_streaming.specs.Verdicts.{StandsAt, ShownAt, DeniedAt}

-- The bytes that came refuse each module that begins with them; and a parser at this offset stands before those that are left.
pub record IsLost (z : Settings) (got : List ℕ) (eof : Bool) (place : ℕ) (rest : List ℕ) : Type 0 where
  pub refused : (more : List ℕ) → (eof ≡ true → more ≡ []) → length (got ++ more) < 2 ^ 64 → AcceptsUnder z (got ++ more) → ⊥
  pub there : place + length rest ≡ length got

-- where it stands, by whether a body was refused
abbrev pub GoesOnBy : GoingOn → List ℕ → Bool → List ℕ → GoingOn → Option ErrorValue → Type 0
GoesOnBy first got eof rest now None = StandsAt first.judging got eof rest now.judging
GoesOnBy first got eof rest now (Some e) = IsLost first.judging.validator.settings got eof now.judging.parser.frames.offset rest

abbrev pub GoesOnAt : GoingOn → List ℕ → Bool → List ℕ → GoingOn → Type 0
GoesOnAt first got eof rest now = GoesOnBy first got eof rest now now.refused

-- by what it was at first all the bytes are accepted, or an error denies that
abbrev pub ShownOn : GoingOn → List ℕ → Learned → Type 0
ShownOn first text t = ShownAt first.judging text t

abbrev pub DeniedOn : GoingOn → List ℕ → ErrorValue → Type 0
DeniedOn first text e = DeniedAt first.judging text e

-- nothing is said of what is left
abbrev pub WaitsOn : GoingOn → List ℕ → Type 0
WaitsOn now rest = Unit {0}

-- what a call promises that is given the bytes that are left, wherever it stood
abbrev pub TakesOn : GoingOn → Bool → List ℕ → Taken Learned → GoingOn → Type 0
TakesOn now eof rest result after = (first : GoingOn) (got : List ℕ) → GoesOnAt first got eof rest now → length got < 2 ^ 64
    → Takes GoesOnAt ShownOn DeniedOn WaitsOn first got eof rest result after
