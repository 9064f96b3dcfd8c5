-- Why a run came to no verdict.
use Rattle.std.specs.Prelude.{◌≡◌, ℕ, List, Option}
use Rattle.wasm_check_faults.specs.declared.error.CheckError.{CheckError}
use Rattle.wasm_check_faults.specs.declared.error.CheckError.TheVariants.{Read, TooLong, OutOfMemory, Write}
use Rattle.wasm_check_command.specs.Modes.{IsTooLong}

-- an input at this place, whose reader says these bytes, could not be read
abbrev pub FailsReading : ℕ → Option (List ℕ) → CheckError → Type 0
FailsReading index said (Read i) = i ≡ index
FailsReading index said (TooLong i) = (i ≡ index) × IsTooLong said
FailsReading index said (OutOfMemory i) = i ≡ index
FailsReading index said Write = ⊥
