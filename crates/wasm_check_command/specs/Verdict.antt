-- What is written of one input.
use Rattle.std.specs.Prelude.{◌≡◌, ◌↔◌, ℕ, Bool, true, false, IsTrue, List, [], ◌++◌, Option, None, Result, Ok, Err}
use Rattle.std.specs.Io.KnownBytes.{Appends, Keeps}
use Rattle.wasm_types.specs.decoding.ErrorValue.{ErrorValue}
use Rattle.wasm_types.specs.reader.Reading.{IsNotMemory}
use Rattle.wasm_types.specs.settings.declared.Limits.{Limits}
use Rattle.wasm_check_lines.specs.Forms.{refused_text, valid_text}
use Rattle.wasm_check_faults.specs.declared.error.CheckError.{CheckError}
use Rattle.wasm_check_faults.specs.declared.error.CheckError.TheVariants.{Read, TooLong, OutOfMemory, Write}
use Rattle.wasm_check_command.specs.Lines.{HasBytes, IsLine, BeginsLine, BeginsLineOf}
use Rattle.wasm_check_command.specs.Manners.{Manner}
use Rattle.wasm_check_command.specs.Modes.{Ruling, IsTooLong}

-- A text could not be written: at most a front of it was.
pub record WritesFront (text : List ℕ) (old new : Option (List ℕ)) : Type 0 where
  pub front : List ℕ
  pub rest : List ℕ
  pub whole : text ≡ front ++ rest
  pub appended : Appends old new front

-- The line tells the verdict on these bytes, and so does the test.
pub record IsVerdict (ruling : Ruling) (name bytes : List ℕ) (valid : Bool) (line : List ℕ) : Type 0 where
  pub told : IsLine ruling name bytes line
  pub tested : IsTrue valid ↔ ruling.accepts bytes

-- The line tells the verdict on what a reader has that says these bytes, and so does the test.
abbrev pub IsVerdictOf : Ruling → List ℕ → Option (List ℕ) → Bool → List ℕ → Type 0
IsVerdictOf ruling name said valid line = (bytes : List ℕ) × HasBytes ruling said bytes × IsVerdict ruling name bytes valid line

-- What is written of an input with this verdict, of whose bytes the line tells nothing: out of memory is no verdict.
abbrev pub IsTextOf : Manner → Limits → List ℕ → Result (Unit {0}) ErrorValue → Bool → List ℕ → Type 0
IsTextOf manner limits name (Ok t) valid line = (valid ≡ true) × (line ≡ valid_text manner.form name)
IsTextOf manner limits name (Err e) valid line = (valid ≡ false) × IsNotMemory e.kind
    × (line ≡ refused_text manner.form manner.explains name limits e [] None)

-- The line on these bytes was written, and the answer is their verdict.
pub record WritesLine (ruling : Ruling) (name bytes : List ℕ) (valid : Bool) (old new : Option (List ℕ)) : Type 0 where
  pub line : List ℕ
  pub verdict : IsVerdict ruling name bytes valid line
  pub appended : Appends old new line

-- An input with this name, whose reader says these bytes, was judged.
pub record IsJudged (ruling : Ruling) (name : List ℕ) (said : Option (List ℕ)) (valid : Bool) (old new : Option (List ℕ)) : Type 0 where
  pub bytes : List ℕ
  pub has : HasBytes ruling said bytes
  pub written : WritesLine ruling name bytes valid old new

-- The bytes of the input at this place came to no verdict: nothing was written of it; or its line could not be written: at most a
-- front of that line was.
abbrev pub FailsWriting : Ruling → ℕ → List ℕ → List ℕ → Option (List ℕ) → Option (List ℕ) → CheckError → Type 0
FailsWriting ruling index name bytes old new (Read i) = ⊥
FailsWriting ruling index name bytes old new (TooLong i) = ⊥
FailsWriting ruling index name bytes old new (OutOfMemory i) = (i ≡ index) × Keeps old new
FailsWriting ruling index name bytes old new Write = (front : List ℕ) × BeginsLine ruling name bytes front × Appends old new front

-- the same of the whole input
abbrev pub FailsAt : Ruling → ℕ → List ℕ → Option (List ℕ) → Option (List ℕ) → Option (List ℕ) → CheckError → Type 0
FailsAt ruling index name said old new (Read i) = (i ≡ index) × Keeps old new
FailsAt ruling index name said old new (TooLong i) = (i ≡ index) × IsTooLong said × Keeps old new
FailsAt ruling index name said old new (OutOfMemory i) = (i ≡ index) × Keeps old new
FailsAt ruling index name said old new Write = (front : List ℕ) × BeginsLineOf ruling name said front × Appends old new front
