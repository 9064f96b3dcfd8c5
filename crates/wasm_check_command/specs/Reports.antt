-- What is written of a list of inputs.
use Rattle.std.specs.Prelude.{◌≡◌, ℕ, List, [], ◌∷◌, ◌++◌, take, map, All, Contains, slice_get, Option, Some, None}
use Rattle.std.specs.Io.KnownBytes.{Appends}
use Rattle.wasm_check_command.specs.declared.judging.Input.{Input}
use Rattle.wasm_check_command.specs.declared.judging.Status.{Status}
use Rattle.wasm_check_command.specs.declared.judging.Status.TheVariants.{AllValid, SomeInvalid}
use Rattle.wasm_check_faults.specs.declared.error.CheckError.{CheckError}
use Rattle.wasm_check_faults.specs.declared.error.CheckError.TheVariants.{Read, TooLong, OutOfMemory, Write}
use Rattle.wasm_check_command.specs.Lines.{HasBytes, IsLine, BeginsLineOf}
use Rattle.wasm_check_command.specs.Modes.{Ruling, IsTooLong}

-- An input as a contract sees it: its name, and the bytes that its reader says it has left, where it says them.
pub record Source : Type 0 where
  pub name : List ℕ
  pub said : Option (List ℕ)

-- an input, where `remaining` is what its reader says
abbrev pub source_of : {R : Type 0} → (R → Option (List ℕ)) → Input R → Source
source_of remaining i = record { name = i.name.now; said = remaining i.reader }

-- inputs as contracts see them
abbrev pub sources_of : {R : Type 0} → (R → Option (List ℕ)) → List (Input R) → List Source
sources_of remaining inputs = map (source_of remaining) inputs

-- The text has one line for each source, in order, and the sources have these bytes.
abbrev pub Lines : Ruling → List Source → List (List ℕ) → List ℕ → Type 0
Lines ruling [] [] text = text ≡ []
Lines ruling [] (bytes ∷ contents) text = ⊥
Lines ruling (s ∷ sources) [] text = ⊥
Lines ruling (s ∷ sources) (bytes ∷ contents) text = (line : List ℕ) × (rest : List ℕ) × HasBytes ruling s.said bytes
    × IsLine ruling s.name bytes line
    × Lines ruling sources contents rest × (text ≡ line ++ rest)

-- The lines of these sources, which have these bytes, were written.
pub record WritesLines (ruling : Ruling) (sources : List Source) (contents : List (List ℕ)) (old new : Option (List ℕ)) : Type 0 where
  pub text : List ℕ
  pub lines : Lines ruling sources contents text
  pub appended : Appends old new text

-- whether all of these spell valid modules
abbrev pub Sums : Ruling → List (List ℕ) → Status → Type 0
Sums ruling contents AllValid = All ruling.accepts contents
Sums ruling contents SomeInvalid = (bytes : List ℕ) × Contains contents bytes × ¬ ruling.accepts bytes

-- All sources were judged: their lines were written, and the status says whether all are valid.
pub record IsReported (ruling : Ruling) (sources : List Source) (old new : Option (List ℕ)) (status : Status) : Type 0 where
  pub contents : List (List ℕ)
  pub written : WritesLines ruling sources contents old new
  pub sums : Sums ruling contents status

-- The source at this place came to no verdict: exactly the lines before it were written.
pub record StopsAt (ruling : Ruling) (sources : List Source) (index : ℕ) (old new : Option (List ℕ)) : Type 0 where
  pub source : Source
  pub found : slice_get sources index ≡ Some source
  pub contents : List (List ℕ)
  pub written : WritesLines ruling (take index sources) contents old new

-- what begins the line of a source; behind the last one it is nothing
abbrev pub BeginsNext : Ruling → Option Source → List ℕ → Type 0
BeginsNext ruling None front = front ≡ []
BeginsNext ruling (Some s) front = BeginsLineOf ruling s.name s.said front

-- The writing failed: what stands written are the lines of the sources before some place, whole, and at most a front of the line of
-- the source there.
pub record StopsWriting (ruling : Ruling) (sources : List Source) (old new : Option (List ℕ)) : Type 0 where
  pub index : ℕ
  pub contents : List (List ℕ)
  pub text : List ℕ
  pub lines : Lines ruling (take index sources) contents text
  pub front : List ℕ
  pub next : BeginsNext ruling (slice_get sources index) front
  pub appended : Appends old new (text ++ front)

-- what a fault leaves
abbrev pub Stops : Ruling → List Source → Option (List ℕ) → Option (List ℕ) → CheckError → Type 0
Stops ruling sources old new (Read i) = StopsAt ruling sources i old new
Stops ruling sources old new (TooLong i) = (s : StopsAt ruling sources i old new) × IsTooLong s.source.said
Stops ruling sources old new (OutOfMemory i) = StopsAt ruling sources i old new
Stops ruling sources old new Write = StopsWriting ruling sources old new
