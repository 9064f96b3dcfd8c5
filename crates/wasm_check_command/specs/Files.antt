-- What the program does with the files that it is given.
use Rattle.std.specs.Prelude.{◌≡◌, ◌≢◌, codes, ℕ, Bool, IsTrue, true, false, ◌<◌, ◌≤◌, ◌⊎◌, length, List, [], ◌∷◌, map, take, All, Contains, slice_get, option_map, Option, Some, None, Result, Ok, Err}
use Rattle.std.specs.Borrow.{Bor}
use Rattle.std.specs.Io.KnownBytes.{Appends, Keeps}
use Rattle.clap.specs.declared.error.kind.ErrorKind.{ErrorKind}
use Rattle.wasm_check_faults.specs.declared.error.CheckError.{CheckError}
use Rattle.wasm_check_faults.specs.declared.error.CheckError.TheVariants.{Read, TooLong, OutOfMemory, Write}
use Rattle.wasm_check_command.specs.declared.judging.Chosen.{Chosen}
use Rattle.wasm_check_command.specs.declared.judging.Mode.{Mode}
use Rattle.wasm_check_command.specs.declared.judging.Status.{Status}
use Rattle.wasm_check_command.specs.declared.judging.Status.TheVariants.{AllValid, SomeInvalid}
use Rattle.wasm_check_faults.specs.declared.faults.Fault.{Fault}
use Rattle.wasm_check_command.specs.declared.command.Options.{Options}
use Rattle.wasm_check_command.specs.declared.files.Ended.{Ended}
use Rattle.wasm_check_faults.specs.declared.faults.Fault.TheVariants as faults
use Rattle.wasm_types.specs.settings.Settings.{Settings}
use Rattle.wasm_check_command.specs.Words.{files_of, list_file, IsHelp, AsksForHelp, NamesNoFiles}
use Rattle.wasm_check_command.specs.Settings.{Asked, IsGiven, IsUnknownIn, IsWrongIn, asked_by, manner_by, features_by, mode_by, settings_of}
use Rattle.wasm_check_command.specs.Lines.{BeginsLineOf}
use Rattle.wasm_check_lines.specs.declared.forms.Form.{Form}
use Rattle.wasm_check_lines.specs.declared.forms.Form.TheVariants.{Lines, Json, Quiet}
use Rattle.wasm_check_command.specs.Faults.{FailsReading}
use Rattle.wasm_check_command.specs.Modes.{AreLeft, IsShort, Ruling, manner_of, ruled}
use Rattle.wasm_check_command.specs.Opened.{kept_open, names_stdin}
use Rattle.wasm_check_command.specs.Names.{AreNames}
use Rattle.wasm_check_command.specs.Verdict.{IsJudged, FailsAt}
use Rattle.wasm_check_command.specs.Reports.{Source, IsReported, Stops}

-- what some texts say
abbrev pub texts : List (Bor (List ℕ)) → List (List ℕ)
texts names = map (λ n. n.now) names

-- the name that stands at the error's place, where it has one
abbrev pub IsNamed : List (List ℕ) → CheckError → List ℕ → Type 0
IsNamed names (Read i) name = slice_get names i ≡ Some name
IsNamed names (TooLong i) name = slice_get names i ≡ Some name
IsNamed names (OutOfMemory i) name = slice_get names i ≡ Some name
IsNamed names Write name = Unit {0}

-- the status of files and of one more
abbrev pub joined : Status → Bool → Status
joined status true = status
joined status false = SomeInvalid

-- These files were judged: a line was written for each, and the status says whether all are valid.
pub record ReportsFiles (ruling : Ruling) (names : List (List ℕ)) (old new : Option (List ℕ)) (status : Status) : Type 0 where
  pub sources : List Source
  pub named : map (λ s. s.name) sources ≡ names
  pub reported : IsReported ruling sources old new status

-- the last word is said: nothing is written, and a file is invalid
abbrev pub is_enough : Form → Status → Bool
is_enough Quiet SomeInvalid = true
is_enough Quiet AllValid = false
is_enough Lines status = false
is_enough Json status = false

abbrev pub IsEnough : Ruling → Status → Type 0
IsEnough ruling status = IsTrue (is_enough ruling.manner.form status)

-- These files were judged in order, all of them or as many as it takes to say the status.
pub record EndsFiles (ruling : Ruling) (names : List (List ℕ)) (old new : Option (List ℕ)) (status : Status) : Type 0 where
  pub judged : ℕ
  pub reported : ReportsFiles ruling (take judged names) old new status
  pub whole : (length names ≤ judged) ⊎ IsEnough ruling status

-- those of some names whose flag is set
abbrev pub select : List Bool → List (List ℕ) → List (List ℕ)
select [] names = []
select (b ∷ flags) [] = []
select (true ∷ flags) (name ∷ names) = name ∷ select flags names
select (false ∷ flags) (name ∷ names) = select flags names

-- some flag is not set
abbrev pub has_unset : List Bool → Bool
has_unset [] = false
has_unset (true ∷ flags) = has_unset flags
has_unset (false ∷ flags) = true

-- So many files from the first on were judged, except for those that came to no verdict: a flag for each says whether it was. `lost` says
-- whether one was not.
pub record GoesSoFar (ruling : Ruling) (names : List (List ℕ)) (place : ℕ) (old new : Option (List ℕ)) (status : Status) (lost : Bool) : Type 0 where
  pub flags : List Bool
  pub counted : length flags ≡ place
  pub reported : ReportsFiles ruling (select flags names) old new status
  pub told : lost ≡ has_unset flags

-- These files were judged in order, all of them or as many as it takes to say the status, except for those that came to no verdict: a flag for
-- each says whether it was judged. `lost` says whether one was not.
pub record GoesOn (ruling : Ruling) (names : List (List ℕ)) (old new : Option (List ℕ)) (status : Status) (lost : Bool) : Type 0 where
  pub flags : List Bool
  pub counted : length flags ≤ length names
  pub reported : ReportsFiles ruling (select flags names) old new status
  pub told : lost ≡ has_unset flags
  pub whole : (length names ≤ length flags) ⊎ IsEnough ruling status

-- The file of this name was judged: its line was written, and the answer is its verdict.
abbrev pub JudgesFile : Ruling → List ℕ → Option (List ℕ) → Option (List ℕ) → Bool → Type 0
JudgesFile ruling name old new valid = (said : Option (List ℕ)) × IsJudged ruling name said valid old new

-- The judging of these files stopped at the error's place: exactly the lines before it were written. The sources are those of the files up
-- to there.
pub record StopsChecking (ruling : Ruling) (names : List (List ℕ)) (old new : Option (List ℕ)) (error : CheckError)
    (name : List ℕ) : Type 0 where
  pub sources : List Source
  pub named : map (λ s. s.name) sources ≡ take (length sources) names
  pub stopped : Stops ruling sources old new error
  pub place : IsNamed names error name

-- A file past those that are kept open could not be opened again in its turn: the files before it were judged.
pub record StopsOpening (ruling : Ruling) (names : List (List ℕ)) (old new : Option (List ℕ)) (name : List ℕ) : Type 0 where
  pub index : ℕ
  pub found : slice_get names index ≡ Some name
  pub past : kept_open ≤ index
  pub status : Status
  pub before : ReportsFiles ruling (take index names) old new status

-- The file of this name, at this place, came to no verdict: it could not be opened again, and nothing was written of it; or what was read of
-- it was not judged, or its line not written.
abbrev pub FailsFile : Ruling → ℕ → List ℕ → Option (List ℕ) → Option (List ℕ) → Fault → Type 0
FailsFile ruling index name old new (faults.CannotOpen told reason) = (told.now ≡ name) × (kept_open ≤ index) × Keeps old new
FailsFile ruling index name old new (faults.Stopped error told reason) =
    (told.now ≡ name) × ((said : Option (List ℕ)) × FailsAt ruling index name said old new error)
FailsFile ruling index name old new faults.OutOfMemory = ⊥
FailsFile ruling index name old new (faults.CannotHold reason) = ⊥
FailsFile ruling index name old new (faults.UnknownFeature word) = ⊥
FailsFile ruling index name old new (faults.WrongPieces word) = ⊥
FailsFile ruling index name old new (faults.Clash first second) = ⊥
FailsFile ruling index name old new faults.NoFiles = ⊥
FailsFile ruling index name old new (faults.WrongLimit wrong word) = ⊥

-- The file of this name, at this place, could not be opened again in its turn. That each of the first ones can be opened is known before the
-- first is judged; if the system lets too few be open at once, it is told of one that it cannot be read.
abbrev pub FailsAgain : ℕ → List ℕ → Fault → Type 0
FailsAgain index name (faults.CannotOpen told reason) = (told.now ≡ name) × (kept_open ≤ index)
FailsAgain index name (faults.Stopped error told reason) = (told.now ≡ name) × (error ≡ Read index)
FailsAgain index name faults.OutOfMemory = ⊥
FailsAgain index name (faults.CannotHold reason) = ⊥
FailsAgain index name (faults.UnknownFeature word) = ⊥
FailsAgain index name (faults.WrongPieces word) = ⊥
FailsAgain index name (faults.Clash first second) = ⊥
FailsAgain index name faults.NoFiles = ⊥
FailsAgain index name (faults.WrongLimit wrong word) = ⊥

-- this file could not be opened
abbrev pub CannotOpen : List ℕ → Fault → Type 0
CannotOpen name (faults.CannotOpen told reason) = told.now ≡ name
CannotOpen name (faults.Stopped error told reason) = ⊥
CannotOpen name faults.OutOfMemory = ⊥
CannotOpen name (faults.CannotHold reason) = ⊥
CannotOpen name (faults.UnknownFeature word) = ⊥
CannotOpen name (faults.WrongPieces word) = ⊥
CannotOpen name (faults.Clash first second) = ⊥
CannotOpen name faults.NoFiles = ⊥
CannotOpen name (faults.WrongLimit wrong word) = ⊥

-- opening these files failed
abbrev pub FailsOpening : List (List ℕ) → Fault → Type 0
FailsOpening names (faults.CannotOpen name reason) = Contains names name.now
FailsOpening names (faults.Stopped error name reason) = ⊥
FailsOpening names faults.OutOfMemory = Unit {0}
FailsOpening names (faults.CannotHold reason) = ⊥
FailsOpening names (faults.UnknownFeature word) = ⊥
FailsOpening names (faults.WrongPieces word) = ⊥
FailsOpening names (faults.Clash first second) = ⊥
FailsOpening names faults.NoFiles = ⊥
FailsOpening names (faults.WrongLimit wrong word) = ⊥

-- What a fault leaves: where a file could not be opened before the first was judged, nothing was written.
abbrev pub StopsFiles : Ruling → List (List ℕ) → Option (List ℕ) → Option (List ℕ) → Fault → Type 0
StopsFiles ruling names old new (faults.CannotOpen name reason) =
    (Contains names name.now × Keeps old new) ⊎ StopsOpening ruling names old new name.now
StopsFiles ruling names old new (faults.Stopped error name reason) = StopsChecking ruling names old new error name.now
StopsFiles ruling names old new faults.OutOfMemory = Keeps old new
StopsFiles ruling names old new (faults.CannotHold reason) = Keeps old new
StopsFiles ruling names old new (faults.UnknownFeature word) = ⊥
StopsFiles ruling names old new (faults.WrongPieces word) = ⊥
StopsFiles ruling names old new (faults.Clash first second) = ⊥
StopsFiles ruling names old new faults.NoFiles = ⊥
StopsFiles ruling names old new (faults.WrongLimit wrong word) = ⊥

-- The file of this name came to no verdict, and nothing was written of it; or its line could not be written: at most a front of it was.
abbrev pub LosesFile : Ruling → List ℕ → Option (List ℕ) → Option (List ℕ) → Fault → Type 0
LosesFile ruling name old new (faults.CannotOpen told reason) = Keeps old new
LosesFile ruling name old new (faults.Stopped (Read i) told reason) = Keeps old new
LosesFile ruling name old new (faults.Stopped (TooLong i) told reason) = Keeps old new
LosesFile ruling name old new (faults.Stopped (OutOfMemory i) told reason) = Keeps old new
LosesFile ruling name old new (faults.Stopped Write told reason) =
    (said : Option (List ℕ)) × (front : List ℕ) × BeginsLineOf ruling name said front × Appends old new front
LosesFile ruling name old new faults.OutOfMemory = ⊥
LosesFile ruling name old new (faults.CannotHold reason) = ⊥
LosesFile ruling name old new (faults.UnknownFeature word) = ⊥
LosesFile ruling name old new (faults.WrongPieces word) = ⊥
LosesFile ruling name old new (faults.Clash first second) = ⊥
LosesFile ruling name old new faults.NoFiles = ⊥
LosesFile ruling name old new (faults.WrongLimit wrong word) = ⊥

-- the fault is that a line could not be written
abbrev pub is_unwritten : Fault → Bool
is_unwritten (faults.CannotOpen told reason) = false
is_unwritten (faults.Stopped (Read i) told reason) = false
is_unwritten (faults.Stopped (TooLong i) told reason) = false
is_unwritten (faults.Stopped (OutOfMemory i) told reason) = false
is_unwritten (faults.Stopped Write told reason) = true
is_unwritten faults.OutOfMemory = false
is_unwritten (faults.CannotHold reason) = false
is_unwritten (faults.UnknownFeature word) = false
is_unwritten (faults.WrongPieces word) = false
is_unwritten (faults.Clash first second) = false
is_unwritten faults.NoFiles = false
is_unwritten (faults.WrongLimit wrong word) = false

-- The writing failed while files were judged of which some came to no verdict: what stands written are the lines of those that were judged
-- before some place, whole, and at most a front of the line of the file there.
pub record StopsGoing (ruling : Ruling) (names : List (List ℕ)) (old new : Option (List ℕ)) : Type 0 where
  pub flags : List Bool
  pub counted : length flags ≤ length names
  pub status : Status
  pub middle : Option (List ℕ)
  pub before : ReportsFiles ruling (select flags names) old middle status
  pub name : List ℕ
  pub said : Option (List ℕ)
  pub front : List ℕ
  pub next : BeginsLineOf ruling name said front
  pub found : (slice_get names (length flags) ≡ Some name) ⊎ (front ≡ [])
  pub appended : Appends middle new front

-- how judging ended: its status, and whether a file came to no verdict
abbrev pub EndsBy : Ruling → List (List ℕ) → Option (List ℕ) → Option (List ℕ) → Ended → Type 0
EndsBy ruling names old new e = GoesOn ruling names old new e.status e.lost

-- what a fault leaves, if the judging goes on after files that come to no verdict: it is that standard input cannot be held, or that a line
-- could not be written
abbrev pub StopsGoingBy : Ruling → List (List ℕ) → Option (List ℕ) → Option (List ℕ) → Fault → Type 0
StopsGoingBy ruling names old new (faults.CannotHold reason) = Keeps old new
StopsGoingBy ruling names old new (faults.CannotOpen told reason) = ⊥
StopsGoingBy ruling names old new (faults.Stopped error told reason) = (error ≡ Write) × StopsGoing ruling names old new
StopsGoingBy ruling names old new faults.OutOfMemory = ⊥
StopsGoingBy ruling names old new (faults.UnknownFeature word) = ⊥
StopsGoingBy ruling names old new (faults.WrongPieces word) = ⊥
StopsGoingBy ruling names old new (faults.Clash first second) = ⊥
StopsGoingBy ruling names old new faults.NoFiles = ⊥
StopsGoingBy ruling names old new (faults.WrongLimit wrong word) = ⊥

-- this number of `--pieces` is refused
abbrev pub RefusesPieces : Option (List ℕ) → Fault → Type 0
RefusesPieces number (faults.WrongPieces word) = (number ≡ Some word.now) × (mode_by number ≡ None)
RefusesPieces number (faults.Clash first second) = ⊥
RefusesPieces number faults.NoFiles = ⊥
RefusesPieces number (faults.UnknownFeature word) = ⊥
RefusesPieces number (faults.WrongLimit wrong word) = ⊥
RefusesPieces number (faults.CannotOpen name reason) = ⊥
RefusesPieces number (faults.Stopped error name reason) = ⊥
RefusesPieces number faults.OutOfMemory = ⊥
RefusesPieces number (faults.CannotHold reason) = ⊥

-- one of these lists of `--features` is refused
abbrev pub RefusesFeatures : List (List ℕ) → Fault → Type 0
RefusesFeatures lists (faults.UnknownFeature word) = IsUnknownIn lists word.now
RefusesFeatures lists (faults.WrongPieces word) = ⊥
RefusesFeatures lists (faults.Clash first second) = ⊥
RefusesFeatures lists faults.NoFiles = ⊥
RefusesFeatures lists (faults.WrongLimit wrong word) = ⊥
RefusesFeatures lists (faults.CannotOpen name reason) = ⊥
RefusesFeatures lists (faults.Stopped error name reason) = ⊥
RefusesFeatures lists faults.OutOfMemory = ⊥
RefusesFeatures lists (faults.CannotHold reason) = ⊥

-- one of these lists of `--limits` is
abbrev pub RefusesLimits : List (List ℕ) → Fault → Type 0
RefusesLimits lists (faults.UnknownFeature word) = ⊥
RefusesLimits lists (faults.WrongPieces word) = ⊥
RefusesLimits lists (faults.Clash first second) = ⊥
RefusesLimits lists faults.NoFiles = ⊥
RefusesLimits lists (faults.WrongLimit wrong word) = IsWrongIn lists wrong word.now
RefusesLimits lists (faults.CannotOpen name reason) = ⊥
RefusesLimits lists (faults.Stopped error name reason) = ⊥
RefusesLimits lists faults.OutOfMemory = ⊥
RefusesLimits lists (faults.CannotHold reason) = ⊥

-- a list is refused: that of `--features`; or it is not, and that of `--limits` is
abbrev pub RefusesLists : Asked → Fault → Type 0
RefusesLists asked fault = RefusesFeatures asked.features fault
    ⊎ (((features : ℕ) × (features_by asked.features ≡ Ok features)) × RefusesLimits asked.limits fault)

-- these two options do not go together, and are there
abbrev pub Clashes : Asked → List ℕ → List ℕ → Type 0
Clashes asked first second = IsTrue asked.needs × (first ≡ codes "--needs")
    × (((second ≡ codes "--features <LIST>") × (asked.features ≢ [])) ⊎ ((second ≡ codes "--pieces <N>") × (asked.pieces ≢ None)))

abbrev pub RefusesTogether : Asked → Fault → Type 0
RefusesTogether asked (faults.Clash first second) = Clashes asked first.now second.now
RefusesTogether asked faults.NoFiles = ⊥
RefusesTogether asked (faults.UnknownFeature word) = ⊥
RefusesTogether asked (faults.WrongPieces word) = ⊥
RefusesTogether asked (faults.WrongLimit wrong word) = ⊥
RefusesTogether asked (faults.CannotOpen name reason) = ⊥
RefusesTogether asked (faults.Stopped error name reason) = ⊥
RefusesTogether asked faults.OutOfMemory = ⊥
RefusesTogether asked (faults.CannotHold reason) = ⊥

-- The run stopped before any file was opened: the number of `--pieces` is refused; or it is not, and a list is; or memory ran out, or two
-- options do not go together.
abbrev pub StopsEarly : Asked → Fault → Type 0
StopsEarly asked fault = RefusesPieces asked.pieces fault
    ⊎ ((((mode : Mode) × (mode_by asked.pieces ≡ Some mode)) × RefusesLists asked fault) ⊎ ((fault ≡ faults.OutOfMemory) ⊎ RefusesTogether asked fault))

-- the exit status: a file that came to no verdict goes before one that is invalid
abbrev pub code_of_status : Status → ℕ
code_of_status AllValid = 0
code_of_status SomeInvalid = 1

abbrev pub code_of_ended : Bool → Status → ℕ
code_of_ended true status = 2
code_of_ended false status = code_of_status status

abbrev pub code_of : Result Ended Fault → ℕ
code_of (Ok e) = code_of_ended e.lost e.status
code_of (Err fault) = 2

-- the lists of an option, none if it is not there
abbrev pub lists_in : Option (Bor (List (Bor (List ℕ)))) → List (List ℕ)
lists_in None = []
lists_in (Some lists) = texts lists.now

-- the values of the options, as contracts see them
abbrev pub asked_of : Options → Asked
asked_of o = record {
  features = lists_in o.features;
  limits = lists_in o.limits;
  pieces = option_map (λ n. n.now) o.pieces;
  vectors = o.vectors;
  form = o.form;
  explains = o.explains;
  needs = o.needs;
  goes_on = o.goes_on;
}

-- these settings, this mode and this manner are asked for, and whether the judging goes on
abbrev pub IsChosen : Asked → Chosen → Bool → Type 0
IsChosen asked c goes_on = IsGiven asked (settings_of c) c.mode × (manner_of c ≡ manner_by asked) × (goes_on ≡ asked.goes_on)

-- What is asked for was done: these files were judged by the settings that the options give, each with a line; or, if `lost` says so, some of
-- them came to no verdict, which only `--keep-going` allows.
pub record ReportsBy (accepts : Settings → List ℕ → Type 0) (asked : Asked) (names : List (List ℕ)) (old new : Option (List ℕ))
    (status : Status) (lost : Bool) : Type 0 where
  pub settings : Settings
  pub mode : Mode
  pub given : IsGiven asked settings mode
  pub reported : GoesOn (ruled (manner_by asked) mode accepts settings) names old new status lost
  pub allowed : (lost ≡ false) ⊎ (asked.goes_on ≡ true)

-- A reader has a list of these names left, if it says what it has left: no longer than an input may be.
abbrev pub HasList : Option (List ℕ) → List (List ℕ) → Type 0
HasList said names = (list : List ℕ) × AreLeft said list × IsShort list × AreNames list names

-- if this file is standard input, none of these names is its
abbrev pub IsApart : List ℕ → List (List ℕ) → Type 0
IsApart file names = names_stdin file ≡ true → All (λ n. names_stdin n ≡ false) names

-- some list has these names, and they are apart from the file that gives it
pub record HasNames (file : List ℕ) (names : List (List ℕ)) : Type 0 where
  pub list : List ℕ
  pub named : AreNames list names
  pub apart : IsApart file names

-- These are the names that the words give: one by one, at least one; or by a list that some file has.
abbrev pub AreGiven : Option (List ℕ) → List (List ℕ) → List (List ℕ) → Type 0
AreGiven None given names = (names ≡ given) × (0 < length names)
AreGiven (Some file) given names = (given ≡ []) × HasNames file names

abbrev pub NamesFiles : List (List ℕ) → List (List ℕ) → Type 0
NamesFiles words names = AreGiven (list_file words) (files_of words) names

-- what this reader has left of the list in this file could not be read: a read failed, there is too much, or memory ran out
abbrev pub FailsList : List ℕ → Option (List ℕ) → Fault → Type 0
FailsList file said (faults.CannotOpen name reason) = ⊥
FailsList file said (faults.Stopped error name reason) = (name.now ≡ file) × FailsReading 0 said error
FailsList file said faults.OutOfMemory = Unit {0}
FailsList file said (faults.CannotHold reason) = ⊥
FailsList file said (faults.UnknownFeature word) = ⊥
FailsList file said (faults.WrongPieces word) = ⊥
FailsList file said (faults.Clash first second) = ⊥
FailsList file said faults.NoFiles = ⊥
FailsList file said (faults.WrongLimit wrong word) = ⊥

-- the list in this file could not be read or may not be there, or these files are given too
abbrev pub IsListFault : List ℕ → List (List ℕ) → Fault → Type 0
IsListFault file given (faults.CannotOpen name reason) = name.now ≡ file
IsListFault file given (faults.Stopped error name reason) = (name.now ≡ file) × (error ≢ Write)
IsListFault file given faults.OutOfMemory = Unit {0}
IsListFault file given (faults.CannotHold reason) = ⊥
IsListFault file given (faults.UnknownFeature word) = ⊥
IsListFault file given (faults.WrongPieces word) = ⊥
IsListFault file given (faults.Clash first second) = given ≢ []
IsListFault file given faults.NoFiles = ⊥
IsListFault file given (faults.WrongLimit wrong word) = ⊥

-- it is not known which files are meant: the list that the words name cannot be read, or files are named too
abbrev pub FailsNaming : List (List ℕ) → Fault → Type 0
FailsNaming words fault = (file : List ℕ) × (list_file words ≡ Some file) × IsListFault file (files_of words) fault

-- what an ending says
abbrev pub ReportsEnd : (Settings → List ℕ → Type 0) → Asked → List (List ℕ) → Option (List ℕ) → Option (List ℕ) → Ended → Type 0
ReportsEnd accepts asked names old new e = ReportsBy accepts asked names old new e.status e.lost

-- What a fault leaves: nothing was written, if it came before the files were opened; any other came while they were opened, and judged
-- by the settings that the options give.
abbrev pub StopsBy : (Settings → List ℕ → Type 0) → Asked → List (List ℕ) → Option (List ℕ) → Option (List ℕ) → Fault → Type 0
StopsBy accepts asked names old new fault = (StopsEarly asked fault × Keeps old new)
    ⊎ ((z : Settings) × (mode : Mode) × IsGiven asked z mode
    × (StopsFiles (ruled (manner_by asked) mode accepts z) names old new fault
    ⊎ ((asked.goes_on ≡ true) × StopsGoingBy (ruled (manner_by asked) mode accepts z) names old new fault)))

-- some file of these words came to no verdict, and those that did have their lines
abbrev pub LosesSome : (Settings → List ℕ → Type 0) → List (List ℕ) → Option (List ℕ) → Option (List ℕ) → Type 0
LosesSome accepts words old new = (status : Status) × (names : List (List ℕ)) × NamesFiles words names
    × ReportsBy accepts (asked_by words) names old new status true

-- some fault stopped the run on these words, and left this
abbrev pub IsStopped : (Settings → List ℕ → Type 0) → List (List ℕ) → Option (List ℕ) → Option (List ℕ) → Type 0
IsStopped accepts words old new = (fault : Fault) × (((FailsNaming words fault ⊎ StopsEarly (asked_by words) fault) × Keeps old new)
    ⊎ ((names : List (List ℕ)) × NamesFiles words names × StopsBy accepts (asked_by words) names old new fault))

-- The files of these words were judged by the settings that the words ask for: a line was written for each, and the status
-- says whether all are valid.
pub record Reports (accepts : Settings → List ℕ → Type 0) (words : List (List ℕ)) (old new : Option (List ℕ))
    (status : Status) : Type 0 where
  pub names : List (List ℕ)
  pub named : NamesFiles words names
  pub reported : ReportsBy accepts (asked_by words) names old new status false

-- some text was written, and nothing else
abbrev pub Grows : Option (List ℕ) → Option (List ℕ) → Type 0
Grows old new = (text : List ℕ) × Appends old new text

-- clap answers these words with its help or its version, and that was written, or some of it
abbrev pub ShowsHelp : List (List ℕ) → Option (List ℕ) → Option (List ℕ) → Type 0
ShowsHelp words old new = AsksForHelp words × Grows old new

-- these words name no files, and nothing was written
abbrev pub ReportsWords : List (List ℕ) → Option (List ℕ) → Option (List ℕ) → Type 0
ReportsWords words old new = NamesNoFiles words × Keeps old new

-- These words lead to no status of files: they name none; their help could not be shown; a fault stopped the run; or a file came to no
-- verdict, and the judging went on.
abbrev pub HasNoStatus : (Settings → List ℕ → Type 0) → List (List ℕ) → Option (List ℕ) → Option (List ℕ) → Type 0
HasNoStatus accepts words old new = ReportsWords words old new
    ⊎ (ShowsHelp words old new ⊎ (IsStopped accepts words old new ⊎ LosesSome accepts words old new))

-- Where clap's answer was not shown as help: nothing was written, or it is the help, of which some was.
abbrev pub IsUnshown : ErrorKind → Option (List ℕ) → Option (List ℕ) → Type 0
IsUnshown kind old new = Keeps old new ⊎ (IsHelp kind × Grows old new)

-- how a run over the files of these words ends, by its status
abbrev pub EndsRun : (Settings → List ℕ → Type 0) → List (List ℕ) → Option (List ℕ) → Option (List ℕ) → ℕ → Type 0
EndsRun accepts words old new status = (status ≤ 2) × (status ≡ 0 → Reports accepts words old new AllValid)
    × (status ≡ 1 → Reports accepts words old new SomeInvalid) × (status ≡ 2 → HasNoStatus accepts words old new)
