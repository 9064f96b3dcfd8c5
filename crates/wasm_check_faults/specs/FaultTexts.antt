-- What is told of a fault on standard error: a line, and what may help below it.
use Rattle.std.specs.Prelude.{ℕ, Bool, true, false, List, [], ◌++◌, Option, Some, None, codes, option_and_then, if◌then◌else◌}
use Rattle.std.specs.Fmt.{decimal}
use Rattle.wasm_check_lines.specs.FeatureWords.{word_for}
use Rattle.wasm_check_lines.specs.Hints.{framed}
use Rattle.wasm_check_lines.specs.Json.{json_text}
use Rattle.wasm_check_lines.specs.Shown.{shown}
use Rattle.wasm_check_faults.specs.FeatureLists.{meant_by}
use Rattle.wasm_check_faults.specs.LimitLists.{word_ceiling}
use Rattle.wasm_check_faults.specs.Reasons.{is_broken_pipe, reason_hint}
use Rattle.wasm_check_faults.specs.declared.error.CheckError.{CheckError}
use Rattle.wasm_check_faults.specs.declared.error.CheckError.TheVariants.{Read, TooLong, OutOfMemory, Write}
use Rattle.wasm_check_faults.specs.declared.faults.Below.{Below}
use Rattle.wasm_check_faults.specs.declared.faults.Below.TheVariants.{Nothing, Hint, Object}
use Rattle.wasm_check_faults.specs.declared.faults.Fault.{Fault}
use Rattle.wasm_check_faults.specs.declared.faults.Fault.TheVariants as faults
use Rattle.wasm_check_faults.specs.declared.limits.Wrong.{Wrong}
use Rattle.wasm_check_faults.specs.declared.limits.Wrong.TheVariants.{Unknown, BadValue}

-- ---- the line

-- `wasm-check: NAME: WHAT`, the name as it is shown
abbrev pub file_text : List ℕ → List ℕ → List ℕ
file_text name what = codes "wasm-check: " ++ shown name ++ codes ": " ++ what

-- ``wasm-check: WHAT `WORD` ``, the word as it is shown
abbrev pub word_text : List ℕ → List ℕ → List ℕ
word_text what word = codes "wasm-check: " ++ what ++ codes " `" ++ shown word ++ codes "`"

-- a number of bytes that `--pieces` may not have, in the form of clap
abbrev pub bad_pieces_text : List ℕ → List ℕ
bad_pieces_text word = codes "error: invalid value '" ++ shown word ++ codes "' for '--pieces <N>': it is not in 1..=1048576"

-- two options that do not go together, in the form of clap
abbrev pub clash_text : List ℕ → List ℕ → List ℕ
clash_text first second = codes "error: the argument '" ++ shown first ++ codes "' cannot be used with '" ++ shown second ++ codes "'"

-- what is wrong with a word of `--limits`
abbrev pub wrong_word : Wrong → List ℕ
wrong_word Unknown = codes "unknown limit"
wrong_word BadValue = codes "bad limit"

-- what stopped the judging
abbrev pub error_word : CheckError → List ℕ
error_word (Read i) = codes "cannot read"
error_word (TooLong i) = codes "too long"
error_word (OutOfMemory i) = codes "out of memory"
error_word Write = codes "cannot write"

abbrev pub stopped_text : CheckError → List ℕ → List ℕ
stopped_text (Read i) name = file_text name (codes "cannot read")
stopped_text (TooLong i) name = file_text name (codes "too long")
stopped_text (OutOfMemory i) name = file_text name (codes "out of memory")
stopped_text Write name = codes "wasm-check: cannot write"

-- the line of a fault, without the line feed that ends it
abbrev pub fault_text : Fault → List ℕ
fault_text (faults.CannotOpen name reason) = file_text name.now (codes "cannot open")
fault_text (faults.Stopped error name reason) = stopped_text error name.now
fault_text (faults.CannotHold reason) = file_text (codes "/dev/null") (codes "cannot open")
fault_text (faults.UnknownFeature word) = word_text (codes "unknown feature") word.now
fault_text (faults.WrongPieces word) = bad_pieces_text word.now
fault_text (faults.Clash first second) = clash_text first.now second.now
fault_text faults.NoFiles = codes "error: FILE or --files0-from is required"
fault_text (faults.WrongLimit wrong word) = word_text (wrong_word wrong) word.now
fault_text faults.OutOfMemory = codes "wasm-check: out of memory"

-- ---- what may help

-- that this word is meant, and that this is the most
unfoldable pub known_text : List ℕ → List ℕ
known_text word = codes "did you mean `" ++ word ++ codes "`?"

unfoldable pub most_text : ℕ → List ℕ
most_text n = codes "at most " ++ decimal n

-- which word is meant, if one is
abbrev pub meant_hint : Option (List ℕ) → Option (List ℕ)
meant_hint None = None
meant_hint (Some word) = Some (known_text word)

-- the most that a limit may be, if there is one
abbrev pub ceiling_hint : Option ℕ → Option (List ℕ)
ceiling_hint None = None
ceiling_hint (Some n) = Some (most_text n)

abbrev pub wrong_hint : Wrong → List ℕ → Option (List ℕ)
wrong_hint Unknown word = None
wrong_hint BadValue word = ceiling_hint (word_ceiling word)

-- what may help with a fault, if something does
abbrev pub fault_hint : Fault → Option (List ℕ)
fault_hint (faults.CannotOpen name reason) = reason_hint reason
fault_hint (faults.Stopped error name reason) = reason_hint reason
fault_hint (faults.CannotHold reason) = reason_hint reason
fault_hint (faults.UnknownFeature word) = meant_hint (option_and_then word_for (meant_by word.now))
fault_hint (faults.WrongPieces word) = None
fault_hint (faults.Clash first second) = None
fault_hint faults.NoFiles = None
fault_hint (faults.WrongLimit wrong word) = wrong_hint wrong word.now
fault_hint faults.OutOfMemory = None

-- ---- the fault as an object of JSON

-- what is wrong, in the words of its line
abbrev pub fault_word : Fault → List ℕ
fault_word (faults.CannotOpen name reason) = codes "cannot open"
fault_word (faults.Stopped error name reason) = error_word error
fault_word (faults.CannotHold reason) = codes "cannot open"
fault_word (faults.UnknownFeature word) = codes "unknown feature"
fault_word (faults.WrongPieces word) = codes "invalid value"
fault_word (faults.Clash first second) = codes "argument conflict"
fault_word faults.NoFiles = codes "missing argument"
fault_word (faults.WrongLimit wrong word) = wrong_word wrong
fault_word faults.OutOfMemory = codes "out of memory"

-- a member that has a text
abbrev pub text_member : List ℕ → List ℕ → List ℕ
text_member member text = codes ",\"" ++ member ++ codes "\":\"" ++ json_text text ++ codes "\""

-- the member that has the file or the word at fault, if one is
abbrev pub stopped_member : CheckError → List ℕ → List ℕ
stopped_member (Read i) name = text_member (codes "file") name
stopped_member (TooLong i) name = text_member (codes "file") name
stopped_member (OutOfMemory i) name = text_member (codes "file") name
stopped_member Write name = []

abbrev pub subject_member : Fault → List ℕ
subject_member (faults.CannotOpen name reason) = text_member (codes "file") name.now
subject_member (faults.Stopped error name reason) = stopped_member error name.now
subject_member (faults.CannotHold reason) = text_member (codes "file") (codes "/dev/null")
subject_member (faults.UnknownFeature word) = text_member (codes "word") word.now
subject_member (faults.WrongPieces word) = text_member (codes "word") word.now
subject_member (faults.Clash first second) = text_member (codes "word") second.now
subject_member faults.NoFiles = []
subject_member (faults.WrongLimit wrong word) = text_member (codes "word") word.now
subject_member faults.OutOfMemory = []

-- `{"fault":"WHAT","file":"NAME","hint":"HINT"}`, with `word` for `file` if a word is at fault, and without what there is not
abbrev pub fault_object : Fault → List ℕ
fault_object f = codes "{\"fault\":\"" ++ fault_word f ++ codes "\"" ++ subject_member f ++ framed (codes ",\"hint\":\"") (fault_hint f) (codes "\"") ++ codes "}\n"

-- ---- all that is told

-- it is a fault of usage, as those that clap finds
abbrev pub is_usage : Fault → Bool
is_usage (faults.CannotOpen name reason) = false
is_usage (faults.Stopped error name reason) = false
is_usage (faults.CannotHold reason) = false
is_usage (faults.UnknownFeature word) = false
is_usage (faults.WrongPieces word) = true
is_usage (faults.Clash first second) = true
is_usage faults.NoFiles = true
is_usage (faults.WrongLimit wrong word) = false
is_usage faults.OutOfMemory = false

-- nothing is told: it is that nobody reads the lines any more
abbrev pub is_silent : Fault → Bool
is_silent (faults.CannotOpen name reason) = false
is_silent (faults.Stopped (Read i) name reason) = false
is_silent (faults.Stopped (TooLong i) name reason) = false
is_silent (faults.Stopped (OutOfMemory i) name reason) = false
is_silent (faults.Stopped Write name reason) = is_broken_pipe reason
is_silent (faults.CannotHold reason) = false
is_silent (faults.UnknownFeature word) = false
is_silent (faults.WrongPieces word) = false
is_silent (faults.Clash first second) = false
is_silent faults.NoFiles = false
is_silent (faults.WrongLimit wrong word) = false
is_silent faults.OutOfMemory = false

-- what comes below the line of another fault
abbrev pub help_below : Below → Fault → List ℕ
help_below Nothing f = []
help_below Hint f = framed (codes "  ") (fault_hint f) (codes "\n")
help_below Object f = fault_object f

-- what comes below the line
abbrev pub below_text : Below → Fault → List ℕ
below_text below f = if is_usage f then codes "\nFor more information, try '--help'.\n" else help_below below f

-- all of it
abbrev pub told_text : Below → Fault → List ℕ
told_text below f = fault_text f ++ codes "\n" ++ below_text below f
