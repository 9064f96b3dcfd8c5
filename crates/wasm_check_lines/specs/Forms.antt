-- The lines that the program writes, and what they say.
use Rattle.std.specs.Prelude.{ℕ, Bool, true, false, List, [], ◌++◌, codes, Option}
use Rattle.std.specs.Fmt.{digits, decimal}
use Rattle.wasm_types.specs.decoding.ErrorValue.{ErrorValue}
use Rattle.wasm_types.specs.decoding.declared.error.ErrorKind.{ErrorKind}
use Rattle.wasm_types.specs.decoding.declared.error.ErrorKind.TheVariants.{EndOfData, MissingFeature, OutOfMemory, Failed, Other}
use Rattle.wasm_check_lines.specs.declared.forms.Form.{Form}
use Rattle.wasm_check_lines.specs.declared.forms.Form.TheVariants.{Lines, Json, Quiet}
use Rattle.wasm_types.specs.settings.declared.Limits.{Limits}
use Rattle.wasm_check_lines.specs.declared.causes.Cause.{Cause}
use Rattle.wasm_check_lines.specs.declared.causes.Cause.TheVariants.{Vectors, Limit, Feature, FixedLimit, Types, Another}
use Rattle.wasm_check_lines.specs.Causes.{cause_of}
use Rattle.wasm_check_lines.specs.Limits.{word_of}
use Rattle.wasm_check_lines.specs.FeatureWords.{word_for}
use Rattle.wasm_check_lines.specs.Shown.{shown}
use Rattle.wasm_check_lines.specs.Json.{json_text}
use Rattle.wasm_check_lines.specs.declared.notes.Explanation.{Explanation}
use Rattle.wasm_check_lines.specs.Explanations.{explanation_lines, explanation_member}
use Rattle.wasm_check_lines.specs.Hints.{framed, hint_for, hint_of}

-- ---- lines for people

-- `NAME: valid`, the name as it is shown
abbrev pub valid_line : List ℕ → List ℕ
valid_line name = shown name ++ codes ": valid\n"

-- `NAME: invalid at 0xN: MESSAGE`, N in lower-case hexadecimal without leading zeros, the name and the message as they are shown
abbrev pub refusal_line : List ℕ → ℕ → List ℕ → List ℕ
refusal_line name offset message =
    shown name ++ codes ": invalid at 0x" ++ digits 16 false offset ++ codes ": " ++ shown message ++ codes "\n"

-- for this error
abbrev pub invalid_line : List ℕ → ErrorValue → List ℕ
invalid_line name e = refusal_line name e.offset e.message

-- the line of a hint: two spaces, and what a person can do about the refusal
abbrev pub hint_line : Option (List ℕ) → List ℕ
hint_line hint = framed (codes "  ") hint (codes "\n")

-- ---- lines of JSON

-- `{"file":"NAME","valid":true}`
abbrev pub valid_object : List ℕ → List ℕ
valid_object name = codes "{\"file\":\"" ++ json_text name ++ codes "\",\"valid\":true}\n"

-- The word of a kind of errors, if neither a limit nor a feature is told. The one feature that is not told is that of components, and it has none
-- judged: no feature is missing.
abbrev pub error_word : ErrorKind → List ℕ
error_word (EndOfData needed) = codes "end-of-data"
error_word (MissingFeature features) = codes "other"
error_word OutOfMemory = codes "out-of-memory"
error_word Failed = codes "failed"
error_word Other = codes "other"

-- the word of a cause
abbrev pub kind_word : Cause → ErrorKind → List ℕ
kind_word Vectors kind = codes "vectors"
kind_word (Limit limit) kind = codes "limit"
kind_word (Feature features) kind = codes "missing-feature"
kind_word FixedLimit kind = error_word kind
kind_word Types kind = codes "types"
kind_word Another kind = error_word kind

-- the member with the word of `--features` that allows it, or of the limit that refused it
abbrev pub cause_member : Cause → List ℕ
cause_member Vectors = []
cause_member (Limit limit) = codes ",\"limit\":\"" ++ word_of limit ++ codes "\""
cause_member (Feature features) = framed (codes ",\"feature\":\"") (word_for features.0) (codes "\"")
cause_member FixedLimit = []
cause_member Types = []
cause_member Another = []

-- the member with a hint, if there is one
abbrev pub hint_member : Option (List ℕ) → List ℕ
hint_member hint = framed (codes ",\"hint\":\"") hint (codes "\"")

-- the members that tell what a person can do, and those that explain
abbrev pub help_members : Limits → Cause → List ℕ → Option Explanation → List ℕ
help_members l cause front x = cause_member cause ++ hint_member (hint_for l cause front) ++ explanation_member x

-- `{"file":"NAME","valid":false,"offset":N,"kind":"WORD","message":"MESSAGE"}`, N in decimal, and at the end the members above
abbrev pub refusal_object : List ℕ → ℕ → List ℕ → List ℕ → List ℕ → List ℕ
refusal_object name offset kind message members =
    codes "{\"file\":\"" ++ json_text name ++ codes "\",\"valid\":false,\"offset\":" ++ decimal offset ++ codes ",\"kind\":\"" ++ kind
    ++ codes "\",\"message\":\"" ++ json_text message ++ codes "\"" ++ members ++ codes "}\n"

-- for this error under these limits, in an input with these first bytes
abbrev pub invalid_object : List ℕ → Limits → ErrorValue → List ℕ → Option Explanation → List ℕ
invalid_object name l e front x =
    refusal_object name e.offset (kind_word (cause_of l e) e.kind) e.message (help_members l (cause_of l e) front x)

-- ---- each form

-- what is written of a file that is valid
abbrev pub valid_text : Form → List ℕ → List ℕ
valid_text Lines name = valid_line name
valid_text Json name = valid_object name
valid_text Quiet name = []

-- the lines below that of a refusal, if they are asked for: what a person can do, and an explanation
abbrev pub lines_below : Bool → Option (List ℕ) → Option Explanation → List ℕ
lines_below true hint x = hint_line hint ++ explanation_lines x
lines_below false hint x = []

-- What is written of one that was refused by this error under these limits, whose first bytes are these: `explains` says whether lines below
-- it are asked for.
abbrev pub refused_text : Form → Bool → List ℕ → Limits → ErrorValue → List ℕ → Option Explanation → List ℕ
refused_text Lines explains name l e front x = invalid_line name e ++ lines_below explains (hint_of l e front) x
refused_text Json explains name l e front x = invalid_object name l e front x
refused_text Quiet explains name l e front x = []
