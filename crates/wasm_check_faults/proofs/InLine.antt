-- What is told of a fault stays within its line.
use Rattle.std.proofs.Common.{◌≡◌, ℕ, ◌≤◌, true, List, [], ◌∷◌, ◌++◌, refl, sym, append_assoc, codes, nat_le, Option, Some, None}
use Rattle.std.specs.Fmt.{decimal}
use Rattle.std.specs.List.{list_all}
use Rattle.std.specs.Prelude.{option_and_then, IfSome}
use Rattle.std.proofs.lemmas.List.Elements.{All-append}
use Rattle.wasm_check_lines.specs.Shown.{shown}
use Rattle.wasm_check_lines.specs.Json.{json_text}
use Rattle.wasm_check_lines.specs.LineLaws.{StaysInLine, IsOneLine}
use Rattle.wasm_check_lines.specs.Hints.{framed}
use Rattle.wasm_check_lines.proofs.InLine.{digits_stay, json_stays, literal, shown_stays, word_stays, stays_if}
use Rattle.wasm_check_lines.specs.FeatureWords.{word_for}
use Rattle.wasm_check_faults.specs.FeatureLists.{meant_by}
use Rattle.wasm_check_faults.specs.LimitLists.{word_ceiling}
use Rattle.wasm_check_faults.specs.LineLaws.{FaultsStayInLine}
use Rattle.wasm_check_faults.specs.FaultTexts.{ceiling_hint, error_word, fault_hint, fault_object, fault_text, fault_word, file_text, known_text, meant_hint, most_text, stopped_member, stopped_text, subject_member, text_member, word_text, wrong_hint, wrong_word}
use Rattle.wasm_check_faults.specs.declared.error.CheckError.{CheckError}
use Rattle.wasm_check_faults.specs.declared.error.CheckError.TheVariants.{Read, TooLong, OutOfMemory, Write}
use Rattle.wasm_check_faults.specs.declared.limits.Wrong.{Wrong}
use Rattle.wasm_check_faults.specs.declared.limits.Wrong.TheVariants.{Unknown, BadValue}
use Rattle.wasm_check_faults.specs.declared.reason.Reason.{Reason}
use Rattle.wasm_check_faults.specs.declared.reason.Reason.TheVariants.{NotFound, PermissionDenied, IsADirectory, NotADirectory, FilesystemLoop, InvalidFilename, StorageFull, QuotaExceeded, FileTooLarge, BrokenPipe, NotUtf8, GivesList}
use Rattle.wasm_check_faults.specs.declared.reason.Reason.TheVariants as reasons
use Rattle.wasm_check_faults.specs.Reasons.{reason_hint}
use Rattle.wasm_check_faults.specs.declared.faults.Fault.{Fault}
use Rattle.wasm_check_faults.specs.declared.faults.Fault.TheVariants as faults

both : (xs ys : List ℕ) → StaysInLine xs → StaysInLine ys → StaysInLine (xs ++ ys)
both = All-append (λ b. 32 ≤ b)

nothing : StaysInLine []
nothing = literal [] refl

between : (a text b : List ℕ) → list_all (λ b. nat_le 32 b) a ≡ true → StaysInLine text → list_all (λ b. nat_le 32 b) b ≡ true → StaysInLine (a ++ text ++ b)
between a text b p h q = both (a ++ text) b (both a text (literal a p) h) (literal b q)

-- ---- lines

file_told : (name what : List ℕ) → StaysInLine what → StaysInLine (file_text name what)
file_told name what h = both (codes "wasm-check: " ++ shown name ++ codes ": ") what (between (codes "wasm-check: ") (shown name) (codes ": ") refl (shown_stays name) refl) h

word_told : (what word : List ℕ) → StaysInLine what → StaysInLine (word_text what word)
word_told what word h = both (codes "wasm-check: " ++ what ++ codes " `" ++ shown word) (codes "`")
    (both (codes "wasm-check: " ++ what ++ codes " `") (shown word) (between (codes "wasm-check: ") what (codes " `") refl h refl) (shown_stays word)) (literal (codes "`") refl)

wrong_told : (w : Wrong) → StaysInLine (wrong_word w)
wrong_told Unknown = literal (codes "unknown limit") refl
wrong_told BadValue = literal (codes "bad limit") refl

stopped_told : (e : CheckError) (name : List ℕ) → StaysInLine (stopped_text e name)
stopped_told (Read i) name = file_told name (codes "cannot read") (literal (codes "cannot read") refl)
stopped_told (TooLong i) name = file_told name (codes "too long") (literal (codes "too long") refl)
stopped_told (OutOfMemory i) name = file_told name (codes "out of memory") (literal (codes "out of memory") refl)
stopped_told Write name = literal (codes "wasm-check: cannot write") refl

fault_told : (f : Fault) → StaysInLine (fault_text f)
fault_told (faults.CannotOpen name reason) = file_told name.now (codes "cannot open") (literal (codes "cannot open") refl)
fault_told (faults.Stopped error name reason) = stopped_told error name.now
fault_told (faults.CannotHold reason) = file_told (codes "/dev/null") (codes "cannot open") (literal (codes "cannot open") refl)
fault_told (faults.UnknownFeature word) = word_told (codes "unknown feature") word.now (literal (codes "unknown feature") refl)
fault_told (faults.WrongPieces word) =
    between (codes "error: invalid value '") (shown word.now) (codes "' for '--pieces <N>': it is not in 1..=1048576") refl (shown_stays word.now) refl
fault_told (faults.Clash first second) =
    let front = codes "error: the argument '" ++ shown first.now ++ codes "' cannot be used with '" in
    both (front ++ shown second.now) (codes "'")
    (both front (shown second.now) (between (codes "error: the argument '") (shown first.now) (codes "' cannot be used with '") refl (shown_stays first.now) refl) (shown_stays second.now))
    (literal (codes "'") refl)
fault_told faults.NoFiles = literal (codes "error: FILE or --files0-from is required") refl
fault_told (faults.WrongLimit wrong word) = word_told (wrong_word wrong) word.now (wrong_told wrong)
fault_told faults.OutOfMemory = literal (codes "wasm-check: out of memory") refl

-- ---- what may help

reason_stays : (r : Reason) → stays_if (reason_hint r)
reason_stays NotFound = literal (codes "no such file") refl
reason_stays PermissionDenied = literal (codes "permission denied") refl
reason_stays IsADirectory = literal (codes "is a directory") refl
reason_stays NotADirectory = literal (codes "not a directory") refl
reason_stays FilesystemLoop = literal (codes "too many links") refl
reason_stays InvalidFilename = literal (codes "name too long") refl
reason_stays StorageFull = literal (codes "no space left") refl
reason_stays QuotaExceeded = literal (codes "quota exceeded") refl
reason_stays FileTooLarge = literal (codes "file too large") refl
reason_stays BrokenPipe = literal (codes "broken pipe") refl
reason_stays NotUtf8 = literal (codes "a name has to be UTF-8") refl
reason_stays GivesList = literal (codes "the list comes from standard input") refl
reason_stays reasons.Unknown = tt

known_stays : (word : List ℕ) → StaysInLine word → StaysInLine (known_text word)
unfolding known_text
known_stays word h = between (codes "did you mean `") word (codes "`?") refl h refl

most_stays : (n : ℕ) → StaysInLine (most_text n)
unfolding most_text
most_stays n = both (codes "at most ") (decimal n) (literal (codes "at most ") refl) (digits_stay 10 n)

meant_told : (o : Option (List ℕ)) → stays_if o → stays_if (meant_hint o)
meant_told None h = tt
meant_told (Some word) h = known_stays word h

meant_stays : (o : Option ℕ) → stays_if (option_and_then word_for o)
meant_stays None = tt
meant_stays (Some bits) = word_stays bits

ceiling_told : (o : Option ℕ) → stays_if (ceiling_hint o)
ceiling_told None = tt
ceiling_told (Some n) = most_stays n

wrong_helped : (w : Wrong) (word : List ℕ) → stays_if (wrong_hint w word)
wrong_helped Unknown word = tt
wrong_helped BadValue word = ceiling_told (word_ceiling word)

helped : (f : Fault) → stays_if (fault_hint f)
helped (faults.CannotOpen name reason) = reason_stays reason
helped (faults.Stopped error name reason) = reason_stays reason
helped (faults.CannotHold reason) = reason_stays reason
helped (faults.UnknownFeature word) = meant_told (option_and_then word_for (meant_by word.now)) (meant_stays (meant_by word.now))
helped (faults.WrongPieces word) = tt
helped (faults.Clash first second) = tt
helped faults.NoFiles = tt
helped (faults.WrongLimit wrong word) = wrong_helped wrong word.now
helped faults.OutOfMemory = tt

if_some : (o : Option (List ℕ)) → stays_if o → IfSome o StaysInLine
if_some None h = tt
if_some (Some word) h = h

-- ---- objects

error_stays : (e : CheckError) → StaysInLine (error_word e)
error_stays (Read i) = literal (codes "cannot read") refl
error_stays (TooLong i) = literal (codes "too long") refl
error_stays (OutOfMemory i) = literal (codes "out of memory") refl
error_stays Write = literal (codes "cannot write") refl

fault_word_stays : (f : Fault) → StaysInLine (fault_word f)
fault_word_stays (faults.CannotOpen name reason) = literal (codes "cannot open") refl
fault_word_stays (faults.Stopped error name reason) = error_stays error
fault_word_stays (faults.CannotHold reason) = literal (codes "cannot open") refl
fault_word_stays (faults.UnknownFeature word) = literal (codes "unknown feature") refl
fault_word_stays (faults.WrongPieces word) = literal (codes "invalid value") refl
fault_word_stays (faults.Clash first second) = literal (codes "argument conflict") refl
fault_word_stays faults.NoFiles = literal (codes "missing argument") refl
fault_word_stays (faults.WrongLimit wrong word) = wrong_told wrong
fault_word_stays faults.OutOfMemory = literal (codes "out of memory") refl

member_stays : (member text : List ℕ) → StaysInLine member → StaysInLine (text_member member text)
member_stays member text h = both (codes ",\"" ++ member ++ codes "\":\"" ++ json_text text) (codes "\"")
    (both (codes ",\"" ++ member ++ codes "\":\"") (json_text text) (between (codes ",\"") member (codes "\":\"") refl h refl) (json_stays text)) (literal (codes "\"") refl)

file_stays : (name : List ℕ) → StaysInLine (text_member (codes "file") name)
file_stays name = member_stays (codes "file") name (literal (codes "file") refl)

word_member_stays : (word : List ℕ) → StaysInLine (text_member (codes "word") word)
word_member_stays word = member_stays (codes "word") word (literal (codes "word") refl)

stopped_member_stays : (e : CheckError) (name : List ℕ) → StaysInLine (stopped_member e name)
stopped_member_stays (Read i) name = file_stays name
stopped_member_stays (TooLong i) name = file_stays name
stopped_member_stays (OutOfMemory i) name = file_stays name
stopped_member_stays Write name = nothing

subject_stays : (f : Fault) → StaysInLine (subject_member f)
subject_stays (faults.CannotOpen name reason) = file_stays name.now
subject_stays (faults.Stopped error name reason) = stopped_member_stays error name.now
subject_stays (faults.CannotHold reason) = file_stays (codes "/dev/null")
subject_stays (faults.UnknownFeature word) = word_member_stays word.now
subject_stays (faults.WrongPieces word) = word_member_stays word.now
subject_stays (faults.Clash first second) = word_member_stays second.now
subject_stays faults.NoFiles = nothing
subject_stays (faults.WrongLimit wrong word) = word_member_stays word.now
subject_stays faults.OutOfMemory = nothing

framed_stays : (a : List ℕ) (o : Option (List ℕ)) (b : List ℕ) → list_all (λ b. nat_le 32 b) a ≡ true → stays_if o → list_all (λ b. nat_le 32 b) b ≡ true → StaysInLine (framed a o b)
framed_stays a None b p h q = nothing
framed_stays a (Some text) b p h q = between a text b p h q

object_told : (f : Fault) → IsOneLine (fault_object f)
object_told f =
    let a = codes "{\"fault\":\"" ++ fault_word f ++ codes "\"" in
    let hint = framed (codes ",\"hint\":\"") (fault_hint f) (codes "\"") in
    let all = a ++ subject_member f ++ hint in
    let in_a : StaysInLine a = between (codes "{\"fault\":\"") (fault_word f) (codes "\"") refl (fault_word_stays f) refl in
    let in_all : StaysInLine all = both (a ++ subject_member f) hint (both a (subject_member f) in_a (subject_stays f))
    (framed_stays (codes ",\"hint\":\"") (fault_hint f) (codes "\"") refl (helped f) refl) in
    record {
      front = all ++ codes "}";
      inside = both all (codes "}") in_all (literal (codes "}") refl);
      ended = sym (append_assoc all (codes "}") (10 ∷ []));
    }

pub faults_stay : FaultsStayInLine
faults_stay = record { told = fault_told; hint = λ f. if_some (fault_hint f) (helped f); object = object_told }
