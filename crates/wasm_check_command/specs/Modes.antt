-- How inputs are read: whole, or in pieces as they come. An input that comes in pieces is judged while it is read, so it may be refused long
-- before its end; and none is read past 2^30 bytes.
use Rattle.std.specs.Prelude.{◌≡◌, ℕ, ◌≤◌, ◌<◌, ◌+◌, ◌^◌, ◌++◌, Bool, true, false, List, [], ◌∷◌, length, IfSome, Option, Result}
use Rattle.std.specs.Int.RustNames.{bit_or}
use Rattle.std.specs.Io.KnownBytes.{Consumes, prepend_known}
use Rattle.wasm_types.specs.decoding.Denials.{Tells, UnlessMemory}
use Rattle.wasm_types.specs.decoding.ErrorValue.{ErrorValue}
use Rattle.wasm_types.specs.settings.Features.{vectors_bit}
use Rattle.wasm_types.specs.settings.Limits.{IsWithinCeilings}
use Rattle.wasm_types.specs.settings.Sets.{bits_of}
use Rattle.wasm_types.specs.settings.declared.Limits.{Limits}
use Rattle.wasm_types.specs.settings.Settings.{Settings}
use Rattle.wasm_check_lines.specs.Forms.{valid_text}
use Rattle.wasm_check_lines.specs.declared.forms.Form.{Form}
use Rattle.wasm_check_faults.specs.FeatureLists.{all_features}
use Rattle.wasm_check_faults.specs.WordLists.{HasSwitch, IsMinimal, needs_text}
use Rattle.wasm_check_command.specs.Manners.{Manner, plain}
use Rattle.wasm_check_command.specs.declared.judging.Chosen.{Chosen}
use Rattle.wasm_check_command.specs.declared.judging.Mode.{Mode}
use Rattle.wasm_check_command.specs.declared.judging.Mode.TheVariants.{Whole, Pieces}
use Rattle.wasm_check_command.specs.declared.judging.Unjudged.{Unjudged}
use Rattle.wasm_check_command.specs.declared.judging.Unjudged.TheVariants.{Refused, Read, TooLong}
use Rattle.wasm_check_command.specs.Settings.{settings_by}

-- the most bytes that an input may have: 2^30
abbrev pub IsShort : List ℕ → Type 0
IsShort bytes = length bytes ≤ 2 ^ 30

-- some bytes that end: their number has 64 bits
abbrev pub IsCounted : List ℕ → Type 0
IsCounted bytes = length bytes < 2 ^ 64

-- a reader whose bytes are known has more than an input may have
abbrev pub IsTooLong : Option (List ℕ) → Type 0
IsTooLong said = IfSome said (λ xs. 2 ^ 30 < length xs)

-- between these two moments a reader gave at most one byte more than an input may have
abbrev pub ReadsWithin : Option (List ℕ) → Option (List ℕ) → Type 0
ReadsWithin before after = (got : List ℕ) × Consumes before after got × (length got ≤ 2 ^ 30 + 1)

-- all features, and the switch for operators on vectors
abbrev pub all_bits : ℕ
all_bits = bit_or (bits_of all_features) vectors_bit

-- what bytes are judged by: if it is to be told which features they need, by all of them
abbrev pub judged_by : Bool → Settings → Settings
judged_by true z = settings_by all_bits z.limits
judged_by false z = z

-- by which features bytes are valid under these limits
abbrev pub by_features : (Settings → List ℕ → Type 0) → Limits → List ℕ → ℕ → Type 0
by_features accepts limits bytes features = accepts (settings_by features limits) bytes

-- What is written of valid bytes in a file of this name: that they are valid, or a list of features by which they are, and of which
-- none can be left out, with the switch for operators on vectors if they are not valid without it.
abbrev pub TellsValid : Bool → Form → (ℕ → Type 0) → List ℕ → List ℕ → Type 0
TellsValid true form accepts name line =
    (words : List (List ℕ)) × (vectors : Bool) × IsMinimal accepts words × HasSwitch accepts words vectors × (line ≡ needs_text form name words vectors)
TellsValid false form accepts name line = line ≡ valid_text form name

-- By what lines are written: which bytes are valid, which an input may have of which a line is written, what is written of valid bytes in a file
-- of a name, how lines are written, and the first bytes by which the line of a refusal says what a person can do.
pub record Ruling : Type 1 where
  pub accepts : List ℕ → Type 0
  pub fits : List ℕ → Type 0
  pub tells : List ℕ → List ℕ → List ℕ → Type 0
  pub manner : Manner
  pub seen : List ℕ → List ℕ

-- An input that is read whole has at most 2^30 bytes, if a line is written of it. One that comes in pieces may be refused before its end,
-- however long it is, and of its first bytes the line tells nothing; nor does it tell which features the input needs.
abbrev pub ruled : Manner → Mode → (Settings → List ℕ → Type 0) → Settings → Ruling
ruled manner Whole accepts z = record {
  accepts = accepts (judged_by manner.needs z);
  fits = IsShort;
  tells = λ bytes. TellsValid manner.needs manner.form (by_features accepts z.limits bytes);
  manner = manner;
  seen = λ bytes. bytes;
}
ruled manner (Pieces piece) accepts z = record {
  accepts = λ bytes. IsCounted bytes × accepts z bytes;
  fits = λ bytes. Unit {0};
  tells = λ bytes. TellsValid false manner.form (by_features accepts z.limits bytes);
  manner = manner;
  seen = λ bytes. [];
}

-- by these features and limits, and as inputs are read
abbrev pub ruling_by : (Settings → List ℕ → Type 0) → ℕ → Limits → Mode → Ruling
ruling_by accepts features limits mode = ruled plain mode accepts (settings_by features limits)

-- by what was chosen
abbrev pub manner_of : Chosen → Manner
manner_of c = record { form = c.form; explains = c.explains; needs = c.needs }

abbrev pub ruling_of : (Settings → List ℕ → Type 0) → Chosen → Ruling
ruling_of accepts c = ruled (manner_of c) c.mode accepts (settings_by c.features.0 c.limits)

-- pieces have some bytes
abbrev pub HasPieces : Mode → Type 0
HasPieces Whole = Unit {0}
HasPieces (Pieces piece) = 1 ≤ piece

-- what was chosen is what can be judged by
abbrev pub CanJudge : Chosen → Type 0
CanJudge c = IsWithinCeilings c.limits × HasPieces c.mode

-- ---- a reader whose bytes are judged as they come

-- some bytes of a module came, perhaps none, and it is judged by some settings
abbrev pub HasBegun : {M : Type 0} → (Settings → List ℕ → M → Type 0) → M → Type 0
HasBegun came begun = (z : Settings) × (got : List ℕ) × came z got begun

-- a reader has these bytes left, where it says which
abbrev pub AreLeft : Option (List ℕ) → List ℕ → Type 0
AreLeft said bytes = IfSome said (λ xs. xs ≡ bytes)

-- these bytes begin as a binary module does (WebAssembly 3.0, 5.5.16): so they are no text
abbrev pub BeginsBinary : List ℕ → Type 0
BeginsBinary bytes = (rest : List ℕ) × (bytes ≡ 0 ∷ rest)

-- this is the verdict on some bytes and those that a reader has behind them, at most 2^30 together
abbrev pub HasVerdict : (List ℕ → Type 0) → List ℕ → Option (List ℕ) → Result (Unit {0}) ErrorValue → Type 0
HasVerdict accepts front said verdict = (rest : List ℕ) × AreLeft (prepend_known front said) (front ++ rest) × IsShort (front ++ rest)
    × Tells verdict (accepts (front ++ rest))

-- it has valid bytes, at most 2^30
abbrev pub HasValid : (List ℕ → Type 0) → Option (List ℕ) → Type 0
HasValid accepts said = (bytes : List ℕ) × AreLeft said bytes × IsShort bytes × accepts bytes

-- it has none that end and are valid
abbrev pub HasInvalid : (List ℕ → Type 0) → Option (List ℕ) → Type 0
HasInvalid accepts said = (bytes : List ℕ) × AreLeft said bytes × (IsCounted bytes × accepts bytes → ⊥)

-- why it is not said that they are valid: they are not, or memory ran out; or there is no verdict
abbrev pub FailsJudging : (List ℕ → Type 0) → Option (List ℕ) → Unjudged → Type 0
FailsJudging accepts said (Refused e) = UnlessMemory e.kind (HasInvalid accepts said)
FailsJudging accepts said Read = Unit {0}
FailsJudging accepts said TooLong = IsTooLong said
