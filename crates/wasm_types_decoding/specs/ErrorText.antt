-- What an error tells: its message in a fixed room, its number, and what only some kinds have.
use Rattle.std.specs.Prelude.{◌≡◌, ◌⊎◌, ℕ, List, [], ◌++◌, length, take, nat_le, nat_lt, Bool, false, if◌then◌else◌, codes, Option, Some, None}
use Rattle.std.specs.Fmt.{digits}
use Rattle.std.specs.Fmt.Cut.{floor_char_boundary}
use Rattle.wasm_types_settings.specs.declared.WasmFeatures.{WasmFeatures}
use Rattle.wasm_types_decoding.specs.declared.error.ErrorKind.{ErrorKind}
use Rattle.wasm_types_decoding.specs.declared.error.ErrorKind.TheVariants.{EndOfData, MissingFeature, OutOfMemory, Failed, Other}

-- a text that has room, and else its longest front that has room and ends where a character does
unfoldable pub cut_to : ℕ → List ℕ → List ℕ
cut_to room text = if nat_le (length text) room then text else take (floor_char_boundary text room) text

-- the message that is kept of a text
abbrev pub message_of : List ℕ → List ℕ
message_of text = cut_to 256 text

-- The message of what a value writes: of its text, or empty where the value itself gave up.
abbrev pub IsWrittenMessage : List ℕ → List ℕ → Type 0
IsWrittenMessage text message = (message ≡ message_of text) ⊎ (message ≡ [])

-- what was kept of a text, and whether it had more than there is room for
pub record Keeps (text kept : List ℕ) (is_full : Bool) : Type 0 where
  pub message : kept ≡ message_of text
  pub full : is_full ≡ nat_lt 256 (length text)

-- the kinds by their numbers
abbrev pub kind_number : ErrorKind → ℕ
kind_number (EndOfData h) = 1
kind_number (MissingFeature f) = 2
kind_number OutOfMemory = 3
kind_number Failed = 4
kind_number Other = 5

-- the hint of an end of data; no other kind has one
abbrev pub hint_of : ErrorKind → Option ℕ
hint_of (EndOfData h) = Some h
hint_of (MissingFeature f) = None
hint_of OutOfMemory = None
hint_of Failed = None
hint_of Other = None

-- the features that are missing; no other kind has any
abbrev pub feature_of : ErrorKind → Option WasmFeatures
feature_of (EndOfData h) = None
feature_of (MissingFeature f) = Some f
feature_of OutOfMemory = None
feature_of Failed = None
feature_of Other = None

-- what an error writes: its message, and its offset in lower-case hexadecimal
abbrev pub shown : List ℕ → ℕ → List ℕ
shown message offset = message ++ (codes " (at offset 0x" ++ (digits 16 false offset ++ codes ")"))
