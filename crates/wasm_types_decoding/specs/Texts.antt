-- The text of a message, by what it is made of.
use Rattle.std.specs.Prelude.{ℕ, Option, Some, None, zero, suc, ◌/◌, ◌%◌, nat_lt, if◌then◌else◌, List, [], ◌∷◌, ◌++◌, codes, decimal, string_bytes, false}
use Rattle.std.specs.Fmt.{digit_glyph}
use Rattle.wasm_types_decoding.specs.Words.{words_text}
use Rattle.wasm_types_decoding.specs.declared.text.Named.{Named}
use Rattle.wasm_types_decoding.specs.declared.text.Text.{Text}
use Rattle.wasm_types_decoding.specs.declared.text.Text.TheVariants as texts

-- the last digits of a number in lower-case hexadecimal, so many at most
abbrev pub hex_digits : ℕ → ℕ → List ℕ
hex_digits zero n = []
hex_digits (suc k) n = (if nat_lt n 16 then [] else hex_digits k (n / 16)) ++ digit_glyph false (n % 16) ∷ []

-- a number below 2 ^ 64 in lower-case hexadecimal
abbrev pub hexadecimal : ℕ → List ℕ
hexadecimal n = hex_digits 16 n

-- so many bits of a number, the last ones
abbrev pub bits : ℕ → ℕ → List ℕ
bits zero n = []
bits (suc k) n = bits k (n / 2) ++ digit_glyph false (n % 2) ∷ []

-- a number in decimal, if there is one
abbrev pub number_text : Option ℕ → List ℕ
number_text None = []
number_text (Some n) = decimal n

-- what a type is called
abbrev pub named_text : Named → List ℕ
named_text named = ((words_text named.before ++ words_text named.space) ++ number_text named.number) ++ words_text named.behind

abbrev pub text_of : Text → List ℕ
text_of (texts.Words words) = words_text words
text_of (texts.Word before word) = words_text before ++ words_text word
text_of (texts.NonConstant name) = codes "constant expression required: non-constant operator: " ++ name.bytes
text_of (texts.Number before n behind) = (words_text before ++ decimal n) ++ words_text behind
text_of (texts.Hex before n behind) = (words_text before ++ hexadecimal n) ++ words_text behind
text_of (texts.PastLimit things most) = (words_text things ++ codes " count exceeds limit of ") ++ decimal most
text_of (texts.SizeOf things) = words_text things ++ codes " size is out of bounds"
text_of (texts.TooDeep depth most) =
    ((codes "sub type hierarchy too deep: found depth " ++ decimal depth) ++ codes ", cannot exceed depth ") ++ decimal most
text_of (texts.Entries most) = (codes "table size must be at most 0x" ++ hexadecimal most) ++ codes " entries"
text_of (texts.Pages most size) =
    (((codes "memory size must be at most 0x" ++ hexadecimal most) ++ codes " ") ++ decimal size) ++ codes "-byte pages"
text_of (texts.Subopcode prefix code) =
    ((codes "unknown 0x" ++ hexadecimal prefix) ++ codes " subopcode: 0x") ++ hexadecimal code
text_of (texts.CastFlags flags) = codes "invalid cast flags: " ++ bits 8 flags
text_of (texts.UnknownExport space n) =
    (((((codes "unknown " ++ words_text space) ++ codes " ") ++ decimal n) ++ codes ": exported ") ++ words_text space) ++ codes " index out of bounds"
text_of (texts.NoVisitOfConstants name) = codes "constant expression required: non-constant operator: visit_" ++ name.bytes
text_of (texts.Types before first between second) =
    ((words_text before ++ named_text first) ++ words_text between) ++ named_text second
text_of (texts.Mismatch expected found) = ((codes "type mismatch: expected " ++ words_text expected) ++ codes ", found ") ++ words_text found
text_of (texts.SubtypeMismatch expected found) =
    ((codes "type mismatch: expected subtype of " ++ words_text expected) ++ codes ", found ") ++ words_text found
text_of (texts.EmptyStack expected) = (codes "type mismatch: expected " ++ words_text expected) ++ codes " but nothing on stack"
text_of (texts.ElementMismatch elements table) =
    (((codes "type mismatch: invalid element type `" ++ words_text elements) ++ codes "` for table type `") ++ words_text table) ++ codes "`"
text_of (texts.DuplicateExport name) = (codes "duplicate export name `" ++ string_bytes name) ++ codes "` already defined"
