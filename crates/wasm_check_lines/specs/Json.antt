-- Texts as strings of JSON (RFC 8259, section 7), without the quotation marks around them.
use Rattle.std.specs.Prelude.{ℕ, false, ◌==◌, List, [], ◌++◌, flat_map, codes, encode_utf8, if◌then◌else◌, nat_lt}
use Rattle.std.specs.Fmt.{digits}
use Rattle.std.specs.Str.{chars}
use Rattle.wasm_check_lines.specs.Shown.{is_unshown}

-- the zeros before the hexadecimal digits of a number below 16^4, so that there are four digits
abbrev pub zeros : ℕ → List ℕ
zeros c = if nat_lt c 16 then codes "000" else (if nat_lt c 256 then codes "00" else (if nat_lt c 4096 then codes "0" else []))

-- `\uNNNN` for a character whose code is below 16^4
abbrev pub json_escape : ℕ → List ℕ
json_escape c = codes "\\u" ++ zeros c ++ digits 16 false c

-- A quotation mark (34) and a backslash (92) have a backslash before them. The characters that a line does not show have their codes;
-- JSON asks that of those below 32, and each of the others has a code below 0x2070.
abbrev pub json_char : ℕ → List ℕ
json_char c = if c == 34 then codes "\\\"" else (if c == 92 then codes "\\\\" else (if is_unshown c then json_escape c else encode_utf8 c))

-- the text within a string of JSON
unfoldable pub json_text : List ℕ → List ℕ
json_text text = flat_map json_char (chars text)
