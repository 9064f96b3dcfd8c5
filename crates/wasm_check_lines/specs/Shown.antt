-- How a text that others chose is written in a line: a file's name, a word of the command line, the reason of a refusal.
use Rattle.std.specs.Prelude.{ℕ, Bool, false, ◌||◌, ◌==◌, List, ◌++◌, flat_map, codes, encode_utf8, if◌then◌else◌}
use Rattle.std.specs.Int.{is_in_range}
use Rattle.std.specs.Char.{is_control}
use Rattle.std.specs.Fmt.{digits}
use Rattle.std.specs.Str.{chars}

-- what stands for a character that is not shown: `\u{N}`, N its code in lower-case hexadecimal without leading zeros
abbrev pub escape : ℕ → List ℕ
escape c = codes "\\u{" ++ digits 16 false c ++ codes "}"

-- The characters that change the order in which a line is shown, as texts from right to left need them: U+061C, U+200E and U+200F are marks,
-- U+202A to U+202E begin and end another order, and so do U+2066 to U+2069.
abbrev pub turns : ℕ → Bool
turns c = c == 0x61C || c == 0x200E || c == 0x200F || is_in_range 0x202A 0x202E c || is_in_range 0x2066 0x2069 c

-- The characters that are not shown: control characters, which have the codes below 0x20 and those from 0x7f to 0x9f; U+2028 and U+2029, with
-- which many readers end a line; and those that change a line's order.
abbrev pub is_unshown : ℕ → Bool
is_unshown c = is_control c || c == 0x2028 || c == 0x2029 || turns c

-- A backslash (92) is written twice, so no two texts are shown alike: one that has `\u{a}` written out is shown as `\\u{a}`. Each other
-- character stands for itself.
abbrev pub shown_char : ℕ → List ℕ
shown_char c = if c == 92 then codes "\\\\" else (if is_unshown c then escape c else encode_utf8 c)

-- the text as it is written
unfoldable pub shown : List ℕ → List ℕ
shown text = flat_map shown_char (chars text)
