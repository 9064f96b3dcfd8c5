-- Explanations: what is known of the place of a fault.
use Rattle.std.specs.Prelude.{ℕ, List, [], ◌∷◌, ◌++◌, flat_map, codes, Option, Some, None, String, string_bytes, if◌then◌else◌}
use Rattle.std.specs.Fmt.{decimal}
use Rattle.std.specs.declared.alloc.Global.{Global}
use Rattle.wasm_check_lines.specs.declared.notes.Explanation.{Explanation}
use Rattle.wasm_check_lines.specs.declared.notes.Member.{Member}
use Rattle.wasm_check_lines.specs.declared.notes.Value.{Value}
use Rattle.wasm_check_lines.specs.declared.notes.Value.TheVariants.{Number, Flag, Text, Texts}
use Rattle.wasm_check_lines.specs.Shown.{shown}
use Rattle.wasm_check_lines.specs.Json.{json_text}

-- ---- lines

-- a line of an explanation: two spaces, and a text as it is shown
abbrev pub note_line : List ℕ → List ℕ
note_line note = codes "  " ++ shown note ++ codes "\n"

-- the lines of an explanation, if there is one; the last has the chapter of the standard
abbrev pub explanation_lines : Option Explanation → List ℕ
explanation_lines None = []
explanation_lines (Some x) = flat_map (λ n. note_line (string_bytes n)) x.lines.items ++ (codes "  rules: " ++ shown x.chapter.now ++ codes "\n")

-- ---- JSON

-- a text that follows another in an array
abbrev pub next_item : List ℕ → List ℕ
next_item text = codes ",\"" ++ json_text text ++ codes "\""

-- texts as an array
abbrev pub array_text : List (String Global) → List ℕ
array_text [] = codes "[]"
array_text (text ∷ texts) = codes "[\"" ++ json_text (string_bytes text) ++ codes "\"" ++ flat_map (λ n. next_item (string_bytes n)) texts ++ codes "]"

-- what a member has
abbrev pub value_text : Value → List ℕ
value_text (Number n) = decimal n
value_text (Flag flag) = if flag then codes "true" else codes "false"
value_text (Text text) = codes "\"" ++ json_text (string_bytes text) ++ codes "\""
value_text (Texts texts) = array_text texts.items

-- a member that others come before
abbrev pub member_text : Member → List ℕ
member_text m = codes ",\"" ++ json_text m.name.now ++ codes "\":" ++ value_text m.value

-- the member with an explanation, if there is one
abbrev pub explanation_member : Option Explanation → List ℕ
explanation_member None = []
explanation_member (Some x) = codes ",\"explanation\":{\"rules\":\"" ++ json_text x.chapter.now ++ codes "\"" ++ flat_map member_text x.members.items ++ codes "}"
