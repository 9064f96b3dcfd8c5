-- Laws of lines: whatever a file's name, the reason of a refusal and an explanation hold, nothing of them begins a line.
use Rattle.std.specs.Prelude.{◌≡◌, ℕ, ◌≤◌, List, [], ◌∷◌, ◌++◌, All, IfSome, IsUtf8, Option, Some}
use Rattle.wasm_types.specs.decoding.ErrorValue.{ErrorValue}
use Rattle.wasm_types.specs.settings.declared.Limits.{Limits}
use Rattle.wasm_check_lines.specs.Shown.{shown}
use Rattle.wasm_check_lines.specs.declared.notes.Explanation.{Explanation}
use Rattle.wasm_check_lines.specs.Explanations.{note_line}
use Rattle.wasm_check_lines.specs.Hints.{hint_of}
use Rattle.wasm_check_lines.specs.Forms.{valid_line, invalid_line, hint_line, valid_object, invalid_object}

-- no byte of it is a control character below the space (32), as a line feed is
abbrev pub StaysInLine : List ℕ → Type 0
StaysInLine text = All (λ b. 32 ≤ b) text

-- it has exactly one line feed (10), its last byte
pub record IsOneLine (text : List ℕ) : Type 0 where
  pub front : List ℕ
  pub inside : StaysInLine front
  pub ended : text ≡ front ++ 10 ∷ []

-- So is each line on standard output, and each line below it, which two spaces (32) begin. A text that is shown has no line feed at all.
pub record LinesEndOnce : Type 0 where
  pub text : (text : List ℕ) → StaysInLine (shown text)
  pub valid : (name : List ℕ) → IsOneLine (valid_line name)
  pub invalid : (name : List ℕ) (e : ErrorValue) → IsOneLine (invalid_line name e)
  pub hint : (l : Limits) (e : ErrorValue) (front : List ℕ) → IfSome (hint_of l e front) (λ h. IsOneLine (hint_line (Some h)))
  pub note : (text : List ℕ) → (rest : List ℕ) × IsOneLine (note_line text) × (note_line text ≡ 32 ∷ 32 ∷ rest)
  pub valid_json : (name : List ℕ) → IsOneLine (valid_object name)
  pub invalid_json : (name : List ℕ) (l : Limits) (e : ErrorValue) (front : List ℕ) (x : Option Explanation) → IsOneLine (invalid_object name l e front x)

-- Texts that are shown alike are the same text, whatever is written as its code: so no two names make one line.
pub record IsShownApart : Type 0 where
  pub texts : (a b : List ℕ) → IsUtf8 a → IsUtf8 b → shown a ≡ shown b → a ≡ b
  pub lines : (a b : List ℕ) → IsUtf8 a → IsUtf8 b → valid_line a ≡ valid_line b → a ≡ b
