-- What is written so far, with what is left as it is shown, is the whole as it is shown.
use Rattle.std.proofs.Common.{◌≡◌, ℕ, List, ◌++◌, IsUtf8}
use Rattle.std.specs.Str.Iter.{chars_rest}
use Rattle.std.specs.Fmt.{HasWritten, IsPlainFormatter}
use Rattle.wasm_check_lines.specs.Json.{json_text}
use Rattle.wasm_check_lines.proofs.json.QuotedDisplay.fmt.Given as goal

abbrev pub invariant-loop-c : goal.invariant-loop-c
invariant-loop-c g l = IsUtf8 (chars_rest l.c-iterator)
    × (IsPlainFormatter l.fn.f → (front : List ℕ) × HasWritten g.W.Write.write_str_gives l.fn.f front l.f
    × (front ++ json_text (chars_rest l.c-iterator) ≡ json_text l.self.0.now))
