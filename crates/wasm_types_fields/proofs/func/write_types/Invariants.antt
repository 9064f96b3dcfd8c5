-- The word and the types so far are written.
use Rattle.std.proofs.Common.{◌++◌, take}
use Rattle.std.specs.Prelude.{codes}
use Rattle.std.specs.List.{flat_map}
use Rattle.std.specs.Fmt.{HasWritten, IsPlainFormatter}
use Rattle.wasm_types_fields.specs.Text.{spaced_text}
use Rattle.wasm_types_fields.proofs.func.write_types.Given as goal

abbrev pub invariant-loop-ty : goal.invariant-loop-ty
invariant-loop-ty g l =
    IsPlainFormatter l.fn.f → HasWritten g.W.Write.write_str_gives l.fn.f (codes " (" ++ (l.word ++ flat_map spaced_text (take l.ty-index l.types))) l.f
