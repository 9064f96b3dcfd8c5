-- The supertypes so far are written.
use Rattle.std.proofs.Common.{take}
use Rattle.std.specs.List.{flat_map}
use Rattle.std.specs.Fmt.{HasWritten, IsPlainFormatter}
use Rattle.wasm_types.specs.Text.{supertype_text}
use Rattle.wasm_types.proofs.sub_type.write_supertypes.Given as goal

abbrev pub invariant-loop-index : goal.invariant-loop-index
invariant-loop-index g l = IsPlainFormatter l.fn.f → HasWritten g.W.Write.write_str_gives l.fn.f (flat_map supertype_text (take l.index-index l.supertypes)) l.f
