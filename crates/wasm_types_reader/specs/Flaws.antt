-- The error of a number's flaw.
use Rattle.wasm_types_decoding.specs.declared.error.ErrorKind.{ErrorKind}
use Rattle.wasm_types_decoding.specs.declared.error.ErrorKind.TheVariants.{EndOfData, Other}
use Rattle.wasm_types_decoding.specs.declared.long.Flaw.{Flaw}
use Rattle.wasm_types_decoding.specs.declared.long.Flaw.TheVariants.{Ended, NoRoom}

-- its kind: one byte more is needed at least, or no further byte mends it
abbrev pub flaw_kind : Flaw → ErrorKind
flaw_kind (Ended offset) = EndOfData 1
flaw_kind (NoRoom offset b) = Other
