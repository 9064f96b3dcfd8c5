-- The error of a part that is all there.
use Rattle.wasm_types.specs.decoding.declared.error.ErrorKind.{ErrorKind}
use Rattle.wasm_types.specs.decoding.declared.error.ErrorKind.TheVariants.{EndOfData, MissingFeature, OutOfMemory, Failed, Other}

-- an end of data is a fault there
abbrev pub settled : ErrorKind → ErrorKind
settled (EndOfData h) = Other
settled (MissingFeature f) = MissingFeature f
settled OutOfMemory = OutOfMemory
settled Failed = Failed
settled Other = Other
