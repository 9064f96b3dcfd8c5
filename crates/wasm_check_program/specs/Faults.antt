-- What stopped the reading of a module, as the program asks it of a judge.
use Rattle.wasm_check_command.specs.declared.judging.Unjudged.{Unjudged}
use Rattle.wasm_check_command.specs.declared.judging.Unjudged.TheVariants as told
use Rattle.wasm_module_validator_streaming.specs.declared.reading.ReadError.{ReadError}
use Rattle.wasm_module_validator_streaming.specs.declared.reading.ReadError.TheVariants as faults

abbrev pub unjudged : ReadError → Unjudged
unjudged (faults.Refused e) = told.Refused e
unjudged faults.Read = told.Read
unjudged faults.TooLong = told.TooLong
