-- What is refused stays so.
use Rattle.wasm_module_validator_streaming.proofs.ToEnd.{still_came}
use Rattle.wasm_module_validator_streaming.proofs.to_end.ModuleToEnd.take.Goals as goal

pub returns-in-Some : goal.returns-in-Some
returns-in-Some c = record { came = λ z id got h. still_came z id got c.args.self.now c.in-Some.field-0 c.in-Some.is c.args.bytes.now h }
