use Rattle.wasm_module_validator_type_storage.proofs.Splits.{place_misses}
use Rattle.wasm_module_validator_type_storage.proofs.ordered.finding.find_in.Goals as goal

pub returns-in-Err : goal.returns-in-Err
returns-in-Err g c = place_misses _ c.args.numbers.now c.in-Err.place c.in-Err.ensures.place
