use Rattle.std.proofs.Common.{Some, ap}
use Rattle.wasm_module_validator_import_export_places.proofs.start.number_of.Goals as goal

pub returns-in-Some : goal.returns-in-Some
returns-in-Some c z n content rest s e = ap Some (c.in-Some.ensures.found z n content rest s e).0

pub returns-in-None : goal.returns-in-None
returns-in-None c z n content rest s e = absurd (c.in-None.ensures.found z n content rest s e)
