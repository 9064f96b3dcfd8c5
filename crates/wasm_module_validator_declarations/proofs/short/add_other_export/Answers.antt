use Rattle.std.proofs.Common.{refl}
use Rattle.wasm_module_validator_declarations.proofs.short.add_other_export.Goals as goal

pub returns-in-Ok-clause-added : goal.returns-in-Ok-clause-added
returns-in-Ok-clause-added c = (refl, (c.in-Ok.ensures.answer, c.in-Ok.ensures.added))
