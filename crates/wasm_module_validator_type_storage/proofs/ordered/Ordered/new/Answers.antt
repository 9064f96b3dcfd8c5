use Rattle.std.proofs.Common.{map, ap}
use Rattle.wasm_module_validator_type_storage.proofs.Chunks.{none_laid}
use Rattle.wasm_module_validator_type_storage.proofs.ordered.Ordered.new.Goals as goal

pub invariant_of-result : goal.invariant_of-result
invariant_of-result c = none_laid (map (λ v. v.items) c.new.result.items) (ap (map (λ v. v.items)) c.new.ensures.items)
