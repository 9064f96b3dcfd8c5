use Rattle.wasm_module_validator_resources.specs.laws.Settling.{settled_in}
use Rattle.wasm_module_validator_resources.proofs.resources.OperatorValidatorResources.new.Goals as goal

pub invariant_of-result : goal.invariant_of-result
invariant_of-result c =
    record { settled = settled_in c.args.types.now.groups c.args.«module».now c.type_count-count.ensures.formed c.requires }
