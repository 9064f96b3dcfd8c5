use Rattle.wasm_types.specs.Entries.{declared_of}
use Rattle.wasm_module_validator_resources.proofs.Finding.{entry_stored}
use Rattle.wasm_module_validator_resources.proofs.resources.OperatorValidatorResources.stored.Goals as goal

pub returns : goal.returns
returns c =
    entry_stored (c.args.self.now.«module».now.settings.features) (c.args.self.now.types.now.groups) c.type_count-count.ensures.formed c.args.self.now.settled.settled
    (c.args.self.now.«module».now.types) c.args.id (declared_of c.stored_type.result.now) c.requires c.stored_type.ensures
