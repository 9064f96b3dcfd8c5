use Rattle.wasm_types.specs.Entries.{declared_of}
use Rattle.wasm_module_validator_resources.proofs.Finding.{id_past, stored_as}
use Rattle.wasm_module_validator_resources.proofs.types.stored_type.Goals as goal

pub unreachable-requires : goal.unreachable-requires
unreachable-requires c =
    id_past c.args.types.now.groups c.args.id c.requires c.in-None.ensures

pub returns : goal.returns
returns c =
    stored_as c.args.types.now.groups c.args.id.0 (declared_of c.in-Some.ty.now) c.in-Some.ensures
