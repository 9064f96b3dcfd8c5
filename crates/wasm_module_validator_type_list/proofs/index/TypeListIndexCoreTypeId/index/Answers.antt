use Rattle.std.proofs.Common.{arith}
use Rattle.wasm_module_validator_type_storage.specs.trees.Groups.{declared_by_id}
use Rattle.wasm_module_validator_type_storage.specs.trees.laws.Ids.{length_stored}
use Rattle.wasm_module_validator_type_list.proofs.Finding.{none_past}
use Rattle.wasm_module_validator_type_list.proofs.index.TypeListIndexCoreTypeId.index.Goals as goal

pub unreachable-requires : goal.unreachable-requires
unreachable-requires c =
    let past = none_past (declared_by_id c.args.self.now.groups) c.args.id.0 c.in-None.ensures in
    absurd (omega (arith, past, length_stored c.args.self.now.groups, c.requires))
