use Rattle.std.proofs.Common.{arith}
use Rattle.wasm_module_validator_type_storage.specs.trees.Groups.{count}
use Rattle.wasm_module_validator_type_storage.specs.trees.BelowIds.{IsIdBelow}
use Rattle.wasm_module_validator_type_groups.proofs.Allowed.{field_at}
use Rattle.wasm_module_validator_type_groups.proofs.composites.parts.Check.check_fields.Goals as goal

pub check_storage-requires : goal.check_storage-requires
check_storage-requires c = λ t.
    field_at (IsIdBelow (count c.args.self.now.types.now.groups)) c.args.fields.now c.loop-i.i c.index-fields-i.result (c.requires t) (omega arith)
