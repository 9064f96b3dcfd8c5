use Rattle.std.proofs.Common.{arith}
use Rattle.wasm_module_validator_type_storage.specs.trees.Groups.{count}
use Rattle.wasm_module_validator_type_storage.specs.trees.BelowIds.{IsIdBelow}
use Rattle.wasm_module_validator_type_groups.proofs.Allowed.{value_read}
use Rattle.wasm_module_validator_type_groups.proofs.composites.parts.Check.check_parts.Goals as goal

pub check_part-requires : goal.check_part-requires
check_part-requires c = λ t.
    value_read (IsIdBelow (count c.args.self.now.types.now.groups)) c.args.types.now c.loop-i.i c.index-types-i.result (c.requires t) (omega arith) c.index-types-i.is
