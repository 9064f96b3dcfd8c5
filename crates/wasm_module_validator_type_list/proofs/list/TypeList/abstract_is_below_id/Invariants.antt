use Rattle.std.proofs.Common.{◌<◌, ◌↔◌}
use Rattle.wasm_types.specs.values.Trees.{abstract_of}
use Rattle.wasm_module_validator_type_storage.specs.trees.Groups.{count}
use Rattle.wasm_module_validator_type_storage.specs.trees.BelowIds.{AbstractBelowId}
use Rattle.wasm_module_validator_type_list.proofs.list.TypeList.abstract_is_below_id.Given as goal

abbrev pub invariant-chain : goal.invariant-chain
invariant-chain l =
    (l.at.0 < count l.self.groups)
    × (AbstractBelowId l.self.groups l.fn.id l.shared (abstract_of l.ty) ↔ AbstractBelowId l.self.groups l.at l.shared (abstract_of l.ty))

abbrev pub decreases-chain : goal.decreases-chain
decreases-chain l = l.at.0
