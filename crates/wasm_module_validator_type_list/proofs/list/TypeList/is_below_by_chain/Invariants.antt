use Rattle.std.proofs.Common.{◌<◌, ◌↔◌}
use Rattle.wasm_module_validator_type_storage.specs.trees.Groups.{count}
use Rattle.wasm_module_validator_type_storage.specs.trees.ByIds.{IdBelow}
use Rattle.wasm_module_validator_type_list.proofs.list.TypeList.is_below_by_chain.Given as goal

abbrev pub invariant-chain : goal.invariant-chain
invariant-chain l = (l.at.0 < count l.self.groups) × (IdBelow l.self.groups l.fn.a l.b ↔ IdBelow l.self.groups l.at l.b)

abbrev pub decreases-chain : goal.decreases-chain
decreases-chain l = l.at.0
