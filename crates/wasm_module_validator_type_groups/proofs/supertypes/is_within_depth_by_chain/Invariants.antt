use Rattle.std.proofs.Common.{◌↔◌, ◌<◌}
use Rattle.std.specs.Prelude.{IfSome}
use Rattle.wasm_module_validator_type_storage.specs.trees.Groups.{count}
use Rattle.wasm_module_validator_type_groups.specs.ValidTypes.{IsDepthWithin}
use Rattle.wasm_module_validator_type_groups.proofs.supertypes.is_within_depth_by_chain.Given as goal

abbrev pub invariant-chain : goal.invariant-chain
invariant-chain l =
    IfSome l.at (λ u. u.0 < count l.types.groups)
    × (IsDepthWithin l.types.groups l.most l.fn.above ↔ IsDepthWithin l.types.groups l.left l.at)

abbrev pub decreases-chain : goal.decreases-chain
decreases-chain l = l.left
