use Rattle.std.proofs.Common.{◌<◌, ◌≤◌, arith}
use Rattle.wasm_module_validator_type_storage.specs.trees.Groups.{count}
use Rattle.wasm_module_validator_resources.specs.laws.Trees.{id_known, id_unknown}
use Rattle.wasm_module_validator_resources.proofs.resources.OperatorValidatorResources.named.Goals as goal

pub returns-in-Module : goal.returns-in-Module
returns-in-Module c =
    rw c.in-Module.is (record { meant = c.type_at.ensures.meant; known = c.type_at.ensures.known })

pub returns-in-RecGroup : goal.returns-in-RecGroup
returns-in-RecGroup c =
    rw c.in-RecGroup.is (record { meant = c.type_at-in-RecGroup.ensures.meant; known = c.type_at-in-RecGroup.ensures.known })

pub returns-then-number-type_count : goal.returns-then-number-type_count
returns-then-number-type_count c =
    let counted = c.type_count.ensures.counted in
    let same = c.number.ensures in
    let lt : c.in-Id.id.0 < count (c.args.self.now.types.now.groups) = omega arith in
    rw c.in-Id.is (record { meant = id_known (c.args.self.now.types.now.groups) (c.args.self.now.«module».now.types) c.in-Id.id lt; known = lt })

pub returns-else-number-type_count : goal.returns-else-number-type_count
returns-else-number-type_count c =
    let counted = c.type_count.ensures.counted in
    let same = c.number.ensures in
    let le : count (c.args.self.now.types.now.groups) ≤ c.in-Id.id.0 = omega arith in
    let again = c.number-else-number-type_count.ensures in
    rw (c.in-Id.is, again) (record { meant = id_unknown (c.args.self.now.types.now.groups) (c.args.self.now.«module».now.types) c.in-Id.id le; known = tt })
