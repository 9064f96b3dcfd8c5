use Rattle.std.proofs.Common.{◌<◌, sym}
use Rattle.wasm_types.specs.trees.declared.index.CoreTypeId.{CoreTypeId}
use Rattle.wasm_module_validator_type_storage.specs.trees.Groups.{count}
use Rattle.wasm_module_validator_resources.specs.laws.Trees.{index_known, index_unknown}
use Rattle.wasm_module_validator_resources.proofs.Finding.{none_past, all_at}
use Rattle.wasm_module_validator_resources.proofs.resources.OperatorValidatorResources.type_at.Goals as goal

pub returns-in-Some-clause-meant : goal.returns-in-Some-clause-meant
returns-in-Some-clause-meant c =
    index_known (c.args.self.now.types.now.groups) (c.args.self.now.«module».now.types) c.args.index c.in-Some.id (sym c.in-Some.ensures)

pub returns-in-Some-clause-known : goal.returns-in-Some-clause-known
returns-in-Some-clause-known c =
    all_at (λ (i : CoreTypeId). i.0 < count (c.args.self.now.types.now.groups)) (c.args.self.now.«module».now.types) c.args.index c.in-Some.id c.args.self.now.settled.known c.in-Some.ensures

pub returns-in-None-clause-meant : goal.returns-in-None-clause-meant
returns-in-None-clause-meant c =
    index_unknown (c.args.self.now.types.now.groups) (c.args.self.now.«module».now.types) c.args.index (none_past (c.args.self.now.«module».now.types) c.args.index c.in-None.ensures)
