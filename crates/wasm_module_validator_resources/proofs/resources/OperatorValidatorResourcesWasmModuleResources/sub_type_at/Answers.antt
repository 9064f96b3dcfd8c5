use Rattle.std.proofs.Common.{◌<◌, ap}
use Rattle.std.specs.Option.{option_map}
use Rattle.wasm_types.specs.trees.declared.index.CoreTypeId.{CoreTypeId}
use Rattle.wasm_types.specs.trees.Trees.{opened}
use Rattle.wasm_module_validator_type_storage.specs.trees.Groups.{count, tree_of}
use Rattle.wasm_module_validator_resources.proofs.Finding.{all_at, type_found, mapped}
use Rattle.wasm_module_validator_resources.proofs.resources.OperatorValidatorResourcesWasmModuleResources.sub_type_at.Goals as goal

pub stored-requires : goal.stored-requires
stored-requires c =
    all_at (λ (i : CoreTypeId). i.0 < count (c.args.self.now.types.now.groups)) (c.args.self.now.«module».now.types) c.args.type_index c.in-Some.id c.args.self.now.settled.known c.in-Some.ensures

pub returns-in-Some : goal.returns-in-Some
returns-in-Some c =
    type_found (c.args.self.now.types.now.groups) (c.args.self.now.«module».now.types) c.args.type_index c.in-Some.id _ c.in-Some.ensures c.stored.ensures

pub returns-in-None : goal.returns-in-None
returns-in-None c =
    ap (option_map opened) (mapped (λ (i : CoreTypeId). tree_of (c.args.self.now.types.now.groups) i.0) (c.args.self.now.«module».now.types) c.args.type_index _ c.in-None.ensures)
