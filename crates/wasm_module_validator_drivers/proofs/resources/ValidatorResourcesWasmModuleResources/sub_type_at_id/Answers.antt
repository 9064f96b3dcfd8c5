use Rattle.std.proofs.Common.{◌∙◌, ap, sym, arith}
use Rattle.wasm_types.specs.trees.Trees.{opened}
use Rattle.wasm_module_validator_resources.specs.Named.{nowhere}
use Rattle.wasm_module_validator_resources.specs.laws.Trees.{types_counted, type_by_id}
use Rattle.wasm_module_validator_drivers.proofs.resources.ValidatorResourcesWasmModuleResources.sub_type_at_id.Goals as goal

pub stored-requires : goal.stored-requires
stored-requires c = let long = types_counted (c.args.self.now.shared.value.groups) in let lt = c.requires in omega arith

pub returns : goal.returns
returns c =
    let long = types_counted (c.args.self.now.shared.value.groups) in let lt = c.requires in
    c.stored.ensures ∙ ap opened (sym (type_by_id (c.args.self.now.shared.value.groups) c.args.id.0 (nowhere c.args.id.0) (omega arith)))
