use Rattle.std.proofs.Common.{sym}
use Rattle.wasm_types.specs.trees.ValidGroup.{type_at}
use Rattle.wasm_module_validator_type_storage.specs.trees.Groups.{tree_of}
use Rattle.wasm_module_validator_type_groups.specs.adding.Interned.{space_of}
use Rattle.wasm_module_validator_index_spaces.specs.declared.module.Function.{Function}
use Rattle.wasm_module_validator_resources.proofs.Finding.{there, function_type, index_type, mapped}
use Rattle.wasm_module_validator_resources.proofs.resources.OperatorValidatorResourcesWasmModuleResources.type_index_of_function.Goals as goal

pub returns-in-Some : goal.returns-in-Some
returns-in-Some c =
    let w = there (c.args.self.now.«module».now.types) c.in-Some.function.type_index c.in-Some.ensures.typed in (
      tree_of (c.args.self.now.types.now.groups) w.0.0,
      sym (function_type (c.args.self.now.types.now.groups) (c.args.self.now.«module».now.types)
          (c.args.self.now.«module».now.functions) c.args.function_index c.in-Some.function w.0 c.in-Some.ensures.value w.1),
      index_type (c.args.self.now.types.now.groups)
          (c.args.self.now.«module».now.types) c.in-Some.function.type_index w.0 w.1,
    )

pub returns-in-None : goal.returns-in-None
returns-in-None c =
    sym (mapped (λ (f : Function). type_at (space_of (c.args.self.now.types.now.groups) (c.args.self.now.«module».now.types)) f.type_index)
    (c.args.self.now.«module».now.functions) c.args.function_index _ c.in-None.ensures.value)
