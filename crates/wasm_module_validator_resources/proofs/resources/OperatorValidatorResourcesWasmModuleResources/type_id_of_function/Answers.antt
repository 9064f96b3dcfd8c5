use Rattle.wasm_types.specs.trees.ValidGroup.{type_at}
use Rattle.wasm_module_validator_type_groups.specs.adding.Interned.{space_of}
use Rattle.wasm_module_validator_index_spaces.specs.declared.module.Function.{Function}
use Rattle.wasm_module_validator_resources.proofs.Finding.{there, function_id, ids_known, mapped}
use Rattle.wasm_module_validator_resources.proofs.resources.OperatorValidatorResourcesWasmModuleResources.type_id_of_function.Goals as goal

pub returns-in-Some-clause-value : goal.returns-in-Some-clause-value
returns-in-Some-clause-value c =
    let w = there (c.args.self.now.«module».now.types) c.in-Some.function.type_index c.in-Some.ensures.typed in
    function_id (c.args.self.now.types.now.groups) (c.args.self.now.«module».now) c.args.function_index c.in-Some.function c.type_id.result c.in-Some.ensures.value
    c.in-Some.ensures.typed c.type_id.ensures c.args.self.now.settled.known

pub returns-in-Some-clause-known : goal.returns-in-Some-clause-known
returns-in-Some-clause-known c =
    ids_known (c.args.self.now.types.now.groups) (c.args.self.now.«module».now.types) c.in-Some.function.type_index c.type_id.result c.type_id.ensures c.args.self.now.settled.known

pub returns-in-None-clause-value : goal.returns-in-None-clause-value
returns-in-None-clause-value c =
    mapped (λ (f : Function). type_at (space_of (c.args.self.now.types.now.groups) (c.args.self.now.«module».now.types)) f.type_index) (c.args.self.now.«module».now.functions)
    c.args.function_index _ c.in-None.ensures.value
