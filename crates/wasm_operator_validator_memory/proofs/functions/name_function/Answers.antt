use Rattle.wasm_operator_validator_state.specs.resources.Meaning.{type_in}
use Rattle.wasm_operator_validator_memory.proofs.ToFunctions.{unknown_function, undeclared, unused, function_known, type_within}
use Rattle.wasm_operator_validator_memory.proofs.functions.name_function.Goals as goal

pub returns-in-None : goal.returns-in-None
returns-in-None g c =
    let m = g.R.WasmModuleResources.meaning c.args.resources.now in
    unknown_function m c.args.validator.now c.args.function_index c.in-None.ensures

pub returns-then-not-is_function_referenced : goal.returns-then-not-is_function_referenced
returns-then-not-is_function_referenced g c =
    let m = g.R.WasmModuleResources.meaning c.args.resources.now in
    undeclared m c.args.validator.now c.args.function_index c.is_function_referenced.result c.is_function_referenced.ensures c.if-not-is_function_referenced.true

pub reference_to-ty-requires : goal.reference_to-ty-requires
reference_to-ty-requires g c =
    let m = g.R.WasmModuleResources.meaning c.args.resources.now in
    type_within m c.args.function_index c.in-Some.type_index c.in-Some.ensures

pub returns-then-not-may_use_type : goal.returns-then-not-may_use_type
returns-then-not-may_use_type g c =
    let m = g.R.WasmModuleResources.meaning c.args.resources.now in
    unused m c.args.validator.now c.args.function_index c.in-Some.type_index c.is_exactly-exactly.result c.may_use_type.result (type_in m c.reference_to-ty.result)
    c.in-Some.ensures c.reference_to-ty.ensures c.may_use_type.ensures c.if-not-may_use_type.true

pub returns : goal.returns
returns g c =
    let m = g.R.WasmModuleResources.meaning c.args.resources.now in
    function_known m c.args.validator.now c.args.function_index c.in-Some.type_index c.is_exactly-exactly.result c.may_use_type.result c.is_function_referenced.result (type_in m c.reference_to-ty.result)
    c.in-Some.ensures c.reference_to-ty.ensures c.is_exactly-exactly.ensures c.is_function_referenced.ensures c.if-not-is_function_referenced.false c.may_use_type.ensures c.if-not-may_use_type.false
