use Rattle.std.proofs.Common.{true, false, slice_get}
use Rattle.wasm_operator_validator_state.specs.resources.Meaning.{table_in}
use Rattle.wasm_operator_validator_stacks.specs.determined.laws.Usable.{none_usable, not_usable}
use Rattle.wasm_operator_validator_control.specs.Callees.{table_is_shared}
use Rattle.wasm_operator_validator_control.proofs.Naming.{no_table, not_functions, of_functions}
use Rattle.wasm_operator_validator_control.proofs.tables.function_table.Goals as goal

pub returns-in-None : goal.returns-in-None
returns-in-None g c =
    let m = g.R.WasmModuleResources.meaning c.args.resources.now in
    no_table m c.args.validator.now c.args.table_index (none_usable c.args.validator.now table_is_shared (slice_get m.«module».tables c.args.table_index) c.in-None.ensures)

pub returns-then-not-may_use : goal.returns-then-not-may_use
returns-then-not-may_use g c =
    let m = g.R.WasmModuleResources.meaning c.args.resources.now in
    no_table m c.args.validator.now c.args.table_index
    (not_usable c.args.validator.now table_is_shared (slice_get m.«module».tables c.args.table_index) (table_in m c.in-Some.table) c.may_use.result c.in-Some.ensures c.may_use.ensures c.if-not-may_use.true)

pub returns-then-is_of_functions : goal.returns-then-is_of_functions
returns-then-is_of_functions g c =
    let m = g.R.WasmModuleResources.meaning c.args.resources.now in
    of_functions m c.args.validator.now c.args.table_index (table_in m c.in-Some.table) c.is_of_functions.result false c.in-Some.ensures (c.may_use.ensures.0 c.if-not-may_use.false) c.is_of_functions.ensures c.if-is_of_functions.true

pub returns-then-is_of_functions-2 : goal.returns-then-is_of_functions-2
returns-then-is_of_functions-2 g c =
    let m = g.R.WasmModuleResources.meaning c.args.resources.now in
    of_functions m c.args.validator.now c.args.table_index (table_in m c.in-Some.table) c.is_of_functions-2.result true c.in-Some.ensures (c.may_use.ensures.0 c.if-not-may_use.false) c.is_of_functions-2.ensures c.if-is_of_functions-2.true

pub returns : goal.returns
returns g c =
    let m = g.R.WasmModuleResources.meaning c.args.resources.now in
    not_functions m c.args.validator.now c.args.table_index (table_in m c.in-Some.table) c.is_of_functions.result c.is_of_functions-2.result c.in-Some.ensures c.is_of_functions.ensures c.is_of_functions-2.ensures
    c.if-is_of_functions.false c.if-is_of_functions-2.false
