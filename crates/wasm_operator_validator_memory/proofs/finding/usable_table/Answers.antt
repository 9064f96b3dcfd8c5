use Rattle.std.proofs.Common.{slice_get}
use Rattle.wasm_operator_validator_state.specs.resources.Meaning.{table_in}
use Rattle.wasm_operator_validator_stacks.specs.determined.laws.Usable.{none_usable, not_usable, usable}
use Rattle.wasm_operator_validator_memory.specs.Tables.{table_is_shared}
use Rattle.wasm_operator_validator_memory.proofs.finding.usable_table.Goals as goal

pub returns-in-None : goal.returns-in-None
returns-in-None g c =
    let m = g.R.WasmModuleResources.meaning c.args.resources.now in
    none_usable c.args.validator.now table_is_shared (slice_get m.«module».tables c.args.at) c.in-None.ensures

pub returns-then-not-may_use : goal.returns-then-not-may_use
returns-then-not-may_use g c =
    let m = g.R.WasmModuleResources.meaning c.args.resources.now in
    not_usable c.args.validator.now table_is_shared (slice_get m.«module».tables c.args.at) (table_in m c.in-Some.table) c.may_use.result c.in-Some.ensures c.may_use.ensures c.if-not-may_use.true

pub returns : goal.returns
returns g c =
    let m = g.R.WasmModuleResources.meaning c.args.resources.now in
    usable c.args.validator.now table_is_shared (slice_get m.«module».tables c.args.at) (table_in m c.in-Some.table) c.may_use.result c.in-Some.ensures c.may_use.ensures c.if-not-may_use.false
