use Rattle.std.proofs.Common.{slice_get}
use Rattle.wasm_operator_validator_state.specs.resources.Meaning.{global_in}
use Rattle.wasm_operator_validator_stacks.specs.determined.laws.Usable.{none_usable, not_usable, usable}
use Rattle.wasm_operator_validator_memory.specs.Variables.{global_is_shared}
use Rattle.wasm_operator_validator_memory.proofs.globals.usable_global.Goals as goal

pub returns-in-None-clause-usable : goal.returns-in-None-clause-usable
returns-in-None-clause-usable g c =
    let m = g.R.WasmModuleResources.meaning c.args.resources.now in
    none_usable c.args.validator.now global_is_shared (slice_get m.«module».globals c.args.at) c.in-None.ensures

pub returns-then-not-may_use-clause-usable : goal.returns-then-not-may_use-clause-usable
returns-then-not-may_use-clause-usable g c =
    let m = g.R.WasmModuleResources.meaning c.args.resources.now in
    not_usable c.args.validator.now global_is_shared (slice_get m.«module».globals c.args.at) (global_in m c.in-Some.global) c.may_use.result c.in-Some.ensures c.may_use.ensures c.if-not-may_use.true

pub returns-clause-usable : goal.returns-clause-usable
returns-clause-usable g c =
    let m = g.R.WasmModuleResources.meaning c.args.resources.now in
    usable c.args.validator.now global_is_shared (slice_get m.«module».globals c.args.at) (global_in m c.in-Some.global) c.may_use.result c.in-Some.ensures c.may_use.ensures c.if-not-may_use.false
