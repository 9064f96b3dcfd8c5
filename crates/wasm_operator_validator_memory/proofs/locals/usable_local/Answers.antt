use Rattle.std.proofs.Common.{slice_get}
use Rattle.wasm_types.specs.trees.Below.{value_is_shared}
use Rattle.wasm_operator_validator_state.specs.resources.Meaning.{type_in}
use Rattle.wasm_operator_validator_state.specs.State.{types_in}
use Rattle.wasm_operator_validator_stacks.specs.determined.laws.Usable.{none_usable, not_usable, usable}
use Rattle.wasm_operator_validator_memory.proofs.Operators.{local_known, local_unknown}
use Rattle.wasm_operator_validator_memory.proofs.locals.usable_local.Goals as goal

pub returns-in-None-clause-usable : goal.returns-in-None-clause-usable
returns-in-None-clause-usable g c =
    let m = g.R.WasmModuleResources.meaning c.args.resources.now in
    let ts = c.args.validator.now.given.locals in
    none_usable c.args.validator.now value_is_shared (slice_get (types_in m ts) c.args.local_index) (local_unknown m ts c.args.local_index c.in-None.ensures)

pub returns-then-not-may_use_type-clause-usable : goal.returns-then-not-may_use_type-clause-usable
returns-then-not-may_use_type-clause-usable g c =
    let m = g.R.WasmModuleResources.meaning c.args.resources.now in
    let ts = c.args.validator.now.given.locals in
    not_usable c.args.validator.now value_is_shared (slice_get (types_in m ts) c.args.local_index) (type_in m c.in-Some.ty) c.may_use_type.result
    (local_known m ts c.args.local_index c.in-Some.ty c.in-Some.ensures) c.may_use_type.ensures c.if-not-may_use_type.true

pub returns-clause-usable : goal.returns-clause-usable
returns-clause-usable g c =
    let m = g.R.WasmModuleResources.meaning c.args.resources.now in
    let ts = c.args.validator.now.given.locals in
    usable c.args.validator.now value_is_shared (slice_get (types_in m ts) c.args.local_index) (type_in m c.in-Some.ty) c.may_use_type.result
    (local_known m ts c.args.local_index c.in-Some.ty c.in-Some.ensures) c.may_use_type.ensures c.if-not-may_use_type.false
