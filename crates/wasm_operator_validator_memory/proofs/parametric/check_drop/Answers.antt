use Rattle.std.proofs.Common.{false}
use Rattle.wasm_operators_immediates.specs.declared.proposal.Proposal.TheVariants.{Mvp}
use Rattle.wasm_operator_validator_state.specs.Refusals.{kind_of}
use Rattle.wasm_operator_validator_stacks.specs.determined.laws.Determined.{not_begun}
use Rattle.wasm_operator_validator_memory.proofs.Selecting.{drop_op, drop_is, dropped, not_dropped}
use Rattle.wasm_operator_validator_memory.proofs.Room.{by_entry, drop_has_types}
use Rattle.wasm_operator_validator_memory.proofs.parametric.check_drop.Goals as goal

pub returns-in-Err-clause-checks : goal.returns-in-Err-clause-checks
returns-in-Err-clause-checks g c =
    not_begun c.in-Err.refusal (g.R.WasmModuleResources.meaning c.args.resources.now) c.args.validator.now drop_op Mvp false drop_is c.in-Err.ensures.begins c.in-Err.ensures.stops

pub returns-in-Err-pop_any-clause-checks : goal.returns-in-Err-pop_any-clause-checks
returns-in-Err-pop_any-clause-checks g c =
    let m = g.R.WasmModuleResources.meaning c.args.resources.now in
    not_dropped (kind_of c.in-Err-pop_any.refusal) m c.args.validator.now c.pop_any.new.self c.in-Ok.ensures.begins (c.in-Err-pop_any.ensures.does m)
    (record { given = c.pop_any.ensures.given; failed = c.pop_any.ensures.failed; saved = c.pop_any.ensures.saved })

pub returns-clause-checks : goal.returns-clause-checks
returns-clause-checks g c =
    let m = g.R.WasmModuleResources.meaning c.args.resources.now in
    dropped m c.args.validator.now c.pop_any.new.self c.in-Ok-pop_any.dropped c.in-Ok.ensures.begins (c.in-Ok-pop_any.ensures.does m)

pub returns-in-Err-clause-room : goal.returns-in-Err-clause-room
returns-in-Err-clause-room g c = by_entry c.in-Err.refusal (g.R.WasmModuleResources.meaning c.args.resources.now) c.args.validator.now drop_op Mvp false c.in-Err.ensures.stops

pub returns-in-Err-pop_any-clause-room : goal.returns-in-Err-pop_any-clause-room
returns-in-Err-pop_any-clause-room g c = λ e. drop_has_types (g.R.WasmModuleResources.meaning c.args.resources.now) c.args.validator.now c.in-Ok.ensures.begins
