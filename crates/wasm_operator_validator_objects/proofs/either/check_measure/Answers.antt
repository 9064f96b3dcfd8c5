use Rattle.wasm_operator_validator_state.specs.Refusals.{kind_of, refused}
use Rattle.wasm_operator_validator_state.specs.laws.Accepting.{same_open}
use Rattle.wasm_operator_validator_objects.proofs.Measuring.{measured, measures_nothing, measures_other}
use Rattle.wasm_operator_validator_objects.proofs.either.check_measure.Goals as goal

pub returns-in-Err-pop_any : goal.returns-in-Err-pop_any
returns-in-Err-pop_any g c =
    let m = g.R.WasmModuleResources.meaning c.args.resources.now in
    measures_nothing (kind_of c.in-Err-pop_any.refusal) m c.args.validator.now c.pop_any.new.self c.args.op c.args.kind c.in-Ok.ensures c.requires (c.in-Err-pop_any.ensures.does m)
    (record { given = c.pop_any.ensures.given; failed = c.pop_any.ensures.failed; saved = c.pop_any.ensures.saved })

pub returns-then-not-is_either : goal.returns-then-not-is_either
returns-then-not-is_either g c =
    let m = g.R.WasmModuleResources.meaning c.args.resources.now in
    measures_other _ m c.args.validator.now c.pop_any.new.self c.args.op c.args.kind c.in-Ok-pop_any.found c.is_either.result c.in-Ok.ensures c.requires (c.in-Ok-pop_any.ensures.does m) c.is_either.ensures c.if-not-is_either.true

pub push_operands-requires : goal.push_operands-requires
push_operands-requires g c =
    let m = g.R.WasmModuleResources.meaning c.args.resources.now in
    (same_open c.args.validator.now.opens c.pop_any.new.self.opens (c.in-Ok-pop_any.ensures.does m).same.frames).1

pub returns : goal.returns
returns g c =
    let m = g.R.WasmModuleResources.meaning c.args.resources.now in
    measured (refused c.push_operands.result) m c.args.validator.now c.pop_any.new.self c.push_operands.new.self c.args.op c.args.kind c.in-Ok-pop_any.found c.is_either.result c.in-Ok.ensures c.requires (c.in-Ok-pop_any.ensures.does m)
    c.is_either.ensures c.if-not-is_either.false c.push_operands.ensures.does (record { given = c.push_operands.ensures.given; failed = c.push_operands.ensures.failed; saved = c.push_operands.ensures.saved })
