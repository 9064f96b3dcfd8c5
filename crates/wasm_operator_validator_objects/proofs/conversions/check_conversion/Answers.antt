use Rattle.wasm_operator_validator_state.specs.Refusals.{kind_of, refused}
use Rattle.wasm_operator_validator_state.specs.laws.Accepting.{same_open}
use Rattle.wasm_operator_validator_objects.proofs.Measuring.{conversion_checked, converts_nothing, converts_other}
use Rattle.wasm_operator_validator_objects.proofs.conversions.check_conversion.Goals as goal

pub returns-in-Err-pop_any : goal.returns-in-Err-pop_any
returns-in-Err-pop_any g c =
    let m = g.R.WasmModuleResources.meaning c.args.resources.now in
    converts_nothing (kind_of c.in-Err-pop_any.refusal) m c.args.validator.now c.pop_any.new.self c.args.op c.args.from c.args.to c.in-Ok.ensures c.requires (c.in-Err-pop_any.ensures.does m) (record { given = c.pop_any.ensures.given; failed = c.pop_any.ensures.failed; saved = c.pop_any.ensures.saved })

pub returns-in-None : goal.returns-in-None
returns-in-None g c =
    let m = g.R.WasmModuleResources.meaning c.args.resources.now in
    converts_other _ m c.args.validator.now c.pop_any.new.self c.args.op c.in-Ok-pop_any.found c.args.from c.args.to c.in-Ok.ensures c.requires (c.in-Ok-pop_any.ensures.does m) c.in-None.ensures

pub push_operand-requires : goal.push_operand-requires
push_operand-requires g c =
    let m = g.R.WasmModuleResources.meaning c.args.resources.now in
    (same_open c.args.validator.now.opens c.pop_any.new.self.opens (c.in-Ok-pop_any.ensures.does m).same.frames).1

pub returns : goal.returns
returns g c =
    let m = g.R.WasmModuleResources.meaning c.args.resources.now in
    conversion_checked (refused c.push_operand.result) m c.args.validator.now c.pop_any.new.self c.push_operand.new.self c.args.op c.in-Ok-pop_any.found c.in-Some.converted c.args.from c.args.to c.in-Ok.ensures c.requires (c.in-Ok-pop_any.ensures.does m)
    c.in-Some.ensures (c.push_operand.ensures.does m) (record { given = c.push_operand.ensures.given; failed = c.push_operand.ensures.failed; saved = c.push_operand.ensures.saved })
