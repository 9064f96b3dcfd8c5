use Rattle.wasm_operator_validator_state.specs.Refusals.{kind_of, refused}
use Rattle.wasm_operator_validator_state.specs.laws.Accepting.{same_open}
use Rattle.wasm_operator_validator_objects.proofs.Measuring.{equal_checked, equal_other, equal_nothing, equal_one, equal_second}
use Rattle.wasm_operator_validator_objects.proofs.either.check_ref_eq.Goals as goal

pub returns-in-Err-pop_any : goal.returns-in-Err-pop_any
returns-in-Err-pop_any g c =
    let m = g.R.WasmModuleResources.meaning c.args.resources.now in
    equal_nothing (kind_of c.in-Err-pop_any.refusal) m c.args.validator.now c.pop_any.new.self c.in-Ok.ensures (c.in-Err-pop_any.ensures.does m) (record { given = c.pop_any.ensures.given; failed = c.pop_any.ensures.failed; saved = c.pop_any.ensures.saved })

pub returns-in-Err-pop_any-2 : goal.returns-in-Err-pop_any-2
returns-in-Err-pop_any-2 g c =
    let m = g.R.WasmModuleResources.meaning c.args.resources.now in
    equal_one (kind_of c.in-Err-pop_any-2.refusal) m c.args.validator.now c.pop_any.new.self c.pop_any-2.new.self c.in-Ok-pop_any.second c.in-Ok.ensures (c.in-Ok-pop_any.ensures.does m) (c.in-Err-pop_any-2.ensures.does m)
    (record { given = c.pop_any-2.ensures.given; failed = c.pop_any-2.ensures.failed; saved = c.pop_any-2.ensures.saved })

pub returns-then-not-are_comparable : goal.returns-then-not-are_comparable
returns-then-not-are_comparable g c =
    let m = g.R.WasmModuleResources.meaning c.args.resources.now in
    equal_other _ m c.args.validator.now c.pop_any.new.self c.pop_any-2.new.self c.in-Ok-pop_any-2.first c.in-Ok-pop_any.second c.are_comparable.result c.in-Ok.ensures (c.in-Ok-pop_any.ensures.does m) (c.in-Ok-pop_any-2.ensures.does m)
    c.are_comparable.ensures c.if-not-are_comparable.true

pub push_operands-requires : goal.push_operands-requires
push_operands-requires g c =
    let m = g.R.WasmModuleResources.meaning c.args.resources.now in
    (same_open c.pop_any.new.self.opens c.pop_any-2.new.self.opens (c.in-Ok-pop_any-2.ensures.does m).same.frames).1

pub returns : goal.returns
returns g c =
    let m = g.R.WasmModuleResources.meaning c.args.resources.now in
    equal_checked (refused c.push_operands.result) m c.args.validator.now c.pop_any.new.self c.pop_any-2.new.self c.push_operands.new.self c.in-Ok-pop_any-2.first c.in-Ok-pop_any.second c.are_comparable.result c.in-Ok.ensures
    (c.in-Ok-pop_any.ensures.does m) (c.in-Ok-pop_any-2.ensures.does m) c.are_comparable.ensures c.if-not-are_comparable.false c.push_operands.ensures.does (record { given = c.push_operands.ensures.given; failed = c.push_operands.ensures.failed; saved = c.push_operands.ensures.saved })

pub returns-then-not-is_either : goal.returns-then-not-is_either
returns-then-not-is_either g c =
    let m = g.R.WasmModuleResources.meaning c.args.resources.now in
    equal_second _ m c.args.validator.now c.pop_any.new.self c.in-Ok-pop_any.second c.is_either.result c.in-Ok.ensures (c.in-Ok-pop_any.ensures.does m) c.is_either.ensures c.if-not-is_either.true
