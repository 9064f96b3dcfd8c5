use Rattle.std.proofs.Common.{subst, replicate}
use Rattle.wasm_types.specs.values.declared.value.ValType.{ValType}
use Rattle.wasm_operator_validator_state.specs.resources.Meaning.{type_in}
use Rattle.wasm_module_validator_fast_constants.specs.Steps.{MayTake, tops}
use Rattle.wasm_module_validator_fast_constants.proofs.Making.{makes_counted_array}
use Rattle.wasm_module_validator_fast_constants.proofs.objects.array_new_fixed.Goals as goal

pub returns : goal.returns
returns g c h =
    let m = g.R.WasmModuleResources.meaning c.args.resources.now in
    let before = c.args.stack.now.items in
    let left = c.take_same.new.stack.items in
    makes_counted_array m c.args.index before left c.in-Some.element c.args.count c.in-Some.ensures
    (subst (λ (t : ValType). MayTake (tops m before) (replicate c.args.count (type_in m t)) (tops m left)) c.unpack-ty.ensures (c.take_same.ensures h))
