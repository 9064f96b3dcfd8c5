use Rattle.std.proofs.Common.{◌∷◌, [], subst}
use Rattle.wasm_types.specs.values.declared.value.ValType.{ValType}
use Rattle.wasm_operator_validator_state.specs.resources.Meaning.{type_in}
use Rattle.wasm_module_validator_fast_constants.specs.Steps.{MayTake, tops}
use Rattle.wasm_module_validator_fast_constants.proofs.Making.{makes_array}
use Rattle.wasm_module_validator_fast_constants.proofs.objects.array_new.Goals as goal

pub returns : goal.returns
returns g c h =
    let m = g.R.WasmModuleResources.meaning c.args.resources.now in
    let middle = c.take.new.stack.items in
    let left = c.take-2.new.stack.items in
    makes_array m c.args.index c.args.stack.now.items left c.in-Some.element middle c.in-Some.ensures (c.take.ensures c.if-not-take.false)
    (subst (λ (t : ValType). MayTake (tops m middle) (type_in m t ∷ []) (tops m left)) c.unpack.ensures (c.take-2.ensures h))
