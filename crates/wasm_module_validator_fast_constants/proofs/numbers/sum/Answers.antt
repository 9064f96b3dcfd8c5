use Rattle.std.proofs.Common.{◌∙◌, ◌++◌, ◌∷◌, [], refl, ap, rules}
use Rattle.wasm_types.specs.settings.Features.{ExtendedConst}
use Rattle.wasm_types.specs.trees.Gates.{Has}
use Rattle.wasm_types.specs.values.declared.value.ValType.{ValType}
use Rattle.wasm_module_validator_fast_constants.proofs.Passing.{sum_next}
use Rattle.wasm_module_validator_fast_constants.proofs.numbers.sum.Goals as goal

pub returns : goal.returns
returns c m =
    let allowed : Has c.args.features.now.0 ExtendedConst = search rules in
    let left = c.take_integer-2.new.stack.items in
    sum_next c.args.features.now.0 m c.args.bytes.now c.args.at _ c.args.stack.now.items c.args.code c.in-Some.wide c.take_integer.new.stack.items left c.put.new.stack.items
    c.requires c.in-Some.ensures allowed refl (c.take_integer.ensures c.if-not-take_integer.false) (c.take_integer-2.ensures c.if-not-take_integer-2.false)
    (c.put.ensures c.if-not-put.false ∙ ap (λ (t : ValType). left ++ t ∷ []) c.integer_of.ensures)
