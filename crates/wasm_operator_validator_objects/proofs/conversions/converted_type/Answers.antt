use Rattle.wasm_operator_validator_objects.proofs.Converting.{number_unconvertible, reference_unconvertible, reference_converted}
use Rattle.wasm_operator_validator_objects.proofs.conversions.converted_type.Goals as goal

pub returns-in-None : goal.returns-in-None
returns-in-None g c =
    let m = g.R.WasmModuleResources.meaning c.args.resources.now in
    number_unconvertible m c.args.ty.now c.args.from c.in-None.ensures

pub returns-then-not-is_of_kind : goal.returns-then-not-is_of_kind
returns-then-not-is_of_kind g c =
    let m = g.R.WasmModuleResources.meaning c.args.resources.now in
    reference_unconvertible m c.args.ty.now c.in-Some.reference c.args.from c.is_shared-shared.result c.is_of_kind.result c.types_are_sound.ensures.types c.types_are_sound.ensures.ids c.in-Some.ensures c.is_shared-shared.ensures c.is_of_kind.ensures c.if-not-is_of_kind.true

pub returns : goal.returns
returns g c =
    let m = g.R.WasmModuleResources.meaning c.args.resources.now in
    reference_converted m c.args.ty.now c.in-Some.reference c.args.from c.args.to c.is_shared-shared.result c.is_nullable-nullable.result c.is_of_kind.result c.abstract_reference.result c.types_are_sound.ensures.types c.types_are_sound.ensures.ids c.in-Some.ensures c.is_shared-shared.ensures c.is_nullable-nullable.ensures
    c.is_of_kind.ensures c.if-not-is_of_kind.false c.abstract_reference.ensures
