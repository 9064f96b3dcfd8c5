use Rattle.std.proofs.Common.{refl, rules}
use Rattle.wasm_types.specs.settings.Features.{ReferenceTypes}
use Rattle.wasm_types.specs.trees.Gates.{Has}
use Rattle.wasm_module_validator_fast_constants.proofs.Passing.{abstract_null_next}
use Rattle.wasm_module_validator_fast_constants.proofs.references.null.Goals as goal

pub returns : goal.returns
returns g c =
    let m = g.R.WasmModuleResources.meaning c.args.resources.now in
    let allowed : Has c.args.features.now.0 ReferenceTypes = search rules in
    abstract_null_next c.args.features.now.0 allowed m c.args.bytes.now c.args.at c.requires c.args.stack.now.items c.in-Some.ty c.in-Some-new.reference _
    c.put.new.stack.items (search rules) c.in-Some.ensures c.in-Some-new.ensures.value refl (c.put.ensures c.if-not-put.false)
