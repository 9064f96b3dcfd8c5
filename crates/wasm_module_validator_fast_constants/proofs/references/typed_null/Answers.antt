use Rattle.std.proofs.Common.{rules}
use Rattle.wasm_types.specs.settings.Features.{Gc}
use Rattle.wasm_types.specs.trees.Gates.{Has}
use Rattle.wasm_module_validator_fast_constants.proofs.Passing.{typed_null_next}
use Rattle.wasm_module_validator_fast_constants.proofs.references.typed_null.Goals as goal

pub returns : goal.returns
returns g c =
    let m = g.R.WasmModuleResources.meaning c.args.resources.now in
    let gc : Has c.args.features.now.0 Gc = search rules in
    typed_null_next c.args.features.now.0 c.requires.allowed m c.args.bytes.now c.args.at c.requires.begins c.args.stack.now.items c.in-Ok.index c.in-Some-reference_to.reference
    c.in-Some.end c.put.new.stack.items (search rules) (search rules) gc c.in-Some-reference_to.ensures (c.put.ensures c.if-not-put.false)
