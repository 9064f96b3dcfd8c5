use Rattle.std.proofs.Common.{rules}
use Rattle.wasm_types.specs.settings.Features.{Gc}
use Rattle.wasm_types.specs.trees.Gates.{Has}
use Rattle.wasm_module_validator_fast_constants.proofs.Passing.{global_next}
use Rattle.wasm_module_validator_fast_constants.proofs.references.global.Goals as goal

pub returns : goal.returns
returns g c =
    let m = g.R.WasmModuleResources.meaning c.args.resources.now in
    let gc : Has c.args.features.now.0 Gc = search rules in
    global_next c.args.features.now.0 m c.args.bytes.now c.args.at c.in-Some.end c.args.stack.now.items c.in-Some.index c.in-Some-global_at.global c.put.new.stack.items
    c.requires c.in-Some.ensures.found gc c.in-Some-global_at.ensures c.if-global.false (c.put.ensures c.if-not-put.false)
