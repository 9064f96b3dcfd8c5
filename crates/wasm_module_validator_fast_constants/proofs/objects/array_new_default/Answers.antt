use Rattle.std.proofs.Common.{◌∙◌, sym}
use Rattle.wasm_module_validator_fast_constants.proofs.Making.{makes_default_array}
use Rattle.wasm_module_validator_fast_constants.proofs.objects.array_new_default.Goals as goal

pub returns : goal.returns
returns g c h =
    let m = g.R.WasmModuleResources.meaning c.args.resources.now in
    makes_default_array m c.args.index c.args.stack.now.items c.take.new.stack.items c.in-Some.element c.in-Some.ensures (sym c.is_defaultable.ensures ∙ c.if-not-is_defaultable.false)
    (c.take.ensures h)
