use Rattle.wasm_module_validator_initialisers.proofs.ShortGlobals.{holds}
use Rattle.wasm_module_validator_initialisers.proofs.adding.short.holds_integer.Goals as goal

pub returns : goal.returns
returns g c h =
    holds (g.R.WasmModuleResources.meaning c.args.resources.now) c.args.wide c.args.index c.in-Some.global c.in-Some.ensures c.if-global.false (c.is_of.ensures h)
