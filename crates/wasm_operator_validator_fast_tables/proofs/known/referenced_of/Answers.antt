use Rattle.wasm_operator_validator_fast_tables.proofs.Knowing.{referenced_more}
use Rattle.wasm_operator_validator_fast_tables.proofs.known.referenced_of.Goals as goal

pub loop-at-preserved : goal.loop-at-preserved
loop-at-preserved g c =
    referenced_more (g.R.WasmModuleResources.meaning c.args.resources.now).«module» c.loop-at.referenced.items c.push.new.self.items c.is_function_referenced-may.result c.loop-at.at
    c.in-Ok.ensures.items c.is_function_referenced-may.ensures c.loop-at.invariant
