use Rattle.std.proofs.Common.{◌∙◌, Some, ap, sym}
use Rattle.wasm_operator_validator_fast_tables.specs.Tables.{IsElementIn}
use Rattle.wasm_operator_validator_fast_tables.proofs.Knowing.{each_more}
use Rattle.wasm_operator_validator_fast_tables.proofs.elements.elements_of.Goals as goal

pub loop-at-preserved : goal.loop-at-preserved
loop-at-preserved g c =
    let m = g.R.WasmModuleResources.meaning c.args.resources.now in
    each_more (IsElementIn m.ids m.«module») c.loop-at.elements.items c.push.new.self.items c.code_of_reference.result c.loop-at.at c.in-Ok.ensures.items
    c.loop-at.invariant
    (λ lt. sym c.in-Some.ensures ∙ ap Some (c.code_of_reference.ensures lt m))
