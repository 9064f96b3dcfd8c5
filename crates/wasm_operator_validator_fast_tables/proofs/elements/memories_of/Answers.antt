use Rattle.std.proofs.Common.{sym}
use Rattle.wasm_operator_validator_fast_tables.specs.Tables.{HasMemoryAt}
use Rattle.wasm_operator_validator_fast_tables.proofs.Knowing.{each_more}
use Rattle.wasm_operator_validator_fast_tables.proofs.elements.memories_of.Goals as goal

pub loop-at-preserved : goal.loop-at-preserved
loop-at-preserved g c =
    let m = g.R.WasmModuleResources.meaning c.args.resources.now in
    each_more (HasMemoryAt m.«module») c.loop-at.memories.items c.push.new.self.items c.address_of.result c.loop-at.at c.in-Ok.ensures.items
    c.loop-at.invariant
    (c.in-Some.memory, sym c.in-Some.ensures, c.address_of.ensures)
