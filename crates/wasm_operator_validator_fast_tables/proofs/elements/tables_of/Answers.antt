use Rattle.std.proofs.Common.{sym}
use Rattle.wasm_operator_validator_state.specs.resources.Meaning.{table_in}
use Rattle.wasm_operator_validator_fast_tables.specs.Tables.{IsTableIn}
use Rattle.wasm_operator_validator_fast_tables.proofs.Knowing.{each_more}
use Rattle.wasm_operator_validator_fast_tables.proofs.elements.tables_of.Goals as goal

pub loop-at-preserved : goal.loop-at-preserved
loop-at-preserved g c =
    let m = g.R.WasmModuleResources.meaning c.args.resources.now in
    each_more (IsTableIn m.ids m.«module») c.loop-at.tables.items c.push.new.self.items c.indexed_of.result c.loop-at.at c.in-Ok.ensures.items
    c.loop-at.invariant
    (λ lt. (table_in m c.in-Some.table, sym c.in-Some.ensures, c.indexed_of.ensures.index, c.indexed_of.ensures.code lt m))
