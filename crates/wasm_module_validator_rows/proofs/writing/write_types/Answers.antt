use Rattle.std.proofs.Common.{◌∙◌, sym, arith}
use Rattle.wasm_module_validator_rows.proofs.Counting.{rows_counted}
use Rattle.wasm_module_validator_rows.proofs.Filling.{filled_more, filled_end}
use Rattle.wasm_module_validator_rows.proofs.writing.write_types.Goals as goal

pub loop-i-preserved : goal.loop-i-preserved
loop-i-preserved c = filled_more _ _ _ _ _ c.loop-i-test.true c.loop-i.invariant (sym c.in-Some.ensures)

pub returns-in-None-clause-count : goal.returns-in-None-clause-count
returns-in-None-clause-count c = c.type_count-total.ensures ∙ sym (rows_counted c.args.types.now.groups)

pub returns-in-None-clause-rows : goal.returns-in-None-clause-rows
returns-in-None-clause-rows c = let lt = c.loop-i-test.true in filled_end _ _ _ _ (omega arith) c.loop-i.invariant (sym c.in-None.ensures)

pub returns-clause-count : goal.returns-clause-count
returns-clause-count c = c.type_count-total.ensures ∙ sym (rows_counted c.args.types.now.groups)
