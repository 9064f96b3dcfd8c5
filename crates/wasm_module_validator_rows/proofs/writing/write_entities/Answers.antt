use Rattle.std.proofs.Common.{sym, arith}
use Rattle.wasm_module_validator_rows.proofs.Filling.{filled_more, filled_end}
use Rattle.wasm_module_validator_rows.proofs.writing.write_entities.Goals as goal

pub loop-i-preserved : goal.loop-i-preserved
loop-i-preserved c = filled_more _ _ _ _ _ c.loop-i-test.true c.loop-i.invariant (sym c.in-Some.ensures)

pub returns-in-None-clause-rows : goal.returns-in-None-clause-rows
returns-in-None-clause-rows c = let lt = c.loop-i-test.true in filled_end _ _ _ _ (omega arith) c.loop-i.invariant (sym c.in-None.ensures)
