use Rattle.std.proofs.Common.{sym}
use Rattle.wasm_module_validator_rows.proofs.Filling.{filled_more}
use Rattle.wasm_module_validator_rows.proofs.writing.write_parts.Goals as goal

pub loop-i-preserved : goal.loop-i-preserved
loop-i-preserved c = filled_more _ _ _ _ _ c.loop-i-test.true c.loop-i.invariant (sym c.in-Some.ensures)
