use Rattle.std.proofs.Common.{sym, arith}
use Rattle.wasm_module_validator_rows.proofs.Filling.{filled_more, filled_end}
use Rattle.wasm_module_validator_rows.proofs.Taking.{ids_counted}
use Rattle.wasm_module_validator_rows.proofs.writing.write_ids.Goals as goal

pub loop-i-preserved : goal.loop-i-preserved
loop-i-preserved c = filled_more _ _ _ _ _ c.loop-i-test.true c.loop-i.invariant (sym c.in-Some.ensures)

pub returns-in-None-clause-ids : goal.returns-in-None-clause-ids
returns-in-None-clause-ids c = let lt = c.loop-i-test.true in filled_end _ _ _ _ (omega arith) c.loop-i.invariant (sym c.in-None.ensures)

pub returns-in-None-clause-count : goal.returns-in-None-clause-count
returns-in-None-clause-count c = ids_counted c.args.types.now.spaces c.core_type_count_in_module.result c.core_type_count_in_module.ensures

pub returns-clause-count : goal.returns-clause-count
returns-clause-count c = ids_counted c.args.types.now.spaces c.core_type_count_in_module-2.result c.core_type_count_in_module-2.ensures
