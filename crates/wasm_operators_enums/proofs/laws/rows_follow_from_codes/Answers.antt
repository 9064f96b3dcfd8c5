use Rattle.wasm_operators_enums.proofs.Codes.{rows_follow, kinds_follow}
use Rattle.wasm_operators_enums.proofs.laws.rows_follow_from_codes.Goals as goal

pub returns-clause-rows : goal.returns-clause-rows
returns-clause-rows c = rows_follow

pub returns-clause-kinds : goal.returns-clause-kinds
returns-clause-kinds c = kinds_follow
