use Rattle.wasm_operator_validator_soundness.proofs.Answering.{answers_exist}
use Rattle.wasm_operator_validator_soundness.proofs.Beginning.{calls_begin, nulls_given, nulls_one}
use Rattle.wasm_operator_validator_soundness.proofs.Rows.{table_answered}
use Rattle.wasm_operator_validator_soundness.proofs.calls_may_begin.Goals as goal

pub returns-clause-begin : goal.returns-clause-begin
returns-clause-begin c = calls_begin

pub returns-clause-null : goal.returns-clause-null
returns-clause-null c = nulls_given

pub returns-clause-one_null : goal.returns-clause-one_null
returns-clause-one_null c = nulls_one

pub returns-clause-answered : goal.returns-clause-answered
returns-clause-answered c = answers_exist

pub returns-clause-table : goal.returns-clause-table
returns-clause-table c = table_answered
