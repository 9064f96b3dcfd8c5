use Rattle.wasm_operator_validator_fast_tables.proofs.Defaulting.{number_default, null_default}
use Rattle.wasm_operator_validator_fast_tables.proofs.codes.has_default.Goals as goal

pub returns-then-code-lt8 : goal.returns-then-code-lt8
returns-then-code-lt8 c = λ e. number_default c.args.code c.if-code-lt8.true

pub returns : goal.returns
returns c = λ e. null_default c.args.code e
