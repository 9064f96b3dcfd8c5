use Rattle.std.proofs.Common.{arith}
use Rattle.wasm_operator_validator_fast_steps.proofs.Indexed.{both_parts}
use Rattle.wasm_operator_validator_fast_steps.proofs.indices.long_index_at.Goals as goal

pub returns : goal.returns
returns c = λ some. both_parts c.args.bytes.now c.args.at c.in-Some.index c.in-Some.end c.in-Some.ensures.found (omega arith)
