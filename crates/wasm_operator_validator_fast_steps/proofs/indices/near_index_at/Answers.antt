-- Numbers of one byte and of two.
use Rattle.std.proofs.Common.{arith}
use Rattle.wasm_types_decoding.proofs.AtOnce.{unsigned_of_two}
use Rattle.wasm_operator_validator_fast_steps.proofs.Indexed.{index_of_one}
use Rattle.wasm_operator_validator_fast_steps.proofs.indices.near_index_at.Goals as goal

pub returns-then-first-lt128 : goal.returns-then-first-lt128
returns-then-first-lt128 c = index_of_one c.args.bytes.now c.args.at c.requires c.if-first-lt128.true

pub returns-then-second-lt128 : goal.returns-then-second-lt128
returns-then-second-lt128 c = unsigned_of_two c.args.bytes.now c.args.at (omega (arith, c.if-at-bytes.true)) 2 4 c.if-first-lt128.false c.if-second-lt128.true
