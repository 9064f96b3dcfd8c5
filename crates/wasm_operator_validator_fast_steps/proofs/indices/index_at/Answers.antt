-- Numbers of one byte, of two and of five.
use Rattle.std.proofs.Common.{arith}
use Rattle.wasm_types_decoding.proofs.AtOnce.{unsigned_of_one, unsigned_of_two}
use Rattle.wasm_operator_validator_fast_steps.proofs.Indexed.{unsigned_of_five}
use Rattle.wasm_operator_validator_fast_steps.proofs.indices.index_at.Goals as goal

pub returns-then-first-lt128 : goal.returns-then-first-lt128
returns-then-first-lt128 c =
    let a = c.requires in
    let b = c.if-bytes-at-ge5.true in
    unsigned_of_one c.args.bytes.now c.args.at (omega (arith, a, b)) 3 4 c.if-first-lt128.true

pub returns-then-second-lt128 : goal.returns-then-second-lt128
returns-then-second-lt128 c =
    let a = c.requires in
    let b = c.if-bytes-at-ge5.true in
    unsigned_of_two c.args.bytes.now c.args.at (omega (arith, a, b)) 2 4 c.if-first-lt128.false c.if-second-lt128.true

pub returns-then-fifth-lt16 : goal.returns-then-fifth-lt16
returns-then-fifth-lt16 c =
    let a = c.requires in
    let b = c.if-bytes-at-ge5.true in
    unsigned_of_five c.args.bytes.now c.args.at _ (omega (arith, a, b)) c.if-first-lt128.false c.if-second-lt128.false c.if-third-ge128.true c.if-fourth-ge128.true c.if-fifth-lt16.true (omega arith)
