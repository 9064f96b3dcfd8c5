-- Numbers of one byte to five.
use Rattle.std.proofs.Common.{arith}
use Rattle.wasm_operator_validator_fast_steps.proofs.Indexed.{ends_at_one, ends_at_two, ends_at_three, ends_at_four, five_of_64}
use Rattle.wasm_operator_validator_fast_steps.proofs.indices.i64_end.Goals as goal

pub returns-then-bytes-at-lt128 : goal.returns-then-bytes-at-lt128
returns-then-bytes-at-lt128 c =
    let a = c.requires in
    ends_at_one 8 1 c.args.bytes.now c.args.at (omega (arith, a)) c.if-bytes-at-lt128.true

pub returns-then-bytes-at-lt128-2 : goal.returns-then-bytes-at-lt128-2
returns-then-bytes-at-lt128-2 c =
    let a = c.requires in
    let b = c.if-bytes-at-ge5.true in
    ends_at_two 7 1 c.args.bytes.now c.args.at (omega (arith, a, b)) c.if-bytes-at-lt128.false c.if-bytes-at-lt128-2.true

pub returns-then-bytes-at-lt128-3 : goal.returns-then-bytes-at-lt128-3
returns-then-bytes-at-lt128-3 c =
    let a = c.requires in
    let b = c.if-bytes-at-ge5.true in
    ends_at_three 6 1 c.args.bytes.now c.args.at (omega (arith, a, b)) c.if-bytes-at-lt128.false c.if-bytes-at-lt128-2.false c.if-bytes-at-lt128-3.true

pub returns-then-bytes-at-lt128-4 : goal.returns-then-bytes-at-lt128-4
returns-then-bytes-at-lt128-4 c =
    let a = c.requires in
    let b = c.if-bytes-at-ge5.true in
    ends_at_four 5 1 c.args.bytes.now c.args.at (omega (arith, a, b)) c.if-bytes-at-lt128.false c.if-bytes-at-lt128-2.false c.if-bytes-at-lt128-3.false c.if-bytes-at-lt128-4.true

pub returns-then-bytes-at-lt128-5 : goal.returns-then-bytes-at-lt128-5
returns-then-bytes-at-lt128-5 c =
    let a = c.requires in
    let b = c.if-bytes-at-ge5.true in
    five_of_64 c.args.bytes.now c.args.at (omega (arith, a, b)) c.if-bytes-at-lt128.false c.if-bytes-at-lt128-2.false c.if-bytes-at-lt128-3.false c.if-bytes-at-lt128-4.false c.if-bytes-at-lt128-5.true
