-- Numbers of one byte to five.
use Rattle.std.proofs.Common.{arith}
use Rattle.wasm_operator_validator_fast_steps.proofs.Indexed.{ends_at_one, ends_at_two, ends_at_three, ends_at_four, five_low, five_high}
use Rattle.wasm_operator_validator_fast_steps.proofs.indices.i32_end.Goals as goal

pub returns-then-bytes-at-lt128 : goal.returns-then-bytes-at-lt128
returns-then-bytes-at-lt128 c =
    let a = c.requires in
    ends_at_one 3 4 c.args.bytes.now c.args.at (omega (arith, a)) c.if-bytes-at-lt128.true

pub returns-then-bytes-at-lt128-2 : goal.returns-then-bytes-at-lt128-2
returns-then-bytes-at-lt128-2 c =
    let a = c.requires in
    let b = c.if-bytes-at-lt5.false in
    ends_at_two 2 4 c.args.bytes.now c.args.at (omega (arith, a, b)) c.if-bytes-at-lt128.false c.if-bytes-at-lt128-2.true

pub returns-then-bytes-at-lt128-3 : goal.returns-then-bytes-at-lt128-3
returns-then-bytes-at-lt128-3 c =
    let a = c.requires in
    let b = c.if-bytes-at-lt5.false in
    ends_at_three 1 4 c.args.bytes.now c.args.at (omega (arith, a, b)) c.if-bytes-at-lt128.false c.if-bytes-at-lt128-2.false c.if-bytes-at-lt128-3.true

pub returns-then-bytes-at-lt128-4 : goal.returns-then-bytes-at-lt128-4
returns-then-bytes-at-lt128-4 c =
    let a = c.requires in
    let b = c.if-bytes-at-lt5.false in
    ends_at_four 0 4 c.args.bytes.now c.args.at (omega (arith, a, b)) c.if-bytes-at-lt128.false c.if-bytes-at-lt128-2.false c.if-bytes-at-lt128-3.false c.if-bytes-at-lt128-4.true

pub returns-then-last-lt8 : goal.returns-then-last-lt8
returns-then-last-lt8 c =
    let a = c.requires in
    let b = c.if-bytes-at-lt5.false in
    five_low c.args.bytes.now c.args.at (omega (arith, a, b)) c.if-bytes-at-lt128.false c.if-bytes-at-lt128-2.false c.if-bytes-at-lt128-3.false c.if-bytes-at-lt128-4.false c.if-last-lt8.true

pub returns : goal.returns
returns c =
    let a = c.requires in
    let b = c.if-bytes-at-lt5.false in
    five_high c.args.bytes.now c.args.at (omega (arith, a, b)) c.if-bytes-at-lt128.false c.if-bytes-at-lt128-2.false c.if-bytes-at-lt128-3.false c.if-bytes-at-lt128-4.false c.if-last-lt120.false c.if-last-ge128.false
