-- Arguments whose offset is one byte or two.
use Rattle.std.proofs.Common.{◌<◌, get_or, arith}
use Rattle.wasm_operator_validator_fast_steps.proofs.Indexed.{argument_of_one, argument_of_two}
use Rattle.wasm_operator_validator_fast_steps.proofs.indices.argument_at.Goals as goal

pub returns-then-bytes-at-lt128 : goal.returns-then-bytes-at-lt128
returns-then-bytes-at-lt128 c =
    let a = c.requires.inside in
    let small : get_or c.args.bytes.now c.args.at 0 < 16 = omega (arith, c.if-bytes-at.false, c.requires.few) in
    let b = c.if-bytes-at-le2.false in
    argument_of_one c.args.tables.now c.args.bytes.now c.args.at c.args.natural small (omega (arith, a, b)) c.if-bytes-at.false c.if-address-ge-NO_CODE.false c.if-bytes-at-lt128.true

pub returns-then-bytes-at-lt128-2 : goal.returns-then-bytes-at-lt128-2
returns-then-bytes-at-lt128-2 c =
    let a = c.requires.inside in
    let small : get_or c.args.bytes.now c.args.at 0 < 16 = omega (arith, c.if-bytes-at.false, c.requires.few) in
    let b = c.if-bytes-at-le2.false in
    argument_of_two c.args.tables.now c.args.bytes.now c.args.at c.args.natural small (omega (arith, a, b)) c.if-bytes-at.false c.if-address-ge-NO_CODE.false c.if-bytes-at-lt128.false (omega arith) c.if-bytes-at-lt128-2.true
