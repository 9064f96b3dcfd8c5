-- Numbers of one byte and of two.
use Rattle.std.proofs.Common.{arith}
use Rattle.wasm_types_decoding.proofs.AtOnce.{signed_of_one, signed_of_two}
use Rattle.wasm_types_decoding.proofs.short.short_s33_at.Goals as goal

pub returns-then-first-lt128-clause-found : goal.returns-then-first-lt128-clause-found
returns-then-first-lt128-clause-found c = signed_of_one c.args.bytes.now c.args.at c.if-at-bytes.true 3 5 _ c.if-first-lt128.true c.seven_bits.ensures

pub returns-then-second-lt128-clause-found : goal.returns-then-second-lt128-clause-found
returns-then-second-lt128-clause-found c = signed_of_two c.args.bytes.now c.args.at c.if-at-bytes.true 2 5 _ c.if-first-lt128.false
    c.if-second-lt128.true (omega arith) c.two_groups.ensures
