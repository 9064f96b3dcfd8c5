use Rattle.std.proofs.Common.{◌≡◌, get_or, rules, arith}
use Rattle.wasm_operators_bodies.specs.ShortLaws.{null_spelled}
use Rattle.wasm_operators_bodies.proofs.short.null_at.Goals as goal

pub returns-clause-spelled : goal.returns-clause-spelled
returns-clause-spelled c =
    let text = c.args.bytes.now in
    let first : get_or text 0 0 ≡ 0xd0 = search rules in
    let last : get_or text 2 0 ≡ 0x0b = search rules in
    null_spelled c.in-Some.ty text (omega (arith, c.if-long-lt3.false)) first c.in-Some.ensures last
