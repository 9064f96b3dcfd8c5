use Rattle.std.proofs.Common.{refl, rules}
use Rattle.wasm_operators_enums.specs.Op as op
use Rattle.wasm_operators_enums.specs.declared.control.ControlOperator.TheVariants as control
use Rattle.wasm_operators_frequent.proofs.ShortReading.{told_alone}
use Rattle.wasm_operators_bodies.specs.ShortLaws.{short_spelled}
use Rattle.wasm_operators_bodies.proofs.short.other_constant.Goals as goal

pub returns-clause-spelled : goal.returns-clause-spelled
returns-clause-spelled c =
    short_spelled c.in-Some.constant c.args.bytes.now c.in-Some.end c.in-Some.ensures
    (λ features. told_alone features c.args.bytes.now c.in-Some.end 11 11 (search rules) refl (op.Control control.End) refl refl _ refl refl refl refl)
