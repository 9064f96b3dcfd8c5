-- A size has four bytes at most before its fifth, so its units are small.
use Rattle.std.proofs.Common.{◌≡◌, ℕ, zero, suc, ◌+◌, ◌-◌, ◌*◌, ◌^◌, ◌<◌, ◌≤◌, min, refl, arith}
use Rattle.wasm_sections_parser.specs.declared.needs.Measured.{Measured}
use Rattle.wasm_sections_parser.specs.Needs.{wanted, least_within}
use Rattle.wasm_sections_parser.proofs.needs.+least_within.Goals as goal

unit_is_small : (left unit : ℕ) → left ≤ 4 → unit ≡ 128 ^ (4 - left) → unit ≤ 268435456
unit_is_small zero unit few e = omega (arith, e)
unit_is_small (suc zero) unit few e = omega (arith, e)
unit_is_small (suc (suc zero)) unit few e = omega (arith, e)
unit_is_small (suc (suc (suc zero))) unit few e = omega (arith, e)
unit_is_small (suc (suc (suc (suc zero)))) unit few e = omega (arith, e)
unit_is_small (suc (suc (suc (suc (suc left))))) unit few e = absurd (omega (arith, few))

unit_grows : (left unit : ℕ) → 0 < left → left ≤ 4 → unit ≡ 128 ^ (4 - left) → 128 * unit ≡ 128 ^ (4 - (left - 1))
unit_grows zero unit some few e = absurd (omega (arith, some))
unit_grows (suc zero) unit some few e = omega (arith, e)
unit_grows (suc (suc zero)) unit some few e = omega (arith, e)
unit_grows (suc (suc (suc zero))) unit some few e = omega (arith, e)
unit_grows (suc (suc (suc (suc zero)))) unit some few e = omega (arith, e)
unit_grows (suc (suc (suc (suc (suc left))))) unit some few e = absurd (omega (arith, few))

none_left : (m : Measured) (left low high unit room : ℕ) → left ≡ 0 → 1 ≡ least_within m left low high unit room
unfolding least_within
none_left m zero low high unit room e = refl
none_left m (suc left) low high unit room e = absurd (omega (arith, e))

one_left : (m : Measured) (left low high unit room : ℕ) → 0 < left
    → 1 + min (min (wanted m (room - 1) low) (wanted m (room - 1) (high + 127 * unit))) (least_within m (left - 1) low (high + 127 * unit) (128 * unit) (room - 1))
    ≡ least_within m left low high unit room
unfolding least_within
one_left m zero low high unit room some = absurd (omega (arith, some))
one_left m (suc left) low high unit room some = let e : suc left - 1 ≡ left = omega arith in rw e refl

pub returns-then-left-eq0-clause-answer : goal.returns-then-left-eq0-clause-answer
returns-then-left-eq0-clause-answer t c = none_left c.args.measured c.args.left c.args.low c.args.high c.args.unit c.args.room c.if-left-eq0.true

pub overflow_mul-top : goal.overflow_mul-top
overflow_mul-top t c = omega (arith, unit_is_small c.args.left c.args.unit c.requires.left c.requires.unit)

pub overflow_add-top : goal.overflow_add-top
overflow_add-top t c = omega (arith, unit_is_small c.args.left c.args.unit c.requires.left c.requires.unit, c.requires.high)

pub overflow_mul-unit : goal.overflow_mul-unit
overflow_mul-unit t c = omega (arith, unit_is_small c.args.left c.args.unit c.requires.left c.requires.unit)

pub least_within-later-requires : goal.least_within-later-requires
least_within-later-requires t c = (
  omega arith,
  (omega arith, (unit_grows c.args.left c.args.unit (omega arith) c.requires.left c.requires.unit, omega (arith, c.requires.high))),
)

pub returns-clause-answer : goal.returns-clause-answer
returns-clause-answer t c =
    rw (c.min.ensures, c.min-now.ensures, c.wanted.ensures, c.wanted-2.ensures, c.least_within-later.ensures.answer, c.saturating_sub-behind.ensures)
    (one_left c.args.measured c.args.left c.args.low c.args.high c.args.unit c.args.room (omega arith))
