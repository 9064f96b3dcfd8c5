use Rattle.std.proofs.Common.{◌≡◌, ◌+◌, ◌-◌, ◌∙◌, ℕ, take, drop, sym, ap, subst, arith}
use Rattle.std.specs.Prelude.{IsUtf8}
use Rattle.wasm_module_validator_declarations.proofs.ShortItems.{short_name}
use Rattle.wasm_module_validator_declarations.proofs.short.short_name_at.Goals as goal

pub returns-clause-name : goal.returns-clause-name
returns-clause-name c =
    let text = c.args.bytes.now in
    let count = c.in-Some.count in
    let first = c.in-Some.first in
    let long : first + count - first ≡ count = omega arith in
    let is = c.in-Ok.ensures.cases.0 ∙ ap (λ (n : ℕ). take n (drop first text)) long in
    short_name text count first c.args.limits.now.string_bytes c.in-Ok.name.now c.args.at c.in-Some.ensures.found (omega (arith, c.if-count-most.false)) is
    (subst IsUtf8 (sym c.in-Ok.ensures.cases.0) c.in-Ok.ensures.cases.1) (omega (arith, c.if-count-limits.false))
