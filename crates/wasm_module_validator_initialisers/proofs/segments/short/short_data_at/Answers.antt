use Rattle.std.proofs.Common.{◌≡◌, ◌-◌, ◌≤◌, ℕ, List, length, take, drop, subst, arith}
use Rattle.std.proofs.lemmas.List.{take_all, length-drop}
use Rattle.wasm_types.specs.decoding.Leb.{u32}
use Rattle.wasm_types.specs.decoding.Numbers.{GivesAt}
use Rattle.wasm_operators_bodies.specs.declared.short.ShortConstant.{ShortConstant}
use Rattle.wasm_operators_bodies.specs.declared.short.ShortConstant.TheVariants as short
use Rattle.wasm_operators_bodies.specs.Short.{SpellsShort}
use Rattle.wasm_module_validator_initialisers.proofs.ShortData.{short_data}
use Rattle.wasm_module_validator_initialisers.proofs.segments.short.short_data_at.Goals as goal

pub returns : goal.returns
returns c =
    let text = c.args.bytes.now in
    let first = c.in-Some-eq0-default.first in
    let long = c.in-Some-I32-default.long in
    let slice = take (length text - first) (drop first text) in
    let all : slice ≡ drop first text = take_all (length text - first) (drop first text) (omega (arith, length-drop first text)) in
    let none : GivesAt u32 text c.args.at 0 first = subst (λ (n : ℕ). GivesAt u32 text c.args.at n first) c.in-Some-eq0-default.field-0-0-test c.in-Some-eq0-default.ensures.found in
    let told : SpellsShort short.I32 (take long slice) = subst (λ (k : ShortConstant). SpellsShort k (take long slice)) c.in-Some-I32-default.field-0-0-is c.in-Some-I32-default.ensures.spelled in
    let number = subst (λ (r : List ℕ). SpellsShort short.I32 (take long r)) all told in
    let inside = subst (λ (r : List ℕ). long ≤ length r) all c.in-Some-I32-default.ensures.inside in
    short_data text c.args.at first long c.in-Some.count c.in-Some.start none inside number c.in-Some.ensures.found c.if-count-bytes.false
