use Rattle.std.proofs.Common.{rules, ◌≡◌, ◌∙◌, ◌*◌, ◌+◌, ◌<◌, ◌≤◌, ℕ, List, [], ◌∷◌, length, ap, sym, subst, refl, arith, true, false, Some, None}
use Rattle.std.specs.Prelude.{slice_get}
use Rattle.std.proofs.lemmas.Bool.{eqb-true, eq-eqb}
use Rattle.wasm_module_validator_type_storage.proofs.Ancestors.{near_there, near_found, too_deep}
use Rattle.wasm_module_validator_type_storage.proofs.displays.finding.is_below_near.Goals as goal

pub returns-then-place-lower : goal.returns-then-place-lower
returns-then-place-lower c =
    let no = too_deep c.args.supertypes.now.items c.args.entries.now.items c.args.a c.args.b c.args.lower c.requires.lower c.args.place c.requires.depth (omega (arith, c.if-place-lower.true)) in
    (λ e. let z : false ≡ true = e in absurd cc, λ u. absurd (no u))

pub index-requires : goal.index-requires
index-requires c =
    near_there c.args.supertypes.now.items c.args.entries.now.items c.args.a c.args.lower c.requires.lower c.args.place (omega (arith, c.if-place-lower.false))

pub returns : goal.returns
returns c =
    let f = near_found c.args.supertypes.now.items c.args.entries.now.items c.args.a c.args.b c.args.lower c.requires.lower c.args.place c.requires.depth
    (omega (arith, c.if-place-lower.false)) c.index.result.now c.index.ensures in (
      λ e. f.0 (ap (λ n. record { 0 = n }) (eqb-true c.index.result.now.0 c.args.b.0 (sym c.eq.ensures ∙ e))),
      λ u. c.eq.ensures ∙ eq-eqb c.index.result.now.0 c.args.b.0 (ap (λ y. y.0) (f.1 u)),
    )
