use Rattle.std.proofs.Common.{rules, ◌≡◌, ◌∙◌, ◌*◌, ◌+◌, ◌<◌, ◌≤◌, ℕ, List, [], ◌∷◌, length, ap, sym, subst, refl, arith, true, false, Some, None}
use Rattle.std.specs.Prelude.{slice_get}
use Rattle.wasm_module_validator_type_storage.proofs.Ancestors.{deeper_block, own_block, end_block, by_end}
use Rattle.wasm_module_validator_type_storage.proofs.Filling.{end_shallow}
use Rattle.wasm_module_validator_type_storage.specs.displays.Entries.{IsDisplayed}
use Rattle.wasm_module_validator_type_storage.proofs.displays.finding.is_below.Goals as goal

pub returns-then-upper-lower-clause-below : goal.returns-then-upper-lower-clause-below
returns-then-upper-lower-clause-below c =
    let no = deeper_block c.args.supertypes.now.items c.args.entries.now.items c.args.a c.args.b c.in-Some.lower c.in-Some-display_of.upper
    (c.requires c.args.a c.in-Some.lower c.in-Some.ensures) (c.requires c.args.b c.in-Some-display_of.upper c.in-Some-display_of.ensures) (omega (arith, c.if-upper-lower.true)) in
    (λ e. let z : false ≡ true = e in absurd cc, λ u. absurd (no u))

pub is_below_near-requires-2-clause-depth : goal.is_below_near-requires-2-clause-depth
is_below_near-requires-2-clause-depth c =
    end_block c.args.supertypes.now.items c.args.entries.now.items c.args.a c.args.b c.in-Some.lower c.in-Some-display_of.upper
    (c.requires c.args.a c.in-Some.lower c.in-Some.ensures) (c.requires c.args.b c.in-Some-display_of.upper c.in-Some-display_of.ensures)
    c.end_of_block-end.result c.in-Some-display_of-2.whole (omega (arith, c.if-upper-lower.false, c.if-upper-lower-2.false))
    c.end_of_block-end.ensures.above c.end_of_block-end.ensures.depth
    (c.requires c.end_of_block-end.result c.in-Some-display_of-2.whole c.in-Some-display_of-2.ensures)

pub returns-clause-below : goal.returns-clause-below
returns-clause-below c =
    by_end c.args.supertypes.now.items c.args.entries.now.items c.args.a c.args.b c.in-Some.lower c.in-Some-display_of.upper
    (c.requires c.args.a c.in-Some.lower c.in-Some.ensures) (c.requires c.args.b c.in-Some-display_of.upper c.in-Some-display_of.ensures)
    c.end_of_block-end.result c.in-Some-display_of-2.whole (omega (arith, c.if-upper-lower.false, c.if-upper-lower-2.false))
    c.end_of_block-end.ensures.above c.end_of_block-end.ensures.depth
    (c.requires c.end_of_block-end.result c.in-Some-display_of-2.whole c.in-Some-display_of-2.ensures) c.is_below_near-2.result c.is_below_near-2.ensures

pub returns-in_default-clause-told : goal.returns-in_default-clause-told
returns-in_default-clause-told c = λ all s t. let not : IsDisplayed c.args.displays.now.items c.args.a → ⊥ = search rules in absurd (not (all c.args.a s))

pub returns-in_default-display_of-clause-told : goal.returns-in_default-display_of-clause-told
returns-in_default-display_of-clause-told c = λ all s t. let not : IsDisplayed c.args.displays.now.items c.args.b → ⊥ = search rules in absurd (not (all c.args.b t))

pub returns-in_default-display_of-2-clause-told : goal.returns-in_default-display_of-2-clause-told
returns-in_default-display_of-2-clause-told c = λ all s t.
    let not : IsDisplayed c.args.displays.now.items c.end_of_block-end.result → ⊥ = search rules in
    let lower = c.requires c.args.a c.in-Some.lower c.in-Some.ensures in
    absurd (not (all c.end_of_block-end.result
    (end_shallow c.args.supertypes.now.items c.args.a c.end_of_block-end.result c.in-Some.lower.blocks c.in-Some.lower.place c.in-Some-display_of.upper.blocks s lower.depth
    (omega (arith, c.if-upper-lower.false, c.if-upper-lower-2.false)) c.end_of_block-end.ensures.depth)))
