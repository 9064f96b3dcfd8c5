use Rattle.std.proofs.Common.{rules, ◌≡◌, ◌∙◌, ◌*◌, ◌+◌, ◌<◌, ◌≤◌, ℕ, List, [], ◌∷◌, length, ap, sym, subst, refl, arith, true, false, Some, None}
use Rattle.std.specs.Prelude.{slice_get}
use Rattle.wasm_module_validator_type_storage.proofs.Ancestors.{alone}
use Rattle.wasm_module_validator_type_storage.proofs.Filling.{lacks}
use Rattle.wasm_module_validator_type_storage.specs.displays.Entries.{HasDisplay, IsDisplayed, alike}
use Rattle.wasm_module_validator_type_storage.proofs.displays.filling.next_display.Goals as goal

pub returns-in_default-clause-has : goal.returns-in_default-clause-has
returns-in_default-clause-has c =
    let none : slice_get c.args.supertypes.now.items c.args.own.0 ≡ Some None = search rules in
    alone c.args.supertypes.now.items c.args.entries.now.items c.display_alone.new.entries.items c.display_alone.ensures.keeps c.args.own c.display_alone.result none
    c.display_alone.ensures.place c.display_alone.ensures.blocks c.display_alone.ensures.own

pub returns-in_default-display_of-clause-has : goal.returns-in_default-display_of-clause-has
returns-in_default-display_of-clause-has c =
    let is : slice_get c.args.supertypes.now.items c.args.own.0 ≡ Some (Some c.in-Some.above) = search rules in
    let not : IsDisplayed c.args.displays.now.items c.in-Some.above → ⊥ = search rules in
    alike c.in-Some.above is not

pub display_below-requires-clause-upper : goal.display_below-requires-clause-upper
display_below-requires-clause-upper c = c.requires.right c.in-Some.above c.in-Some-display_of.upper c.in-Some-display_of.ensures

pub returns-clause-has : goal.returns-clause-has
returns-clause-has c =
    let is : slice_get c.args.supertypes.now.items c.args.own.0 ≡ Some (Some c.in-Some.above) = search rules in
    let has = c.requires.right c.in-Some.above c.in-Some-display_of.upper c.in-Some-display_of.ensures in
    lacks c.args.supertypes.now.items c.args.displays.now.items c.args.own c.in-Some.above (16 * c.in-Some-display_of.upper.blocks + c.in-Some-display_of.upper.place)
    (HasDisplay c.args.supertypes.now.items c.display_below.new.entries.items c.args.own) c.display_below.result is has.depth c.display_below.ensures.has
