use Rattle.std.proofs.Common.{rules, ◌≡◌, ◌∙◌, ◌*◌, ◌+◌, ◌<◌, ◌≤◌, ℕ, List, [], ◌∷◌, length, ap, sym, subst, refl, arith, true, false, Some, None}
use Rattle.std.specs.Prelude.{slice_get}
use Rattle.wasm_module_validator_type_storage.proofs.Ancestors.{within_block, behind_block, all_far_there}
use Rattle.wasm_module_validator_type_storage.proofs.displays.filling.display_below.Goals as goal

pub returns-then-upper-lt15-clause-has : goal.returns-then-upper-lt15-clause-has
returns-then-upper-lt15-clause-has c =
    within_block c.args.supertypes.now.items c.args.entries.now.items c.display_within.new.entries.items c.display_within.ensures.keeps c.args.own c.display_within.result c.args.above
    c.args.upper c.requires.declared c.requires.upper (omega (arith, c.if-upper-lt15.true)) c.display_within.ensures.place c.display_within.ensures.blocks
    c.display_within.ensures.far c.display_within.ensures.near

pub display_behind-requires-clause-there : goal.display_behind-requires-clause-there
display_behind-requires-clause-there c = all_far_there c.args.supertypes.now.items c.args.entries.now.items c.args.above c.args.upper c.requires.upper

pub returns-clause-has : goal.returns-clause-has
returns-clause-has c =
    behind_block c.args.supertypes.now.items c.args.entries.now.items c.display_behind.new.entries.items c.display_behind.ensures.keeps c.args.own c.display_behind.result c.args.above
    c.args.upper c.requires.declared c.requires.upper (omega (arith, c.if-upper-lt15.false)) c.display_behind.ensures.place c.display_behind.ensures.blocks
    c.display_behind.ensures.near c.display_behind.ensures.far
