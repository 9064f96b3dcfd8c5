use Rattle.std.proofs.Common.{rules, ◌≡◌, ◌∙◌, ◌*◌, ◌+◌, ◌<◌, ◌≤◌, ℕ, List, [], ◌∷◌, length, ap, sym, subst, refl, arith, true, false, Some, None}
use Rattle.std.specs.Prelude.{slice_get}
use Rattle.wasm_module_validator_type_storage.proofs.Ancestors.{far_there, end_found}
use Rattle.wasm_module_validator_type_storage.proofs.displays.finding.end_of_block.Goals as goal

pub index-requires : goal.index-requires
index-requires c = far_there c.args.supertypes.now.items c.args.entries.now.items c.args.a c.args.lower c.requires.lower c.args.block c.requires.block

pub returns-clause-above : goal.returns-clause-above
returns-clause-above c =
    (end_found c.args.supertypes.now.items c.args.entries.now.items c.args.a c.args.lower c.requires.lower c.args.block c.index.result.now c.requires.block c.index.ensures).0

pub returns-clause-depth : goal.returns-clause-depth
returns-clause-depth c =
    (end_found c.args.supertypes.now.items c.args.entries.now.items c.args.a c.args.lower c.requires.lower c.args.block c.index.result.now c.requires.block c.index.ensures).1
