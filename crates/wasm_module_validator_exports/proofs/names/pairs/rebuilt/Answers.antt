use Rattle.std.proofs.Common.{rules, ◌≡◌, ◌∙◌, ◌++◌, ◌∷◌, ◌+◌, List, [], ap, subst, sym, take}
use Rattle.wasm_module_validator_exports.specs.declared.names.imports.KeptNames.{KeptNames}
use Rattle.wasm_module_validator_exports.specs.names.Imports.{AreKept, Holds, Pair, all_named, pairs_of}
use Rattle.wasm_module_validator_exports.proofs.Keeping.{kept_at, kept_front, one_further, read}
use Rattle.wasm_module_validator_exports.proofs.names.pairs.rebuilt.Goals as goal

pub name_of-name-requires : goal.name_of-name-requires
name_of-name-requires c =
    kept_at c.args.modules.now c.args.names.now c.args.pairs.now c.loop-i.i c.index-pairs-i.result c.requires
    (read c.args.pairs.now c.loop-i.i c.index-pairs-i.result (search rules) c.index-pairs-i.is)

pub settle-requires-clause-kept : goal.settle-requires-clause-kept
settle-requires-clause-kept c =
    subst (AreKept c.args.modules.now c.args.names.now) (sym c.split_at.ensures.front) (kept_front c.args.modules.now c.args.names.now c.args.pairs.now c.loop-i.i c.requires)

pub loop-i-preserved : goal.loop-i-preserved
loop-i-preserved c =
    let ms = c.args.modules.now in
    let t = c.args.names.now in
    let ks = c.args.pairs.now in
    let m = c.module_of-module.result.now in
    let f = c.name_of-name.result.now in
    let before = pairs_of (all_named ms t (take c.loop-i.i ks)) in
    let mo = c.module_of-module.ensures in
    let na = c.name_of-name.ensures in
    let whole : pairs_of (all_named ms t c.split_at.result.0.now) ++ (m, f) ∷ [] ≡ pairs_of (all_named ms t (take (c.loop-i.i + 1) ks))
    = ap (λ (xs : List KeptNames). pairs_of (all_named ms t xs) ++ (m, f) ∷ []) c.split_at.ensures.front
    ∙ ((λ j. before ++ (mo j, na j) ∷ []) ∙ sym (one_further ms t ks c.loop-i.i c.index-pairs-i.result (search rules) c.index-pairs-i.is)) in
    subst (λ (ps : List Pair). Holds c.settle.new.slots.items c.settle.new.others ps) whole c.in-New.ensures.1
