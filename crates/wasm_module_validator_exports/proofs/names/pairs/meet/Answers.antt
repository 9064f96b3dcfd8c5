use Rattle.std.proofs.Common.{◌≡◌, ◌∙◌, ℕ, ap, length, subst}
use Rattle.wasm_module_validator_exports.specs.names.Exports.{beside, slot_of}
use Rattle.wasm_module_validator_exports.specs.names.Imports.{HasMetAt, all_named, pairs_of, slot_for}
use Rattle.wasm_module_validator_exports.proofs.names.pairs.meet.Goals as goal

pub returns : goal.returns
returns c =
    let slots = c.args.slots.now in
    let ps = pairs_of (all_named c.args.modules.now c.args.names.now c.args.pairs.now) in
    let m = c.args.module.now in
    let f = c.args.name.now in
    let at : c.slot-at.result ≡ slot_for m f (length slots) = c.slot-at.ensures ∙ ap (λ (v : ℕ). slot_of v (length slots)) c.number.ensures in
    c.both.ensures slots ps m f (subst (λ (q : ℕ). HasMetAt slots ps m f q c.meet_at-first.result) at c.meet_at-first.ensures)
    (subst (λ (q : ℕ). HasMetAt slots ps m f (beside q) c.meet_at-second.result) at c.meet_at-second.ensures)
