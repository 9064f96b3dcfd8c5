use Rattle.std.proofs.Common.{◌≡◌, ◌∙◌, ℕ, ap, length, subst}
use Rattle.wasm_module_validator_exports.specs.names.Exports.{HasMetAt, beside, exports_of, first_slot, names_of, slot_of}
use Rattle.wasm_module_validator_exports.proofs.names.slots.meet.Goals as goal

pub returns : goal.returns
returns c =
    let slots = c.args.slots.now in
    let names = names_of (exports_of c.args.names.now c.args.exports.now) in
    let n = c.args.name.now in
    let at : c.slot-at.result ≡ first_slot slots n = c.slot-at.ensures ∙ ap (λ (v : ℕ). slot_of v (length slots)) c.number.ensures in
    c.both.ensures slots names n (subst (λ (p : ℕ). HasMetAt slots names n p c.meet_at-first.result) at c.meet_at-first.ensures)
    (subst (λ (p : ℕ). HasMetAt slots names n (beside p) c.meet_at-second.result) at c.meet_at-second.ensures)
