use Rattle.std.proofs.Common.{rules, ◌≡◌, ◌∙◌, ◌*◌, ◌+◌, ◌<◌, ◌≤◌, ℕ, List, [], ◌∷◌, length, ap, sym, subst, refl, arith, true, false, Some, None}
use Rattle.std.specs.Prelude.{slice_get}
use Rattle.wasm_module_validator_type_storage.proofs.Filling.{roomier_kept, same_kept}
use Rattle.wasm_module_validator_type_storage.proofs.displays.Displays.reserve.Goals as goal

pub invariant_of-self-in_err-reserve-2 : goal.invariant_of-self-in_err-reserve-2
invariant_of-self-in_err-reserve-2 c =
    roomier_kept c.self.inside.supertypes c.reserve.new.self c.self.inside.displays c.reserve-2.new.self c.self.inside.entries c.self.inside.entries c.self.inside.room
    c.reserve.ensures.items c.reserve-2.ensures.items refl c.reserve.ensures.room c.reserve-2.ensures.room (omega arith) c.self.invariant

pub invariant_of-self-in_err-reserve-3 : goal.invariant_of-self-in_err-reserve-3
invariant_of-self-in_err-reserve-3 c =
    roomier_kept c.self.inside.supertypes c.reserve.new.self c.self.inside.displays c.reserve-2.new.self c.self.inside.entries c.reserve-3.new.self c.self.inside.room
    c.reserve.ensures.items c.reserve-2.ensures.items c.reserve-3.ensures.items c.reserve.ensures.room c.reserve-2.ensures.room c.reserve-3.ensures.room c.self.invariant

pub invariant_of-self-2 : goal.invariant_of-self-2
invariant_of-self-2 c =
    let few = c.are_few.ensures c.if-not-are_few.false in
    same_kept c.self.inside.supertypes c.reserve.new.self c.self.inside.displays c.reserve-2.new.self c.self.inside.entries c.reserve-3.new.self c.self.inside.room c.args.additional
    c.reserve.ensures.items c.reserve-2.ensures.items c.reserve-3.ensures.items (omega (arith, few, c.len.ensures)) c.in_ok-reserve.ensures.ok c.in_ok-reserve-2.ensures.ok
    (omega (arith, c.in_ok-reserve-3.ensures.ok)) c.self.invariant
