use Rattle.std.proofs.Common.{◌<◌, length, map, refl, sym, ◌∙◌}
use Rattle.wasm_operator_validator_locals.specs.inits.Marks.{is_first}
use Rattle.wasm_operator_validator_locals.proofs.Marking.{IsUnset, set_first, set_list, set_sound}
use Rattle.wasm_operator_validator_locals.proofs.inits.LocalInits.set_unset.Goals as goal

pub invariant_of-self-2 : goal.invariant_of-self-2
invariant_of-self-2 c =
    let h : c.args.local_index < length (map is_first c.self.inside.marks.items) = rw (← c.self.view_is) at c.requires in
    let n : IsUnset c.self.inside.marks.items c.self.inside.inits.0 c.args.local_index = rw (← c.self.view_is) at (sym c.is_uninit.ensures ∙ c.if-not-is_uninit.false) in
    set_sound c.self.inside.marks.items c.mark_one.new.marks.items c.self.inside.inits.0 c.push.new.self.0 c.args.local_index c.self.inside.inits.1 c.push.new.self.1
    h n c.mark_one.ensures c.in_ok-push.ensures.pushed c.in_ok-push.ensures.saved c.self.invariant

pub returns-clause-set : goal.returns-clause-set
returns-clause-set c =
    let h : c.args.local_index < length (map is_first c.self.inside.marks.items) = rw (← c.self.view_is) at c.requires in
    let n : IsUnset c.self.inside.marks.items c.self.inside.inits.0 c.args.local_index = rw (← c.self.view_is) at (sym c.is_uninit.ensures ∙ c.if-not-is_uninit.false) in
    rw (← c.self.view_is)
    (rw (
      set_first c.self.inside.marks.items c.mark_one.new.marks.items c.self.inside.inits.0 c.args.local_index h n c.mark_one.ensures,
      c.in_ok-push.ensures.pushed,
      c.in_ok-push.ensures.saved,
      set_list c.self.inside.marks.items c.self.inside.inits.0 c.args.local_index n,
    ) refl)
