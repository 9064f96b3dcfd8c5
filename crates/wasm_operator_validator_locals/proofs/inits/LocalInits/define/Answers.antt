use Rattle.std.proofs.Common.{refl, map}
use Rattle.std.specs.Vec.{vec_len}
use Rattle.wasm_operator_validator_locals.specs.inits.Marks.{is_first}
use Rattle.wasm_operator_validator_locals.proofs.Marking.{resized, more_sound, more_first}
use Rattle.wasm_operator_validator_locals.proofs.Fewer.{below, saved_below}
use Rattle.wasm_operator_validator_locals.proofs.inits.LocalInits.define.Goals as goal

pub invariant_of-self-2 : goal.invariant_of-self-2
invariant_of-self-2 c =
    let e = resized c.self.inside.marks.items c.as_slice-held.result.now c.resize.new.self.items (vec_len c.self.inside.marks) c.args.count c.args.mark
    c.as_slice-held.ensures.value c.as_slice-held.ensures.len c.in_ok-resize.ensures.items in
    more_sound c.self.inside.marks.items c.resize.new.self.items c.args.count c.args.mark c.self.inside.inits.0 c.self.inside.inits.1 e c.requires.fresh c.self.invariant

pub returns-clause-defined : goal.returns-clause-defined
returns-clause-defined c =
    let e = resized c.self.inside.marks.items c.as_slice-held.result.now c.resize.new.self.items (vec_len c.self.inside.marks) c.args.count c.args.mark
    c.as_slice-held.ensures.value c.as_slice-held.ensures.len c.in_ok-resize.ensures.items in
    rw (← c.self.view_is) (rw (more_first c.self.inside.marks.items c.resize.new.self.items c.args.count c.args.mark e) refl)

pub returns-in_err-resize-clause-before : goal.returns-in_err-resize-clause-before
returns-in_err-resize-clause-before c = rw (← c.self.view_is) (
  below (map is_first c.self.inside.marks.items) c.self.inside.inits.0 c.self.invariant.1,
  saved_below (map is_first c.self.inside.marks.items) c.self.inside.inits.1 c.self.invariant.2,
)

pub returns-clause-before : goal.returns-clause-before
returns-clause-before c = rw (← c.self.view_is) (
  below (map is_first c.self.inside.marks.items) c.self.inside.inits.0 c.self.invariant.1,
  saved_below (map is_first c.self.inside.marks.items) c.self.inside.inits.1 c.self.invariant.2,
)
