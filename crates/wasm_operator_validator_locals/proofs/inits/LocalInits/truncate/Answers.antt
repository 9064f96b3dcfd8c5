use Rattle.std.proofs.Common.{◌∙◌, List, map, refl, ap}
use Rattle.wasm_operator_validator_locals.specs.inits.Inits.{AreBelow, AreSavedBelow}
use Rattle.wasm_operator_validator_locals.specs.inits.Marks.{is_first}
use Rattle.wasm_operator_validator_locals.specs.declared.inits.Mark.{Mark}
use Rattle.wasm_operator_validator_locals.proofs.Fewer.{fewer_sound, map_take}
use Rattle.wasm_operator_validator_locals.proofs.inits.LocalInits.truncate.Goals as goal

pub invariant_of-self : goal.invariant_of-self
invariant_of-self c =
    let b : AreBelow c.args.len c.self.inside.inits.0 × AreSavedBelow c.args.len c.self.inside.inits.1 = rw (← c.self.view_is) at c.requires.unset in
    fewer_sound c.self.inside.marks.items c.truncate.new.self.items c.args.len c.self.inside.inits.0 c.self.inside.inits.1 c.truncate.ensures.items b.0 b.1 c.self.invariant

pub returns : goal.returns
returns c =
    rw (← c.self.view_is)
    (rw (ap (λ (ms : List Mark). map is_first ms) c.truncate.ensures.items ∙ map_take c.args.len c.self.inside.marks.items) refl)
