use Rattle.std.proofs.Common.{◌∙◌, ap}
use Rattle.wasm_operator_validator_locals.specs.inits.Inits.{Inits}
use Rattle.wasm_operator_validator_locals.proofs.Unset.{when_some}
use Rattle.wasm_operator_validator_locals.proofs.Marking.{popped_inside, popped_first, popped_sound}
use Rattle.wasm_operator_validator_locals.proofs.inits.LocalInits.pop.Goals as goal

pub mark_one-requires : goal.mark_one-requires
mark_one-requires c =
    let d = when_some c.in_ok-local_index.field-0 c.in-Some.local_index _ _ c.in-Some.is c.in_ok-local_index.ensures.popped in
    popped_inside c.self.inside.marks.items c.self.inside.inits.0 c.pop.new.self.0 c.in-Some.local_index c.self.inside.inits.1 d c.self.invariant

pub invariant_of-self-2 : goal.invariant_of-self-2
invariant_of-self-2 c =
    let d = when_some c.in_ok-local_index.field-0 c.in-Some.local_index _ _ c.in-Some.is c.in_ok-local_index.ensures.popped in
    popped_sound c.self.inside.marks.items c.mark_one.new.marks.items c.self.inside.inits.0 c.pop.new.self.0 c.in-Some.local_index c.self.inside.inits.1 c.pop.new.self.1
    d c.mark_one.ensures c.in_ok-local_index.ensures.saved c.self.invariant

pub returns-clause-first : goal.returns-clause-first
returns-clause-first c =
    let d = when_some c.in_ok-local_index.field-0 c.in-Some.local_index _ _ c.in-Some.is c.in_ok-local_index.ensures.popped in
    popped_first c.self.inside.marks.items c.mark_one.new.marks.items c.self.inside.inits.0 c.pop.new.self.0 c.in-Some.local_index c.self.inside.inits.1
    d c.mark_one.ensures c.self.invariant
    ∙ ap (λ (l : Inits). l.first) c.self.view_is
