use Rattle.std.proofs.Common.{rules}
use Rattle.wasm_operator_validator_state.specs.Steps.{IsOpen}
use Rattle.wasm_operator_validator_stacks.proofs.Layers.{fixed, held, held_push, sound_push}
use Rattle.wasm_operator_validator_stacks.proofs.validator.OperatorValidator.push_operand.Goals as goal

pub invariant_of-self-2 : goal.invariant_of-self-2
invariant_of-self-2 c =
    let w = fixed c.self.inside.features.0 c.self.inside.locals c.self.inside.params c.self.inside.shared c.self.inside.operands.1 c.self.inside.control.1 c.self.inside.inits.saved c.self.inside.failed_before c.self.inside.failed in
    let o : IsOpen (held w c.self.inside.control.0 c.self.inside.operands.0 c.self.inside.inits.set).opens = rw (← c.self.view_is) at c.requires in
    (rw (c.in-Ok.ensures.pushed, c.new.ensures) (sound_push w c.self.inside.control.0 c.self.inside.operands.0 c.self.inside.inits.set c.args.operand o c.self.invariant.0), rw c.in-Ok.ensures.saved c.self.invariant.1, c.self.invariant.2)

pub returns-clause-does : goal.returns-clause-does
returns-clause-does c = λ m.
    let w = fixed c.self.inside.features.0 c.self.inside.locals c.self.inside.params c.self.inside.shared c.self.inside.operands.1 c.self.inside.control.1 c.self.inside.inits.saved c.self.inside.failed_before c.self.inside.failed in
    let o : IsOpen (held w c.self.inside.control.0 c.self.inside.operands.0 c.self.inside.inits.set).opens = rw (← c.self.view_is) at c.requires in
    rw (← c.self.view_is) (rw (c.in-Ok.ensures.pushed, c.in-Ok.ensures.saved, c.new.ensures)
    (held_push m w c.self.inside.control.0 c.self.inside.operands.0 c.self.inside.inits.set c.args.operand o c.self.invariant.0).0)

pub returns-in_default-clause-saved : goal.returns-in_default-clause-saved
returns-in_default-clause-saved c = search rules

pub returns-clause-saved : goal.returns-clause-saved
returns-clause-saved c = search rules
