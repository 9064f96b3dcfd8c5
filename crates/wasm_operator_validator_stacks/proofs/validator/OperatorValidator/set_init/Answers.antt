use Rattle.std.proofs.Common.{◌<◌, length, reverse}
use Rattle.wasm_operator_validator_locals.specs.inits.Inits.{has_value}
use Rattle.wasm_operator_validator_stacks.proofs.Layers.{fixed}
use Rattle.wasm_operator_validator_stacks.proofs.Setting.{inside_first, value_by, layered_if, held_set}
use Rattle.wasm_operator_validator_stacks.proofs.validator.OperatorValidator.set_init.Goals as goal

pub set_init-requires : goal.set_init-requires
set_init-requires c =
    let h : c.args.local_index < length c.self.inside.locals = rw (← c.self.view_is) at c.requires in
    inside_first c.self.inside.params c.self.inside.locals c.self.inside.inits.first c.args.local_index c.self.invariant.2.0 h

pub invariant_of-self-2 : goal.invariant_of-self-2
invariant_of-self-2 c =
    rw c.in-Ok.ensures.set (
      layered_if (has_value c.self.inside.inits c.args.local_index) (reverse c.self.inside.control.0) c.self.inside.inits.set c.args.local_index (length c.self.inside.operands.0) c.self.invariant.0,
      c.self.invariant.1,
      c.self.invariant.2,
    )

pub returns-clause-set : goal.returns-clause-set
returns-clause-set c = λ m.
    let h : c.args.local_index < length c.self.inside.locals = rw (← c.self.view_is) at c.requires in
    let e = value_by m c.self.inside.params c.self.inside.locals c.self.inside.inits.first c.self.inside.inits.set c.args.local_index c.self.invariant.2.0 h in
    rw (← c.self.view_is)
    (rw c.in-Ok.ensures.set
    (held_set (fixed c.self.inside.features.0 c.self.inside.locals c.self.inside.params c.self.inside.shared c.self.inside.operands.1 c.self.inside.control.1 c.self.inside.inits.saved c.self.inside.failed_before c.self.inside.failed)
    c.self.inside.control.0 c.self.inside.operands.0 c.self.inside.inits.set c.args.local_index (length c.self.inside.operands.0) _ _ e c.self.invariant.0))
