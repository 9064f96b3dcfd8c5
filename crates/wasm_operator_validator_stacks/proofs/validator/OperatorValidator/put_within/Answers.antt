use Rattle.std.proofs.Common.{◌≤◌, ◌+◌, ◌∙◌, length, ap, refl, arith, List, Bool}
use Rattle.wasm_operator_validator_stacks.proofs.Setting.{length-first}
use Rattle.wasm_operator_validator_stacks.proofs.MoreLocals.{more_first}
use Rattle.wasm_operator_validator_stacks.proofs.validator.OperatorValidator.put_within.Goals as goal

pub define_locals-requires : goal.define_locals-requires
define_locals-requires c =
    let h : length c.self.inside.locals + c.args.count ≤ c.args.most = rw (← c.self.view_is) at c.requires in
    let k = ap (λ (bs : List Bool). length bs) c.self.invariant.2.0 ∙ length-first c.self.inside.params c.self.inside.locals in
    omega (arith, h, k, c)

pub invariant_of-self-else-not-put : goal.invariant_of-self-else-not-put
invariant_of-self-else-not-put c =
    rw c.in-Ok.ensures.defined (
      c.self.invariant.0,
      c.self.invariant.1,
      more_first c.self.inside.params c.self.inside.locals c.put.new.self c.self.inside.inits.first _ c.args.count c.args.ty.now (c.put.ensures.put c.if-not-put.false).0 refl c.self.invariant.2,
    )
