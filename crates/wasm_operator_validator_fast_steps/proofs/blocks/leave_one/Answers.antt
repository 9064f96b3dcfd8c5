use Rattle.std.proofs.Common.{◌∷◌, ◌∙◌, ap, get_or, refl}
use Rattle.wasm_operator_validator_fast_tables.specs.Stacks.{Values}
use Rattle.wasm_operator_validator_fast_steps.proofs.Passing.{gives_one}
use Rattle.wasm_operator_validator_fast_steps.proofs.blocks.leave_one.Goals as goal

pub returns : goal.returns
returns c = λ e.
    let flat = c.as_slice-flat.ensures.value in
    let xs = c.args.tables.now.known.flat.items in
    let s = c.args.frame.now.sig in
    let code = get_or xs s.results 0 in
    let (none, under) = c.if-not-leave.ensures refl in (
      code,
      c.take_below.new.self,
      gives_one xs s c.args.stack.now c.requires (rw flat at c.if-place-flat.false),
      rw flat at (c.if-not-take_below.ensures refl),
      none,
      (rw flat at (c.put.ensures e)) ∙ ap (λ (v : Values). (code ∷ v.0, v.1)) under,
    )
