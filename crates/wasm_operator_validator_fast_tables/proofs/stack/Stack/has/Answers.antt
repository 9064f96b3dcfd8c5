use Rattle.std.proofs.Common.{◌<◌, ◌∙◌, Some, length, ap, arith}
use Rattle.wasm_operator_validator_fast_tables.proofs.Lying.{on_top}
use Rattle.wasm_operator_validator_fast_tables.proofs.stack.Stack.has.Goals as goal

pub returns : goal.returns
returns c = λ e.
    let more : c.self.inside.base < length c.self.inside.items = omega (arith, c.len.ensures, c.if-len-self.false) in
    on_top c.self.inside.base c.args.ty c.self.inside.items c.args.self.now more c.self.view_is (c.under.ensures ∙ ap Some c.if-under-ty.false)
