use Rattle.std.proofs.Common.{◌<◌, ◌∙◌, Some, length, ap, arith}
use Rattle.wasm_operator_validator_fast_tables.proofs.Lying.{put_instead}
use Rattle.wasm_operator_validator_fast_tables.proofs.stack.Stack.change.Goals as goal

pub returns : goal.returns
returns c = λ e.
    let more : c.self.inside.base < length c.self.inside.items = omega (arith, c.len.ensures, c.if-len-self.false) in
    put_instead c.self.inside.base c.args.takes c.args.gives c.self.inside.items c.replace.new.self c.args.self.now more c.self.view_is (c.under.ensures ∙ ap Some c.if-under-takes.false) c.replace.ensures
