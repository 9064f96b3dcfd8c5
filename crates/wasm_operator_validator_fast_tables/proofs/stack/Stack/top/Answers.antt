use Rattle.std.proofs.Common.{◌<◌, length, arith}
use Rattle.wasm_operator_validator_fast_tables.proofs.Lying.{on_top}
use Rattle.wasm_operator_validator_fast_tables.proofs.stack.Stack.top.Goals as goal

pub returns : goal.returns
returns c =
    let more : c.self.inside.base < length c.self.inside.items = omega (arith, c.len.ensures, c.if-len-self.false) in
    on_top c.self.inside.base c.under.result c.self.inside.items c.args.self.now more c.self.view_is c.under.ensures
