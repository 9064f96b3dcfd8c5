use Rattle.wasm_module_validator_fast_constants.proofs.Passing.{i64_next}
use Rattle.wasm_module_validator_fast_constants.proofs.numbers.i64_const.Goals as goal

pub returns : goal.returns
returns c bits m =
    i64_next bits m c.args.bytes.now c.args.at c.in-Some.end c.args.stack.now.items c.in-Some._value c.put.new.stack.items c.requires c.in-Some.ensures.found
    (c.put.ensures c.if-not-put.false)
