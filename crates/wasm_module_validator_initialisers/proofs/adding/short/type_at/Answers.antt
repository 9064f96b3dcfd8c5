use Rattle.std.proofs.Common.{rules, arith}
use Rattle.wasm_module_validator_initialisers.proofs.ShortGlobals.{type_there}
use Rattle.wasm_module_validator_initialisers.proofs.adding.short.type_at.Goals as goal

pub returns : goal.returns
returns c = type_there c.args.bytes.now c.args.at c.in-Some.wide c.in-Some-is_mutable.mutable (search rules) (omega (arith, c)) c.in-Some.ensures c.in-Some-is_mutable.ensures
