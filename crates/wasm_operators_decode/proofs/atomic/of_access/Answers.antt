-- No other codes are of accesses.
use Rattle.std.proofs.Common.{arith}
use Rattle.wasm_operators_decode.proofs.AtomicCodes.{access_from, access_to}
use Rattle.wasm_operators_decode.proofs.atomic.of_access.Goals as goal

pub unreachable-requires : goal.unreachable-requires
unreachable-requires c = grind (arith, access_from c.args.code c.args.natural c.requires, access_to c.args.code c.args.natural c.requires)
