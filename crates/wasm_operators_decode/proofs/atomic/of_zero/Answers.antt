-- No other code is the fence's.
use Rattle.std.proofs.Common.{arith}
use Rattle.wasm_operators_decode.proofs.AtomicCodes.{fence_code}
use Rattle.wasm_operators_decode.proofs.atomic.of_zero.Goals as goal

pub unreachable-requires : goal.unreachable-requires
unreachable-requires c = grind (arith, fence_code c.args.code c.requires)
