-- No other codes are of read-modify-writes.
use Rattle.std.proofs.Common.{arith}
use Rattle.wasm_operators_decode.proofs.AtomicCodes.{update_from, update_to}
use Rattle.wasm_operators_decode.proofs.atomic.of_read_modify_write.Goals as goal

pub unreachable-requires : goal.unreachable-requires
unreachable-requires c = grind (arith, update_from c.args.code c.args.natural c.requires, update_to c.args.code c.args.natural c.requires)
