use Rattle.std.proofs.Common.{arith}
use Rattle.wasm_operators_frequent.proofs.Carried.{word_8_there}
use Rattle.wasm_operators_frequent.proofs.immediates.f64_at.Goals as goal

pub returns : goal.returns
returns c = word_8_there c.args.bytes.now c.args.at _ _ c.from_le_bytes-bits.ensures c.from_bits.ensures (omega arith)
