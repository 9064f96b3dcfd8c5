use Rattle.std.proofs.Common.{refl}
use Rattle.wasm_operators_frequent.proofs.Carried.{zero_there}
use Rattle.wasm_operators_frequent.proofs.immediates.zero_at.Goals as goal

pub returns-then-bytes-at-eq0 : goal.returns-then-bytes-at-eq0
returns-then-bytes-at-eq0 c = (refl, λ allowed. zero_there c.args.bytes.now c.args.at c.if-at-bytes.true c.if-bytes-at-eq0.true allowed)
