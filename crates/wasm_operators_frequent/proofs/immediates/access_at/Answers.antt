use Rattle.std.proofs.Common.{refl}
use Rattle.wasm_operators_frequent.proofs.Carried.{access_there}
use Rattle.wasm_operators_frequent.proofs.immediates.access_at.Goals as goal

pub returns : goal.returns
returns c = λ natural.
    access_there c.args.features.0 natural c.args.bytes.now c.args.at _ c.if-at-bytes.false refl c.if-bytes-at-ge16.false
    c.memory64.result c.in-Some.offset c.in-Some.end c.in-Some.ensures c.memory64.ensures
