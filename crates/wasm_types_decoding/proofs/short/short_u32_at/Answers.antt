-- Numbers of one byte and of two.
use Rattle.wasm_types_decoding.proofs.AtOnce.{unsigned_of_one, unsigned_of_two}
use Rattle.wasm_types_decoding.proofs.short.short_u32_at.Goals as goal

pub returns-then-first-lt128-clause-found : goal.returns-then-first-lt128-clause-found
returns-then-first-lt128-clause-found c = unsigned_of_one c.args.bytes.now c.args.at c.if-at-bytes.true 3 4 c.if-first-lt128.true

pub returns-then-second-lt128-clause-found : goal.returns-then-second-lt128-clause-found
returns-then-second-lt128-clause-found c = unsigned_of_two c.args.bytes.now c.args.at c.if-at-bytes.true 2 4 c.if-first-lt128.false c.if-second-lt128.true
