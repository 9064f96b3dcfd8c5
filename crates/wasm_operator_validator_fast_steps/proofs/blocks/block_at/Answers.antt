use Rattle.std.proofs.Common.{refl, ap, [], arith}
use Rattle.wasm_operators_frequent.proofs.Carried.{empty_there, i32_there, i64_there, f32_there, f64_there}
use Rattle.wasm_operators_immediates.specs.declared.block.BlockType.TheVariants.{Empty, Val}
use Rattle.wasm_types.specs.values.declared.value.ValType.TheVariants.{I32, I64, F32, F64}
use Rattle.wasm_operator_validator_fast_tables.specs.Values.{types}
use Rattle.wasm_operator_validator_fast_steps.proofs.blocks.block_at.Goals as goal

pub returns-in-64 : goal.returns-in-64
returns-in-64 c = (Empty, empty_there c.args.bytes.now c.args.at c.if-at-bytes.false c.in-64.is, λ ids z g fits. c.bare.ensures.signature ids c.args.tables.now.known.flat.items)

pub returns-in-127 : goal.returns-in-127
returns-in-127 c = (
  Val I32,
  i32_there c.args.bytes.now c.args.at c.if-at-bytes.false c.in-127.is,
  λ ids z g fits.
      (_, record { allowed = tt; known = tt; is = refl }, rw c.single.ensures (ap (λ xs. record { params = []; results = types ids xs }) (fits.knows.alone 0 (omega arith)))),
)

pub returns-in-126 : goal.returns-in-126
returns-in-126 c = (
  Val I64,
  i64_there c.args.bytes.now c.args.at c.if-at-bytes.false c.in-126.is,
  λ ids z g fits.
      (_, record { allowed = tt; known = tt; is = refl }, rw c.single-in-126.ensures (ap (λ xs. record { params = []; results = types ids xs }) (fits.knows.alone 1 (omega arith)))),
)

pub returns-in-125 : goal.returns-in-125
returns-in-125 c = (
  Val F32,
  f32_there c.args.bytes.now c.args.at c.if-at-bytes.false c.in-125.is,
  λ ids z g fits.
      (_, record { allowed = fits.allows.floats; known = tt; is = refl }, rw c.single-in-125.ensures (ap (λ xs. record { params = []; results = types ids xs }) (fits.knows.alone 2 (omega arith)))),
)

pub returns-in-124 : goal.returns-in-124
returns-in-124 c = (
  Val F64,
  f64_there c.args.bytes.now c.args.at c.if-at-bytes.false c.in-124.is,
  λ ids z g fits.
      (_, record { allowed = fits.allows.floats; known = tt; is = refl }, rw c.single-in-124.ensures (ap (λ xs. record { params = []; results = types ids xs }) (fits.knows.alone 3 (omega arith)))),
)
