use Rattle.std.proofs.Common.{refl, arith}
use Rattle.wasm_types.specs.values.declared.value.ValType.TheVariants.{I32, I64, F32, F64}
use Rattle.wasm_operator_validator_fast_tables.proofs.Writing.{number_there}
use Rattle.wasm_operator_validator_fast_tables.proofs.written.value_at.Goals as goal

pub returns-in-127 : goal.returns-in-127
returns-in-127 c = number_there c.args.bytes.now c.args.tables.now c.args.at 127 0 I32 c.if-at-bytes.false c.in-127.is refl (omega arith) (λ ids bits m a v. record { allowed = tt; known = tt; is = refl })

pub returns-in-126 : goal.returns-in-126
returns-in-126 c = number_there c.args.bytes.now c.args.tables.now c.args.at 126 1 I64 c.if-at-bytes.false c.in-126.is refl (omega arith) (λ ids bits m a v. record { allowed = tt; known = tt; is = refl })

pub returns-in-125 : goal.returns-in-125
returns-in-125 c = number_there c.args.bytes.now c.args.tables.now c.args.at 125 2 F32 c.if-at-bytes.false c.in-125.is refl (omega arith) (λ ids bits m a v. record { allowed = a.floats; known = tt; is = refl })

pub returns-in-124 : goal.returns-in-124
returns-in-124 c = number_there c.args.bytes.now c.args.tables.now c.args.at 124 3 F64 c.if-at-bytes.false c.in-124.is refl (omega arith) (λ ids bits m a v. record { allowed = a.floats; known = tt; is = refl })
