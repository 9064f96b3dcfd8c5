use Rattle.std.proofs.Common.{refl, arith}
use Rattle.wasm_types.specs.values.declared.value.ValType.TheVariants.{V128}
use Rattle.wasm_operator_validator_fast_tables.proofs.Writing.{number_there}
use Rattle.wasm_operator_validator_fast_tables.proofs.written.other_at.Goals as goal

pub returns : goal.returns
returns c =
    number_there c.args.bytes.now c.args.tables.now c.args.at 123 4 V128 c.requires c.if-bytes-at-ne123.false refl (omega arith)
    (λ ids bits m a v. record { allowed = (v c.if-not-tables.false).simd; known = tt; is = refl })
