use Rattle.std.proofs.Common.{refl}
use Rattle.wasm_operators_enums.specs.Op as op
use Rattle.wasm_operators_frequent.proofs.ShortReading.{told_alone, low_is_no_prefix, opcode_is}
use Rattle.wasm_operators_frequent.proofs.reading.numbers.numeric.Goals as goal

pub returns : goal.returns
returns c =
    told_alone c.args.features.0 c.args.bytes.now c.args.at c.args.code c.args.code c.requires.begins refl (op.Numeric c.in-Some.op)
    (opcode_is (op.Numeric c.in-Some.op) c.args.code c.in-Some.ensures.prefix c.in-Some.ensures.code)
    (low_is_no_prefix c.args.code c.requires.low) _ refl refl refl refl
