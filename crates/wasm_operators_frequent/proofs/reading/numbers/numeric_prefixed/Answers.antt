use Rattle.std.proofs.Common.{refl}
use Rattle.wasm_operators_enums.specs.Op as op
use Rattle.wasm_operators_frequent.proofs.ShortReading.{is_told, prefixed_of, prefixed_is}
use Rattle.wasm_operators_frequent.proofs.reading.numbers.numeric_prefixed.Goals as goal

pub returns : goal.returns
returns c =
    let of_numbers = op.Numeric c.in-Some.op in
    let first = prefixed_of c.args.bytes.now c.args.at 0xfc c.args.code c.args.code c.args.end c.requires refl refl of_numbers
    (prefixed_is of_numbers 0xfc c.args.code c.in-Some.ensures.prefix c.in-Some.ensures.code) in
    is_told c.args.features.0 c.args.bytes.now c.args.at c.args.end of_numbers first _ refl refl refl refl
