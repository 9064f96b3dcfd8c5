-- The bits before the last one, and the last one.
use Rattle.std.proofs.Common.{◌++◌, ◌-◌, ◌/◌, ◌%◌, ◌∷◌, [], false}
use Rattle.std.specs.Fmt.{digit_glyph}
use Rattle.wasm_types_decoding.specs.Texts.{bits}
use Rattle.wasm_types_decoding.proofs.Kept.{bits_more, in_2}
use Rattle.wasm_types_decoding.proofs.message.Message.+last_bits.Goals as goal

pub returns : goal.returns
returns t c text k =
    let before = bits (c.args.count - 1) (c.args.byte / 2) in
    let last = digit_glyph false (c.args.byte % 2) ∷ [] in
    let both = rw c.hex_digit.ensures at c.push.ensures (text ++ before) (c.last_bits.ensures text k) in
    rw (bits_more c.args.count c.args.byte c.if-count-eq0.false) (in_2 text before last _ _ both)
