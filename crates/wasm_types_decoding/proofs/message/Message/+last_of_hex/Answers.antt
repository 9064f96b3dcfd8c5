-- The digits before the last one, and the last one.
use Rattle.std.proofs.Common.{◌++◌, ◌-◌, ◌/◌, ◌%◌, ◌∷◌, [], false, ap, sym, subst}
use Rattle.std.specs.Fmt.{digit_glyph}
use Rattle.wasm_types_decoding.specs.ErrorText.{Keeps}
use Rattle.wasm_types_decoding.specs.declared.message.Message.{Message}
use Rattle.wasm_types_decoding.specs.Texts.{hex_digits}
use Rattle.wasm_types_decoding.proofs.Kept.{hex_one, hex_more, in_2}
use Rattle.wasm_types_decoding.proofs.message.Message.+last_of_hex.Goals.{then-number-ge16, else-number-ge16}
use Rattle.wasm_types_decoding.proofs.message.Message.+last_of_hex.Goals as goal

pub returns : goal.returns
returns t c text k = elim c.if-number-ge16.branch [
  | then-number-ge16 w ↦
      let before = hex_digits (c.args.most - 1) (c.args.number / 16) in
      let last = digit_glyph false (c.args.number % 16) ∷ [] in
      let first : Keeps (text ++ before) c.if-number-ge16.self.kept.bytes c.if-number-ge16.self.is_full =
      subst (λ (m : Message). Keeps (text ++ before) m.kept.bytes m.is_full) (sym w.self-is) (w.last_of_hex.ensures text k) in
      let both = rw c.hex_digit.ensures at c.push.ensures (text ++ before) first in
      rw (hex_more c.args.most c.args.number c.if-most-eq0.false w.if-number-ge16.true) (in_2 text before last _ _ both)
  | else-number-ge16 w ↦
      let first : Keeps text c.if-number-ge16.self.kept.bytes c.if-number-ge16.self.is_full =
      subst (λ (m : Message). Keeps text m.kept.bytes m.is_full) (sym w.self-is) k in
      let both = rw c.hex_digit.ensures at c.push.ensures text first in
      rw (hex_one c.args.most c.args.number c.if-most-eq0.false w.if-number-ge16.false) both
]
