-- Where another number of bytes is left it is not one.
use Rattle.std.proofs.Common.{◌∙◌, ap, length, arith}
use Rattle.std.proofs.lemmas.List.{length-drop}
use Rattle.std.proofs.lemmas.Bool.{eqb-true}
use Rattle.wasm_types_decoding.specs.Decoder.{State}
use Rattle.wasm_types_reader.proofs.binary_reader.BinaryReader.is_end_then_eof.Goals as goal

pub returns-else-self-eq1 : goal.returns-else-self-eq1
returns-else-self-eq1 c = (
  λ t. absurd (c.if-self-eq1.false (eqb-true _ _ t)),
  λ h.
      let e = ap (λ (s : State). s.rest) c.self.view_is ∙ h in
      absurd (c.if-self-eq1.false (omega (arith, ap length e, length-drop c.self.inside.position c.self.inside.buffer.now))),
)
