-- The bits compare as the references do.
use Rattle.std.proofs.Common.{◌∙◌}
use Rattle.wasm_types_values.proofs.Bits.{compares_bits}
use Rattle.wasm_types_values.proofs.reference.RefTypeOrd.cmp.Goals as goal

pub returns : goal.returns
returns c = c.cmp.ensures ∙ compares_bits _ _ _ _ c.self.invariant c.other.invariant c.self.view_is c.other.view_is
