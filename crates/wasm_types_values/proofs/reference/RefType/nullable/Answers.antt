-- Its bits are those of the same reference with the bit of null.
use Rattle.std.proofs.Common.{sym, ◌∙◌}
use Rattle.wasm_types_values.proofs.Bits.{with_null}
use Rattle.wasm_types_values.proofs.reference.RefType.nullable.Goals as goal

pub invariant_of-result-2 : goal.invariant_of-result-2
invariant_of-result-2 c = (with_null _ _ c.self.invariant c.self.view_is (sym c.is_nullable.ensures ∙ c.if-is_nullable.false)).valid

pub returns : goal.returns
returns c = (with_null _ _ c.self.invariant c.self.view_is (sym c.is_nullable.ensures ∙ c.if-is_nullable.false)).says
