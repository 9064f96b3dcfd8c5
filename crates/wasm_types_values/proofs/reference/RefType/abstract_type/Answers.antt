-- Its bits are the sum of the parts.
use Rattle.wasm_types_values.proofs.Bits.{holds_abstract}
use Rattle.wasm_types_values.proofs.reference.RefType.abstract_type.Goals as goal

pub invariant_of-result : goal.invariant_of-result
invariant_of-result c = (holds_abstract _ _ _ _ _ _ c.null_bit.ensures c.shared_bit.ensures c.code.ensures).valid

pub returns : goal.returns
returns c = (holds_abstract _ _ _ _ _ _ c.null_bit.ensures c.shared_bit.ensures c.code.ensures).says
