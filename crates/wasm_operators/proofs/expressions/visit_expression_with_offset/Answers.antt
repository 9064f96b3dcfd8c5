use Rattle.std.proofs.Common.{refl}
use Rattle.wasm_operators.proofs.expressions.visit_expression_with_offset.Goals as goal

pub tell_lent-requires : goal.tell_lent-requires
tell_lent-requires g c κs = (refl, tt)
