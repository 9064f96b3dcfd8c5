use Rattle.std.proofs.Common.{refl}
use Rattle.wasm_operators_frequent.proofs.ShortReading.{told_so}
use Rattle.wasm_operators_frequent.proofs.tell.LentVisitorTellOperator.tell_short.Goals as goal

pub returns-clause-told : goal.returns-clause-told
returns-clause-told g c = told_so _ _ _ _ _ _ (λ o h. (h, refl)) c.in-Some.ensures.told
