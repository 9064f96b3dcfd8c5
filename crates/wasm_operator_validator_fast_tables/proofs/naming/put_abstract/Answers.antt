use Rattle.std.proofs.Common.{List, arith, ap, length}
use Rattle.std.proofs.lemmas.List.{length_push}
use Rattle.wasm_operator_validator_fast_tables.specs.declared.order.Step.{Step}
use Rattle.wasm_operator_validator_fast_tables.proofs.Climbing.{steps_next}
use Rattle.wasm_operator_validator_fast_tables.proofs.naming.put_abstract.Goals as goal

pub loop-number-preserved : goal.loop-number-preserved
loop-number-preserved c =
    let long = ap (λ (l : List Step). length l) c.in-Ok.ensures.items in
    let one = length_push c.loop-number.steps.items c.abstract_step.result in (
      λ ids. steps_next ids c.loop-number.steps.items c.push.new.self.items c.loop-number.number c.abstract_step.result c.in-Ok.ensures.items c.loop-number.invariant.1
          (c.loop-number.invariant.0 ids) (c.abstract_step.ensures ids),
      omega (arith, long, one, c.loop-number.invariant.1),
    )
