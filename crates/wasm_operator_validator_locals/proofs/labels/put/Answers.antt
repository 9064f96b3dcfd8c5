use Rattle.wasm_operator_validator_locals.proofs.Putting.{keeps_tried}
use Rattle.wasm_operator_validator_locals.proofs.labels.put.Goals as goal

pub returns : goal.returns
returns c =
    let kept = keeps_tried c.insert.result c.met.inside.few.items c.met.inside.many.keys c.insert.new.self.keys c.args.label c.insert.ensures.keys c.insert.ensures.err in
    rw (← c.met.view_is) kept
