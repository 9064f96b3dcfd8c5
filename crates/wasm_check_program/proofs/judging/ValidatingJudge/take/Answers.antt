use Rattle.wasm_check_program.proofs.Begun.{has_come}
use Rattle.wasm_check_program.proofs.judging.ValidatingJudge.take.Goals as goal

pub take-requires : goal.take-requires
take-requires c = has_come c.args.begun.now c.requires

pub returns : goal.returns
returns c = λ z got h. (h.0, c.take.ensures.came z h.0 got h.1)
