use Rattle.wasm_check_program.proofs.judging.ValidatingJudge.begin.Goals as goal

pub returns : goal.returns
returns c = (c.new-id.result, c.new.ensures.came)
