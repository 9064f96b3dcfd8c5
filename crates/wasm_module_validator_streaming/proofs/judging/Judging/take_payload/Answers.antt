-- By what the validator answers to the payload, and what judges a body tells of it.
use Rattle.std.proofs.Common.{refl, inl, inr}
use Rattle.wasm_module_validator_streaming.proofs.KeptJudge.{judge_of_handed, judge_behind}
use Rattle.wasm_module_validator_streaming.proofs.Stepping.{handed_within}
use Rattle.wasm_module_validator_streaming.proofs.judging.Judging.take_payload.Goals as goal

pub judge_next-requires : goal.judge_next-requires
judge_next-requires c = record {
  within = handed_within c.args.payload c.args.self.now.validator c.payload.new.self c.in-Ok-Func.function c.in-Ok-Func.body (rw c.in-Ok-Func.field-0-is at c.in-Ok-Func.ensures);
  tables = judge_of_handed c.args.payload c.args.self.now.validator c.payload.new.self c.in-Ok-Func.function c.in-Ok-Func.body (rw c.in-Ok-Func.field-0-is at c.in-Ok-Func.ensures)
      c.args.self.now.in_loop c.requires;
}

pub returns-in-Ok-Ok-clause-steps : goal.returns-in-Ok-Ok-clause-steps
returns-in-Ok-Ok-clause-steps c = (refl, inl (rw c.in-Ok-Ok.field-0-is at c.in-Ok-Ok.ensures))

pub returns-in-Ok-clause-steps : goal.returns-in-Ok-clause-steps
returns-in-Ok-clause-steps c = (
  refl,
  inr (record {
    handed = c.in-Ok-Func.function;
    body = c.in-Ok-Func.body;
    takes = rw c.in-Ok-Func.field-0-is at c.in-Ok-Func.ensures;
    told = c.in-Ok.ensures.told;
  }),
)

pub returns-in-Ok-clause-judge : goal.returns-in-Ok-clause-judge
returns-in-Ok-clause-judge c =
    judge_behind c.args.payload c.args.self.now.validator c.payload.new.self c.in-Ok-Func.function c.in-Ok-Func.body (rw c.in-Ok-Func.field-0-is at c.in-Ok-Func.ensures)
    c.judge_next.new.in_loop c.in-Ok.ensures.stays

pub returns-in-Err-judge_next-clause-judge : goal.returns-in-Err-judge_next-clause-judge
returns-in-Err-judge_next-clause-judge c =
    judge_behind c.args.payload c.args.self.now.validator c.payload.new.self c.in-Ok-Func.function c.in-Ok-Func.body (rw c.in-Ok-Func.field-0-is at c.in-Ok-Func.ensures)
    c.judge_next.new.in_loop c.in-Err-judge_next.ensures.stays

pub returns-in-Err-judge_next-clause-steps : goal.returns-in-Err-judge_next-clause-steps
returns-in-Err-judge_next-clause-steps c = inr (record {
  handed = c.in-Ok-Func.function;
  body = c.in-Ok-Func.body;
  takes = rw c.in-Ok-Func.field-0-is at c.in-Ok-Func.ensures;
  told = c.in-Err-judge_next.ensures.told;
})

pub returns-in-Err-clause-steps : goal.returns-in-Err-clause-steps
returns-in-Err-clause-steps c = inl (rw c.in-Err.error-is at c.in-Err.ensures)
