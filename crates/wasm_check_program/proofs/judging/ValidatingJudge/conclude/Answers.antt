use Rattle.std.proofs.Common.{arith}
use Rattle.wasm_check_program.proofs.Begun.{has_come, valid_told}
use Rattle.wasm_check_program.proofs.judging.ValidatingJudge.conclude.Goals as goal

pub end-requires : goal.end-requires
end-requires c = has_come c.args.begun c.requires

pub returns-in-Ok : goal.returns-in-Ok
returns-in-Ok c = λ z got h short. valid_told z h.0 got c.in-Ok._types (c.in-Ok.ensures z h.0 got h.1 (omega (arith, short)))

pub returns-in-Err : goal.returns-in-Err
returns-in-Err c = λ z got h short. c.in-Err.ensures z h.0 got h.1 (omega (arith, short))
