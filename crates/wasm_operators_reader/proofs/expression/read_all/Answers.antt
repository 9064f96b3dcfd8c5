use Rattle.std.proofs.Common.{inl, inr, map}
use Rattle.std.proofs.lemmas.Result.{err_from_is_err_and}
use Rattle.wasm_operators_enums.specs.Op.{op_of}
use Rattle.wasm_operators_reader.specs.StandingLaws.{reads_fewer}
use Rattle.wasm_operators_reader.specs.RunLaws.{run_pushed, takes_before}
use Rattle.wasm_operators_reader.proofs.expression.read_all.Goals as goal

pub loop-operators-smaller : goal.loop-operators-smaller
loop-operators-smaller c = reads_fewer c.loop-operators.operators _ c.read.new.self c.in_ok-op.ensures.read

pub loop-operators-preserved : goal.loop-operators-preserved
loop-operators-preserved c = rw c.in_ok-push.ensures.items (run_pushed op_of c.loop-operators.ops.items c.in_ok-op.op _ c.loop-operators.operators
    c.read.new.self c.loop-operators.invariant c.in_ok-op.ensures.read)

pub returns-in_err-op-clause-no_memory : goal.returns-in_err-op-clause-no_memory
returns-in_err-op-clause-no_memory c = λ n.
    let p = err_from_is_err_and c.from_residual.result c.from_residual.ensures.1 in
    let l = c.loop-operators in
    rw (p.1, p.2) (c.in_err-op.ensures.no_memory (λ w. n (takes_before (map op_of l.ops.items) _ l.operators l.invariant (inl w))))

pub returns-in_err-push-clause-no_memory : goal.returns-in_err-push-clause-no_memory
returns-in_err-push-clause-no_memory c = λ n.
    let l = c.loop-operators in
    absurd (n (takes_before (map op_of l.ops.items) _ l.operators l.invariant (inr (op_of c.in_ok-op.op, c.read.new.self, c.in_ok-op.ensures.read))))
