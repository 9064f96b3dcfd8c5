use Rattle.std.proofs.Common.{false, sym, subst}
use Rattle.wasm_types.specs.reader.Reading.{IsNotMemory}
use Rattle.wasm_operators_reader.specs.Standing.{Standing, Refuses, WantsMemory}
use Rattle.wasm_operators_reader.specs.StandingLaws.{reads_fewer}
use Rattle.wasm_operators_bodies.specs.Constants.{PassesTo}
use Rattle.wasm_operators_bodies.specs.ConstantLaws.{passes_more, still_none}
use Rattle.wasm_operators_bodies.proofs.constant.pass_end.Goals as goal

pub loop-ended-smaller : goal.loop-ended-smaller
loop-ended-smaller c = let found = c.in-Ok.ensures.read in reads_fewer c.loop-ended.operators found.0 c.read_end.new.operators found.1

pub loop-ended-preserved : goal.loop-ended-preserved
loop-ended-preserved c =
    passes_more _ c.loop-ended.operators c.read_end.new.operators c.in-Ok.ended (still_none _ _ _ c.loop-ended-test.true c.loop-ended.invariant) c.in-Ok.ensures.read

pub returns-in-Err-clause-refused : goal.returns-in-Err-clause-refused
returns-in-Err-clause-refused c =
    let passes = still_none _ _ _ c.loop-ended-test.true c.loop-ended.invariant in
    subst (λ (s : Standing). PassesTo c.args.operators.now false s × Refuses s c.in-Err.error × ((WantsMemory s → ⊥) → IsNotMemory c.in-Err.error.kind))
    (sym c.in-Err.ensures.refused.1) (passes, c.in-Err.ensures.refused.0, c.in-Err.ensures.no_memory)
