use Rattle.std.proofs.Common.{◌≤◌, length, drop}
use Rattle.wasm_module_validator_streaming.specs.Taking.{IsMidst, Carries}
use Rattle.wasm_module_validator_streaming.proofs.taking.take_items.Given as goal

-- what was passed was taken, at least a byte for each turn
abbrev pub invariant-loop-turn : goal.invariant-loop-turn
invariant-loop-turn g l = record {
  within : l.passed ≤ length l.bytes;
  turns : l._turn ≤ l.passed;
  midst : IsMidst g.T.TakesBytes.stands l.eof (drop l.passed l.bytes) l.taker;
  there : Carries g.T.TakesBytes.stands l.eof l.bytes l.initial.taker (drop l.passed l.bytes) l.taker;
}
