use Rattle.std.proofs.Common.{slice_get}
use Rattle.wasm_operator_validator_memory.proofs.Atomic.{misaligned}
use Rattle.wasm_operator_validator_memory.proofs.atomics.reaching.reach_atomic.Goals as goal

pub returns-then-not-has_alignment : goal.returns-then-not-has_alignment
returns-then-not-has_alignment g c =
    let m = g.R.WasmModuleResources.meaning c.args.resources.now in
    misaligned c.args.memarg.now (slice_get m.«module».memories c.args.memarg.now.memory) c.has_alignment.result c.has_alignment.ensures c.if-not-has_alignment.true
