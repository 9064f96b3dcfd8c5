use Rattle.std.proofs.Common.{◌≤◌, ◌-◌, ℕ, length}
use Rattle.wasm_module_validator_fast_constants.specs.Steps.{tops, Goes}
use Rattle.wasm_module_validator_fast_constants.proofs.judge.accepts_constant.Given as goal

-- operators stand from the start on
abbrev pub invariant-loop-at : goal.invariant-loop-at
invariant-loop-at g l =
    let m = g.R.WasmModuleResources.meaning l.resources in
    (l.start ≤ l.at) × (l.at ≤ length l.bytes) × (n : ℕ) × Goes l.features.0 m.«module» l.bytes n l.start l.at (tops m l.stack.items)

abbrev pub decreases-loop-at : goal.decreases-loop-at
decreases-loop-at g l = length l.bytes - l.at
