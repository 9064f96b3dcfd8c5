use Rattle.std.proofs.Common.{◌-◌, min, length, ◌<◌, ◌≤◌, ◌^◌}
use Rattle.wasm_module_validator_function_bodies.proofs.validator.FuncValidator.len_locals.Given as goal

abbrev pub invariant-search : goal.invariant-search
invariant-search g l =
    let locals = l.fn.self.validator.given.locals in
    (l.low ≤ length locals) × (l.low ≤ l.high) × (min (length locals) 0xffff_ffff ≤ l.high) × (l.high < 2 ^ 32)

abbrev pub decreases-search : goal.decreases-search
decreases-search g l = l.high - l.low
