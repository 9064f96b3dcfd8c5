use Rattle.std.proofs.Common.{◌<◌, ◌-◌, ◌⊎◌, ℕ, length, get_or}
use Rattle.wasm_operator_validator_fast_tables.specs.Tables.{HasDefault}
use Rattle.wasm_module_validator_function_bodies.proofs.plain.certain_of.Given as goal

abbrev pub invariant-loop-certain : goal.invariant-loop-certain
invariant-loop-certain l = (x : ℕ) → x < length l.locals → x < l.certain → (x < l.params) ⊎ HasDefault (get_or l.locals x 0)

abbrev pub decreases-loop-certain : goal.decreases-loop-certain
decreases-loop-certain l = length l.locals - l.certain
