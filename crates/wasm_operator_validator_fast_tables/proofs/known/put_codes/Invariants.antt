use Rattle.std.proofs.Common.{◌≡◌, ℕ, List, ◌++◌, length, take}
use Rattle.wasm_operator_validator_state.specs.State.{types_in}
use Rattle.wasm_operator_validator_state.specs.resources.Meaning.{Meaning}
use Rattle.wasm_operator_validator_fast_tables.specs.Values.{types}
use Rattle.wasm_operator_validator_fast_tables.proofs.known.put_codes.Given as goal

abbrev pub invariant-loop-ty : goal.invariant-loop-ty
invariant-loop-ty l =
    (cs : List ℕ) × (l.flat.items ≡ l.fn.flat.items ++ cs) × (length cs ≡ l.ty-index) × ((m : Meaning) → types_in m (take l.ty-index l.written) ≡ types m.ids cs)
