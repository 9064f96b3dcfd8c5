use Rattle.std.proofs.Common.{◌≡◌, ℕ, Some, length, slice_get}
use Rattle.wasm_operator_validator_fast_tables.proofs.known.put_alone.Given as goal

abbrev pub invariant-loop-code : goal.invariant-loop-code
invariant-loop-code l = ((k y : ℕ) → slice_get l.flat.items k ≡ Some y → y ≡ k) × (length l.flat.items ≡ l.code)
