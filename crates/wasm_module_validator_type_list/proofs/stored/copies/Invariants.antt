use Rattle.std.proofs.Common.{◌≡◌, replicate}
use Rattle.wasm_module_validator_type_list.proofs.stored.copies.Given as goal

abbrev pub invariant-loop-i : goal.invariant-loop-i
invariant-loop-i g l = l.values.items ≡ replicate l.i l.value
