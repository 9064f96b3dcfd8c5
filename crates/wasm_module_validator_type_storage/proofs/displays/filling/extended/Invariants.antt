use Rattle.std.specs.Prelude.{◌+◌, ◌≤◌}
use Rattle.wasm_module_validator_type_storage.proofs.Ancestors.{IsCopied}
use Rattle.wasm_module_validator_type_storage.proofs.displays.filling.extended.Given as goal

abbrev pub invariant-loop-j : goal.invariant-loop-j
invariant-loop-j l = IsCopied l.fn.entries.items l.entries.items l.start l.end l.j × (l.fn.entries.room ≤ l.entries.room + l.j) × (l.j ≤ l.count)
