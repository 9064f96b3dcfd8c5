use Rattle.wasm_types.specs.Entries.{inner_of}
use Rattle.wasm_module_validator_rows.specs.Types.{told_values}
use Rattle.wasm_module_validator_rows.proofs.Filling.{IsFilled}
use Rattle.wasm_module_validator_rows.proofs.writing.write_parts.Given as goal

abbrev pub invariant-loop-i : goal.invariant-loop-i
invariant-loop-i l = IsFilled (told_values (inner_of l.ty)) l.initial.rows l.i l.rows
