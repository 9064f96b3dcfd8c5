use Rattle.std.proofs.Common.{drop}
use Rattle.wasm_module_validator_rows.specs.Types.{type_rows}
use Rattle.wasm_module_validator_rows.proofs.Filling.{IsFilled}
use Rattle.wasm_module_validator_rows.proofs.writing.write_types.Given as goal

abbrev pub invariant-loop-i : goal.invariant-loop-i
invariant-loop-i l = IsFilled (drop l.first (type_rows l.types.groups)) l.initial.rows l.i l.rows
