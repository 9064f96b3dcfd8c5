use Rattle.std.proofs.Common.{drop}
use Rattle.wasm_module_validator_rows.specs.Entities.{entity_rows}
use Rattle.wasm_module_validator_rows.proofs.Filling.{IsFilled}
use Rattle.wasm_module_validator_rows.proofs.writing.write_entities.Given as goal

abbrev pub invariant-loop-i : goal.invariant-loop-i
invariant-loop-i l = IsFilled (drop l.first (entity_rows l.types.spaces l.kind)) l.initial.rows l.i l.rows
