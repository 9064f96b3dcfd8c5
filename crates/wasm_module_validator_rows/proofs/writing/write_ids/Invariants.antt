use Rattle.std.proofs.Common.{drop}
use Rattle.wasm_module_validator_rows.specs.Entities.{id_rows}
use Rattle.wasm_module_validator_rows.proofs.Filling.{IsFilled}
use Rattle.wasm_module_validator_rows.proofs.writing.write_ids.Given as goal

abbrev pub invariant-loop-i : goal.invariant-loop-i
invariant-loop-i l = IsFilled (drop l.first (id_rows l.types.spaces)) l.initial.ids l.i l.ids
