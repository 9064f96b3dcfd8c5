use Rattle.std.proofs.Common.{◌≡◌, List, ◌++◌, take}
use Rattle.wasm_operator_validator_state.specs.resources.Meaning.{Meaning}
use Rattle.wasm_operator_validator_fast_tables.specs.declared.tables.Field.{Field}
use Rattle.wasm_operator_validator_fast_tables.specs.Tables.{AreFields}
use Rattle.wasm_operator_validator_fast_tables.specs.Known.{fields_in}
use Rattle.wasm_operator_validator_fast_tables.proofs.naming.put_fields.Given as goal

abbrev pub invariant-loop-field : goal.invariant-loop-field
invariant-loop-field l =
    (fs : List Field) × (l.fields.items ≡ l.fn.fields.items ++ fs) × ((m : Meaning) → AreFields m.ids (fields_in m (take l.field-index l.written)) fs)
