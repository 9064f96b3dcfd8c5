use Rattle.std.proofs.Common.{◌∙◌, ap, Some}
use Rattle.wasm_types.specs.fields.Fields.{field_of}
use Rattle.wasm_module_validator_rows.specs.Rows.{told_field}
use Rattle.wasm_module_validator_rows.proofs.Places.{row_at, row_past}
use Rattle.wasm_module_validator_rows.proofs.types.field_at.Goals as goal

pub returns-then-place-fields : goal.returns-then-place-fields
returns-then-place-fields c =
    ap Some c.field_row.ensures
    ∙ row_at told_field field_of c.args.fields.now c.args.place c.index-fields-place.result c.if-place-fields.true c.index-fields-place.is

pub returns-else-place-fields : goal.returns-else-place-fields
returns-else-place-fields c = row_past told_field field_of c.args.fields.now c.args.place c.if-place-fields.false
