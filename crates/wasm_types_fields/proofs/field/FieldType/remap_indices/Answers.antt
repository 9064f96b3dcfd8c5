use Rattle.std.proofs.Common.{rules}
use Rattle.wasm_types_fields.proofs.field.FieldType.remap_indices.Goals as goal

pub returns-clause-remapped : goal.returns-clause-remapped
returns-clause-remapped c = search rules
