-- The worked rows, each by computing it.
use Rattle.std.proofs.Common.{refl}
use Rattle.wasm_types.specs.settings.Limits.{default_limits}
use Rattle.wasm_check_lines.specs.Causes.{cause_of, feature_lacking, limit_meant}
use Rattle.wasm_check_lines.specs.CauseRows.{CauseRows}

pub cause_rows : CauseRows
unfolding cause_of limit_meant feature_lacking default_limits
cause_rows = record {
  vectors = refl;
  types = refl;
  fixed = refl;
  index = refl;
  other = refl;
  named_alike = refl;
  tables = refl;
  one_table = refl;
  memories = refl;
  one_memory = refl;
  data_count = refl;
  own_group = refl;
  chosen_end = refl;
  no_type = refl;
  padded = refl;
  lacks = refl;
  component_model = refl;
  type_count = refl;
  group = refl;
  params = refl;
  results = refl;
  fields = refl;
  string_bytes = refl;
  imports = refl;
  exports = refl;
  functions = refl;
  globals = refl;
  tags = refl;
  table_count = refl;
  memory_count = refl;
  elements = refl;
  segments = refl;
  items = refl;
  body = refl;
  labels = refl;
  selected = refl;
  locals = refl;
  catches = refl;
  handlers = refl;
  depth = refl;
  type_size = refl;
}
