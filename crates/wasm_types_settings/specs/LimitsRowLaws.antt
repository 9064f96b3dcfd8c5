-- The rows of `Rows`, by computing them.
use Rattle.std.proofs.Common.{refl, arith}
use Rattle.wasm_types_settings.specs.Limits.{default_limits, ceilings, IsWithinCeilings}
use Rattle.wasm_types_settings.specs.LimitsRows.{DefaultRows, CeilingRows}

pub default_within : IsWithinCeilings default_limits
unfolding default_limits ceilings
default_within = record {
  types = omega arith;
  params = omega arith;
  results = omega arith;
  fields = omega arith;
  string_bytes = omega arith;
  imports = omega arith;
  exports = omega arith;
  functions = omega arith;
  globals = omega arith;
  tags = omega arith;
  tables = omega arith;
  memories =
      omega arith;
  element_segments = omega arith;
  data_segments = omega arith;
  segment_items = omega arith;
  body_bytes = omega arith;
  select_types =
      omega arith;
  locals = omega arith;
  catches = omega arith;
  subtyping_depth = omega arith;
  type_size = omega arith;
}

pub default_rows : DefaultRows
unfolding default_limits ceilings
default_rows = record {
  types = refl;
  params = refl;
  results = refl;
  fields = refl;
  string_bytes = refl;
  imports = refl;
  exports = refl;
  functions = refl;
  globals = refl;
  tags = refl;
  tables = refl;
  memories = refl;
  element_segments = refl;
  data_segments = refl;
  segment_items = refl;
  body_bytes = refl;
  select_types = refl;
  locals = refl;
  catches = refl;
  subtyping_depth = refl;
  type_size = refl;
  within = default_within;
}

pub ceiling_rows : CeilingRows
unfolding ceilings
ceiling_rows = record {
  most = record {
    types = omega arith;
    params = omega arith;
    results = omega arith;
    fields = omega arith;
    string_bytes = omega arith;
    imports = omega
        arith;
    exports = omega arith;
    functions = omega arith;
    globals = omega arith;
    tags = omega arith;
    tables = omega arith;
    memories = omega arith;
    element_segments = omega arith;
    data_segments = omega arith;
    segment_items = omega arith;
    body_bytes = omega arith;
    select_types = omega arith;
    locals = omega arith;
    catches = omega arith;
    subtyping_depth = omega arith;
    type_size = omega arith;
  };
  types = λ h. omega (arith, h.types);
  params = λ h. omega (arith, h.params);
  results = λ h. omega (arith, h.results);
  fields = λ h. omega (arith, h.fields);
  string_bytes = λ h. omega (arith, h.string_bytes);
  imports = λ h. omega (arith, h.imports);
  exports = λ h. omega (arith, h.exports);
  functions = λ h. omega (arith, h.functions);
  globals = λ h. omega (arith, h.globals);
  tags = λ h. omega (arith, h.tags);
  tables = λ h. omega (arith, h.tables);
  memories = λ h. omega (arith, h.memories);
  element_segments = λ h. omega (arith, h.element_segments);
  data_segments = λ h. omega (arith, h.data_segments);
  segment_items = λ h. omega (arith, h.segment_items);
  body_bytes = λ h. omega (arith, h.body_bytes);
  select_types = λ h. omega (arith, h.select_types);
  locals = λ h. omega (arith, h.locals);
  catches = λ h. omega (arith, h.catches);
  subtyping_depth = λ h. omega (arith, h.subtyping_depth);
  type_size = λ h. omega (arith, h.type_size);
}
