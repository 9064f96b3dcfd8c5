-- Limits worked by hand. A changed number breaks a row.
use Rattle.std.specs.Prelude.{◌≡◌}
use Rattle.wasm_types_settings.specs.declared.Limits.{Limits}
use Rattle.wasm_types_settings.specs.Limits.{default_limits, ceilings, IsWithinCeilings}

-- what each is by default
pub record DefaultRows : Type 0 where
  pub types : default_limits.types ≡ 1000000
  pub params : default_limits.params ≡ 1000
  pub results : default_limits.results ≡ 1000
  pub fields : default_limits.fields ≡ 10000
  pub string_bytes : default_limits.string_bytes ≡ 100000
  pub imports : default_limits.imports ≡ 1000000
  pub exports : default_limits.exports ≡ 1000000
  pub functions : default_limits.functions ≡ 1000000
  pub globals : default_limits.globals ≡ 1000000
  pub tags : default_limits.tags ≡ 1000000
  pub tables : default_limits.tables ≡ 100
  pub memories : default_limits.memories ≡ 100
  pub element_segments : default_limits.element_segments ≡ 100000
  pub data_segments : default_limits.data_segments ≡ 100000
  pub segment_items : default_limits.segment_items ≡ 10000000
  pub body_bytes : default_limits.body_bytes ≡ 7654321
  pub select_types : default_limits.select_types ≡ 10
  pub locals : default_limits.locals ≡ 50000
  pub catches : default_limits.catches ≡ 10000
  pub subtyping_depth : default_limits.subtyping_depth ≡ 63
  pub type_size : default_limits.type_size ≡ 1000000
  pub within : IsWithinCeilings default_limits

-- the most of each is within the ceilings, and one more of any is not
pub record CeilingRows : Type 0 where
  pub most : IsWithinCeilings (record {
    types = 1048576;
    params = 1000;
    results = 1000;
    fields = 1000000;
    string_bytes = 1000000;
    imports = 1000000;
    exports = 1000000;
    functions = 1000000;
    globals = 1000000;
    tags = 1000000;
    tables = 100000;
    memories = 100000;
    element_segments = 1000000;
    data_segments = 1000000;
    segment_items = 10000000;
    body_bytes = 7654321;
    select_types = 1000;
    locals = 1000000;
    catches = 100000;
    subtyping_depth = 254;
    type_size = 16777215;
  })
  pub types : IsWithinCeilings (record ceilings { types = 1048577 }) → ⊥
  pub params : IsWithinCeilings (record ceilings { params = 1001 }) → ⊥
  pub results : IsWithinCeilings (record ceilings { results = 1001 }) → ⊥
  pub fields : IsWithinCeilings (record ceilings { fields = 1000001 }) → ⊥
  pub string_bytes : IsWithinCeilings (record ceilings { string_bytes = 1000001 }) → ⊥
  pub imports : IsWithinCeilings (record ceilings { imports = 1000001 }) → ⊥
  pub exports : IsWithinCeilings (record ceilings { exports = 1000001 }) → ⊥
  pub functions : IsWithinCeilings (record ceilings { functions = 1000001 }) → ⊥
  pub globals : IsWithinCeilings (record ceilings { globals = 1000001 }) → ⊥
  pub tags : IsWithinCeilings (record ceilings { tags = 1000001 }) → ⊥
  pub tables : IsWithinCeilings (record ceilings { tables = 100001 }) → ⊥
  pub memories : IsWithinCeilings (record ceilings { memories = 100001 }) → ⊥
  pub element_segments : IsWithinCeilings (record ceilings { element_segments = 1000001 }) → ⊥
  pub data_segments : IsWithinCeilings (record ceilings { data_segments = 1000001 }) → ⊥
  pub segment_items : IsWithinCeilings (record ceilings { segment_items = 10000001 }) → ⊥
  pub body_bytes : IsWithinCeilings (record ceilings { body_bytes = 7654322 }) → ⊥
  pub select_types : IsWithinCeilings (record ceilings { select_types = 1001 }) → ⊥
  pub locals : IsWithinCeilings (record ceilings { locals = 1000001 }) → ⊥
  pub catches : IsWithinCeilings (record ceilings { catches = 100001 }) → ⊥
  pub subtyping_depth : IsWithinCeilings (record ceilings { subtyping_depth = 255 }) → ⊥
  pub type_size : IsWithinCeilings (record ceilings { type_size = 16777216 }) → ⊥
