-- The limits of an implementation (WebAssembly 3.0, appendix, implementation limitations): those that hold where none are
-- chosen, and the most that each may be chosen to be.
use Rattle.std.specs.Prelude.{ℕ, ◌≤◌}
use Rattle.wasm_types_settings.specs.declared.Limits.{Limits}

-- standard: impl: implementation limitations
-- by default
unfoldable pub default_limits : Limits
default_limits = record {
  types = 1000000;
  params = 1000;
  results = 1000;
  fields = 10000;
  string_bytes = 100000;
  imports = 1000000;
  exports = 1000000;
  functions = 1000000;
  globals = 1000000;
  tags = 1000000;
  tables = 100;
  memories = 100;
  element_segments = 100000;
  data_segments = 100000;
  segment_items = 10000000;
  body_bytes = 7654321;
  select_types = 10;
  locals = 50000;
  catches = 10000;
  subtyping_depth = 63;
  type_size = 1000000;
}

-- the most that each may be
unfoldable pub ceilings : Limits
ceilings = record {
  types = 1048576;
  params = 1000;
  results = 1000;
  fields = 1000000;
  string_bytes = 1000000;
  imports = 1000000;
  exports = 1000000;
  functions = 1000000;
  globals = 1000000;
  tags = 1000000;
  tables = 100000;
  memories = 100000;
  element_segments = 1000000;
  data_segments = 1000000;
  segment_items = 10000000;
  body_bytes = 7654321;
  select_types = 1000;
  locals = 1000000;
  catches = 100000;
  subtyping_depth = 254;
  type_size = 16777215;
}

-- none is above its ceiling
pub record IsWithinCeilings (l : Limits) : Type 0 where
  pub types : l.types ≤ ceilings.types
  pub params : l.params ≤ ceilings.params
  pub results : l.results ≤ ceilings.results
  pub fields : l.fields ≤ ceilings.fields
  pub string_bytes : l.string_bytes ≤ ceilings.string_bytes
  pub imports : l.imports ≤ ceilings.imports
  pub exports : l.exports ≤ ceilings.exports
  pub functions : l.functions ≤ ceilings.functions
  pub globals : l.globals ≤ ceilings.globals
  pub tags : l.tags ≤ ceilings.tags
  pub tables : l.tables ≤ ceilings.tables
  pub memories : l.memories ≤ ceilings.memories
  pub element_segments : l.element_segments ≤ ceilings.element_segments
  pub data_segments : l.data_segments ≤ ceilings.data_segments
  pub segment_items : l.segment_items ≤ ceilings.segment_items
  pub body_bytes : l.body_bytes ≤ ceilings.body_bytes
  pub select_types : l.select_types ≤ ceilings.select_types
  pub locals : l.locals ≤ ceilings.locals
  pub catches : l.catches ≤ ceilings.catches
  pub subtyping_depth : l.subtyping_depth ≤ ceilings.subtyping_depth
  pub type_size : l.type_size ≤ ceilings.type_size
