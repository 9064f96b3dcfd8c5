-- Open frames, the innermost apart.
use Rattle.std.specs.Prelude.{List, drop, get_or}
use Rattle.wasm_operators_immediates.specs.declared.frames.FrameKind.TheVariants as frames
use Rattle.wasm_operator_validator_fast_tables.specs.declared.tables.Open.{Open}

-- the innermost, and those around it, the next first
pub record Nested : Type 0 where
  pub inner : Open
  pub outer : List Open

abbrev pub no_frame : Open
no_frame = record { kind = frames.Block; base = 0; set = 0; sig = record { params = 0; param_count = 0; results = 0; result_count = 0 } }

-- the first of some frames is the innermost
abbrev pub nested : List Open → Nested
nested opens = record { inner = get_or opens 0 no_frame; outer = drop 1 opens }
