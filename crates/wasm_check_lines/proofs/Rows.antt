-- The worked rows, each by computing it.
use Rattle.std.proofs.Common.{refl}
use Rattle.std.specs.Fmt.{digits}
use Rattle.std.specs.Str.{chars}
use Rattle.wasm_check_lines.specs.Shown.{shown}
use Rattle.wasm_check_lines.specs.Json.{json_text}
use Rattle.wasm_types.specs.settings.Limits.{ceilings, default_limits}
use Rattle.wasm_check_lines.specs.Causes.{cause_of, feature_lacking, limit_meant}
use Rattle.wasm_check_lines.specs.Hints.{feature_hint, is_text, limit_hint}
use Rattle.wasm_check_lines.specs.ShownRows.{ShownRows}
use Rattle.wasm_check_lines.specs.FormRows.{FormRows}

pub shown_rows : ShownRows
unfolding shown chars digits lib.Utf8.encode
shown_rows = record {
  plain = refl;
  feed = refl;
  first_and_last = refl;
  escape = refl;
  past_ascii = refl;
  separators = refl;
  order = refl;
  marks = refl;
  isolates = refl;
  letters = refl;
  backslash = refl;
}

pub form_rows : FormRows
unfolding shown json_text is_text cause_of limit_meant feature_lacking limit_hint feature_hint default_limits ceilings chars digits lib.Utf8.encode
form_rows = record {
  named = refl;
  refused = refl;
  vectors = refl;
  locals = refl;
  params = refl;
  fewer_params = refl;
  memories = refl;
  types = refl;
  text = refl;
  other = refl;
  hint = refl;
  no_hint = refl;
  spaced = refl;
  cut = refl;
  component = refl;
  behind = refl;
  nothing = refl;
  gc = refl;
  two_bits = refl;
  part = refl;
  last = refl;
  switch = refl;
  note = refl;
  valid_json = refl;
  invalid_json = refl;
  types_json = refl;
  feature_json = refl;
  component_json = refl;
  limit_json = refl;
}
