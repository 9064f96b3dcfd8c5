-- The rows of `ListRows`, each by computing it.
use Rattle.std.proofs.Common.{◌≡◌, refl}
use Rattle.std.specs.Prelude.{Some}
use Rattle.wasm_check_faults.specs.Lists.{through, through_lists}
use Rattle.wasm_types.specs.settings.Limits.{default_limits, ceilings}
use Rattle.wasm_check_faults.specs.LimitLists.{limit_named, limits_along}
use Rattle.wasm_check_lines.specs.Limits.{word_of}
use Rattle.wasm_check_lines.specs.declared.limit.Limit.{Limit}
use Rattle.wasm_check_lines.specs.declared.limit.Limit.TheVariants as limits
use Rattle.wasm_check_faults.specs.FeatureLists.{features_along}
use Rattle.wasm_check_lines.specs.FeatureWords.{feature_words}
use Rattle.wasm_check_faults.specs.ListRows.{FeatureRows, LimitRows}

pub feature_rows : FeatureRows
unfolding through feature_words features_along through_lists
feature_rows = record {
  set = refl;
  added = refl;
  removed = refl;
  added_to_default = refl;
  two_bits = refl;
  two_bits_removed = refl;
  part = refl;
  set_last = refl;
  added_last = refl;
  by_default = refl;
  all = refl;
  none = refl;
  removed_by_a_hyphen = refl;
  nothing = refl;
  added_to_nothing = refl;
  two_lists = refl;
  second_list = refl;
  meant = refl;
  meant_underscore = refl;
  meant_nothing = refl;
  unknown = refl;
  first_unknown = refl;
  empty = refl;
  empty_last = refl;
  empty_between = refl;
  no_set_removed = refl;
  twice_removed = refl;
  two_hyphens = refl;
  set_after_a_hyphen = refl;
  hyphen = refl;
  upper_case = refl;
  underscore = refl;
  space = refl;
}

named_by_word : (limit : Limit) → limit_named (word_of limit) ≡ Some limit
named_by_word limits.Types = refl
named_by_word limits.Params = refl
named_by_word limits.Results = refl
named_by_word limits.Fields = refl
named_by_word limits.StringBytes = refl
named_by_word limits.Imports = refl
named_by_word limits.Exports = refl
named_by_word limits.Functions = refl
named_by_word limits.Globals = refl
named_by_word limits.Tags = refl
named_by_word limits.Tables = refl
named_by_word limits.Memories = refl
named_by_word limits.ElementSegments = refl
named_by_word limits.DataSegments = refl
named_by_word limits.SegmentItems = refl
named_by_word limits.BodyBytes = refl
named_by_word limits.SelectTypes = refl
named_by_word limits.Locals = refl
named_by_word limits.Catches = refl
named_by_word limits.SubtypingDepth = refl
named_by_word limits.TypeSize = refl

pub limit_rows : LimitRows
unfolding through limits_along through_lists default_limits ceilings
limit_rows = record {
  words = named_by_word;
  two = refl;
  later_wins = refl;
  two_lists = refl;
  hyphen = refl;
  none_at_all = refl;
  ten_digits = refl;
  eleven_digits = refl;
  past_ceiling = refl;
  far_past_ceiling = refl;
  no_value = refl;
  empty_value = refl;
  letter = refl;
  sign = refl;
  two_values = refl;
  unknown = refl;
  name_before_value = refl;
  underscore = refl;
  no_name = refl;
  space = refl;
  second = refl;
  first_fault = refl;
  empty = refl;
  empty_last = refl;
}
