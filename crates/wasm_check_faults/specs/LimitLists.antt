-- What a list of `--limits` stands for: words `name=N` between commas, each of which sets one limit; the others are those by default.
use Rattle.std.specs.Prelude.{ℕ, ◌+◌, ◌-◌, ◌*◌, ◌==◌, ◌&&◌, List, [], ◌∷◌, Option, Some, None, Result, Ok, Err, length, option_map}
use Rattle.std.specs.Prelude.{bytes_eq, nat_le, nat_lt, if◌then◌else◌}
use Rattle.std.specs.Char.{is_ascii_digit}
use Rattle.std.specs.List.{before_first, after_first, find, position_or_len}
use Rattle.wasm_types.specs.settings.Limits.{default_limits, ceilings}
use Rattle.wasm_types.specs.settings.declared.Limits.{Limits}
use Rattle.wasm_check_lines.specs.Limits.{limit_of, word_of}
use Rattle.wasm_check_lines.specs.declared.limit.Limit.{Limit}
use Rattle.wasm_check_lines.specs.declared.limit.Limit.TheVariants as limits
use Rattle.wasm_check_faults.specs.declared.limits.Wrong.{Wrong}
use Rattle.wasm_check_faults.specs.declared.limits.Wrong.TheVariants.{Unknown, BadValue}
use Rattle.wasm_check_faults.specs.declared.limits.LimitFault.{LimitFault}
use Rattle.wasm_check_faults.specs.declared.limits.LimitFault.TheVariants as faults
use Rattle.wasm_check_faults.specs.Lists.{Place, words_of, through, through_lists}

-- all limits, in the order of the fields of `Limits`
abbrev pub all_limits : List Limit
all_limits = limits.Types ∷ limits.Params ∷ limits.Results ∷ limits.Fields
    ∷ limits.StringBytes ∷ limits.Imports ∷ limits.Exports ∷ limits.Functions
    ∷ limits.Globals ∷ limits.Tags ∷ limits.Tables ∷ limits.Memories
    ∷ limits.ElementSegments ∷ limits.DataSegments ∷ limits.SegmentItems ∷ limits.BodyBytes
    ∷ limits.SelectTypes ∷ limits.Locals ∷ limits.Catches ∷ limits.SubtypingDepth ∷ limits.TypeSize
    ∷ []

-- the limit of this name
abbrev pub limit_named : List ℕ → Option Limit
limit_named name = find (λ l. bytes_eq name (word_of l)) all_limits

-- these limits with this one set
abbrev pub with_limit : Limit → ℕ → Limits → Limits
with_limit limits.Types n l = record l { types = n }
with_limit limits.Params n l = record l { params = n }
with_limit limits.Results n l = record l { results = n }
with_limit limits.Fields n l = record l { fields = n }
with_limit limits.StringBytes n l = record l { string_bytes = n }
with_limit limits.SubtypingDepth n l = record l { subtyping_depth = n }
with_limit limits.TypeSize n l = record l { type_size = n }
with_limit limits.Imports n l = record l { imports = n }
with_limit limits.Exports n l = record l { exports = n }
with_limit limits.Functions n l = record l { functions = n }
with_limit limits.Globals n l = record l { globals = n }
with_limit limits.Tags n l = record l { tags = n }
with_limit limits.Tables n l = record l { tables = n }
with_limit limits.Memories n l = record l { memories = n }
with_limit limits.ElementSegments n l = record l { element_segments = n }
with_limit limits.DataSegments n l = record l { data_segments = n }
with_limit limits.SegmentItems n l = record l { segment_items = n }
with_limit limits.BodyBytes n l = record l { body_bytes = n }
with_limit limits.SelectTypes n l = record l { select_types = n }
with_limit limits.Locals n l = record l { locals = n }
with_limit limits.Catches n l = record l { catches = n }

-- the number that decimal digits write, after those of n; none if a byte is no digit
abbrev pub digits_after : ℕ → List ℕ → Option ℕ
digits_after n [] = Some n
digits_after n (b ∷ bs) = if is_ascii_digit b then digits_after (n * 10 + (b - 48)) bs else None

-- the number that one to ten decimal digits write
abbrev pub number_of : List ℕ → Option ℕ
number_of text = if nat_le 1 (length text) && nat_le (length text) 10 then digits_after 0 text else None

-- what stands before the first `=` (61) of a word, and what after it, if it has one
abbrev pub limit_name : List ℕ → List ℕ
limit_name word = before_first (λ b. b == 61) word

abbrev pub limit_value : List ℕ → Option (List ℕ)
limit_value word = if nat_lt (position_or_len (λ b. b == 61) word) (length word) then Some (after_first (λ b. b == 61) word) else None

-- the number, if it is not above the limit's ceiling
abbrev pub within : Limit → Option ℕ → Option ℕ
within f None = None
within f (Some n) = if nat_le n (limit_of f ceilings) then Some n else None

-- the number that a word sets this limit to, if it has one
abbrev pub number_for : Limit → Option (List ℕ) → Option ℕ
number_for f None = None
number_for f (Some text) = within f (number_of text)

-- the most that the limit which a word names may be, if it names one
unfoldable pub word_ceiling : List ℕ → Option ℕ
word_ceiling word = option_map (λ f. limit_of f ceilings) (limit_named (limit_name word))

-- What a word makes of limits, or what is wrong with it: its name is looked at before its number.
abbrev pub set_to : Limit → Option ℕ → Limits → Result Limits Wrong
set_to f (Some n) l = Ok (with_limit f n l)
set_to f None l = Err BadValue

abbrev pub set_named : List ℕ → Option Limit → Limits → Result Limits Wrong
set_named word (Some f) l = set_to f (number_for f (limit_value word)) l
set_named word None l = Err Unknown

abbrev pub limits_after : List ℕ → Limits → Result Limits Wrong
limits_after word l = set_named word (limit_named (limit_name word)) l

-- why a list is refused, and where the word is
pub record ListFault : Type 0 where
  pub wrong : Wrong
  pub place : Place

abbrev pub limit_step : Place → List ℕ → Limits → Result Limits ListFault
limit_step place word l = elim (limits_after word l) [ Ok m ↦ Ok m | Err w ↦ Err (record { wrong = w; place = place }) ]

-- what a list makes of limits, or its first fault
unfoldable pub limits_along : List ℕ → Limits → Result Limits ListFault
limits_along list l = through limit_step 0 (words_of list) l

-- the limits that a list stands for
abbrev pub limits_of : List ℕ → Result Limits ListFault
limits_of list = limits_along list default_limits

-- what several lists make of limits, one after another, or the first fault of them
abbrev pub limits_through : List (List ℕ) → Limits → Result Limits ListFault
limits_through lists l = through_lists limits_along lists l

-- a fault as the public call tells it
abbrev pub told : LimitFault → ListFault
told (faults.Unknown start end) = record { wrong = Unknown; place = record { start = start; end = end } }
told (faults.BadValue start end) = record { wrong = BadValue; place = record { start = start; end = end } }
