-- Worked steps of a parser.
use Rattle.std.proofs.Common.{◌≡◌, ℕ, ◌-◌, ◌^◌, List, [], ◌∷◌, drop, refl, sym, ap, arith, true, false, Some, None}
use Rattle.wasm_types.specs.settings.Settings.{no_features}
use Rattle.wasm_types.specs.decoding.declared.Refusal.TheVariants.{Other}
use Rattle.wasm_types.specs.decoding.Decoder.{State, Done, Short, Fault}
use Rattle.wasm_types.specs.decoding.ExactLaws.{state_is}
use Rattle.wasm_types.specs.decoding.Leb.{unsigned, u32, last, more}
use Rattle.wasm_types.specs.decoding.LebLaws.{decides-u32}
use Rattle.wasm_types.specs.values.WorkedTypeLaws.{start_of, behind}
use Rattle.wasm_sections_items.specs.frames.Decode.{header}
use Rattle.wasm_sections_parser.specs.declared.progress.Stage.{Stage}
use Rattle.wasm_sections_parser.specs.declared.progress.Stage.TheVariants as stages
use Rattle.wasm_sections_parser.specs.declared.progress.Progress.{Progress}
use Rattle.wasm_sections_parser.specs.Places.{HasContentsAt}
use Rattle.wasm_sections_parser.specs.Needs.{least_within, needed}
use Rattle.wasm_sections_parser.specs.Steps.{version, section, code, entry, counted, in_code, counts_agree, number_before, in_part, contents, code_start, next_section, next_entry, behind_code, next_header, step}

-- a parser in this stage, behind sections up to this place
abbrev at : Stage → ℕ → Progress
at s place = record { stage = s; last = place; functions = 0; bodies = 0; data_count = None; segments = 0 }

abbrev sections : Progress
sections = at stages.Sections 0

-- behind one function
abbrev one_function : Progress
one_function = record { stage = stages.Sections; last = 3; functions = 1; bodies = 0; data_count = None; segments = 0 }

-- where so many data segments were announced
abbrev announcing : ℕ → Progress
announcing n = record { stage = stages.Sections; last = 11; functions = 0; bodies = 0; data_count = Some n; segments = 0 }

-- the header; a section of each kind; a byte more than its size, and one fewer; a late section and one that has no place; a data section
-- as it was announced, and one of fewer segments
pub record SectionRows : Type 0 where
  pub first : step no_features (at stages.Header 0) (start_of (0x00 ∷ 0x61 ∷ 0x73 ∷ 0x6d ∷ 0x01 ∷ 0x00 ∷ 0x00 ∷ 0x00 ∷ [])) ≡ Done (version (record { version = 1; layer = 0 }), sections) (behind 8)
  pub magic : step no_features (at stages.Header 0) (start_of (0x01 ∷ 0x61 ∷ 0x73 ∷ 0x6d ∷ [])) ≡ Fault Other 0
  pub no_header : step no_features (at stages.Header 0) (start_of (0x00 ∷ 0x61 ∷ [])) ≡ Short 0 2
  pub types : step no_features sections (start_of (0x01 ∷ 0x01 ∷ 0x00 ∷ [])) ≡ Done (section 1 (0x00 ∷ []), counted sections 1 0) (behind 3)
  pub functions : step no_features sections (start_of (0x03 ∷ 0x02 ∷ 0x01 ∷ 0x00 ∷ [])) ≡ Done (section 3 (0x01 ∷ 0x00 ∷ []), counted sections 3 1) (behind 4)
  pub no_count : step no_features sections (start_of (0x03 ∷ 0x00 ∷ [])) ≡ Fault Other 2
  pub unknown : step no_features (at stages.Sections 13) (start_of (0x63 ∷ 0x00 ∷ [])) ≡ Done (section 99 [], at stages.Sections 13) (behind 2)
  pub cut_short : step no_features sections (start_of (0x01 ∷ 0x03 ∷ 0x00 ∷ [])) ≡ Short 2 2
  pub late : step no_features (at stages.Sections 4) (start_of (0x03 ∷ 0x02 ∷ [])) ≡ Fault Other 2
  pub twice : step no_features (at stages.Sections 1) (start_of (0x01 ∷ 0x01 ∷ 0x00 ∷ [])) ≡ Fault Other 2
  pub in_time : step no_features (at stages.Sections 5) (start_of (0x0d ∷ 0x01 ∷ 0x00 ∷ [])) ≡ Done (section 13 (0x00 ∷ []), at stages.Sections 6) (behind 3)
  pub no_size : step no_features (at stages.Sections 4) (start_of (0x03 ∷ [])) ≡ Short 1 1
  pub as_announced : step no_features (announcing 0) (start_of (0x0b ∷ 0x01 ∷ 0x00 ∷ [])) ≡ Done (section 11 (0x00 ∷ []), counted (announcing 0) 11 0) (behind 3)
  pub more_announced : step no_features (announcing 1) (start_of (0x0b ∷ 0x01 ∷ 0x00 ∷ [])) ≡ Fault Other 3
  pub ended : step no_features (at stages.Ended 4) (start_of (0x03 ∷ [])) ≡ Fault Other 0

pub section_rows : SectionRows
unfolding step next_header header next_section contents in_part unsigned
section_rows = record {
  first = refl;
  magic = refl;
  no_header = refl;
  types = refl;
  functions = refl;
  no_count = refl;
  unknown =
      refl;
  cut_short = refl;
  late = refl;
  twice = refl;
  in_time = refl;
  no_size = refl;
  as_announced = refl;
  more_announced = refl;
  ended = refl;
}

-- The start of the code section, of as many bodies as functions, and of more; a count that ends after it. A number that is malformed in the section, and one that is so only after
-- it. A body, one byte of which is missing, and one that takes a byte
-- behind the section. The section's end, a byte before it, and what follows it.
pub record CodeRows : Type 0 where
  pub start : step no_features one_function (start_of (0x0a ∷ 0x04 ∷ 0x01 ∷ [])) ≡ Done (code 1 4, in_code one_function 1 6) (behind 3)
  pub more_bodies : step no_features sections (start_of (0x0a ∷ 0x04 ∷ 0x01 ∷ [])) ≡ Fault Other 2
  pub no_count : step no_features sections (start_of (0x0a ∷ 0x00 ∷ 0x01 ∷ [])) ≡ Fault Other 2
  pub long_count : step no_features sections (start_of (0x0a ∷ 0x01 ∷ 0x81 ∷ [])) ≡ Fault Other 2
  pub some_count : step no_features sections (start_of (0x0a ∷ 0x02 ∷ 0x81 ∷ [])) ≡ Short 3 1
  pub malformed : step no_features (at (stages.Code 2 5) 12) (start_of (0x80 ∷ 0x80 ∷ 0x80 ∷ 0x80 ∷ 0x10 ∷ [])) ≡ Fault Other 4
  pub malformed_after : step no_features (at (stages.Code 2 4) 12) (start_of (0x80 ∷ 0x80 ∷ 0x80 ∷ 0x80 ∷ 0x10 ∷ [])) ≡ Fault Other 0
  pub body : step no_features (at (stages.Code 2 9) 12) (start_of (0x02 ∷ 0x00 ∷ 0x0b ∷ [])) ≡ Done (entry (0x00 ∷ 0x0b ∷ []), at (stages.Code 1 9) 12) (behind 3)
  pub part_of_body : step no_features (at (stages.Code 2 9) 12) (start_of (0x02 ∷ 0x00 ∷ [])) ≡ Short 1 1
  pub past_the_section : step no_features (at (stages.Code 2 2) 12) (start_of (0x02 ∷ 0x00 ∷ 0x0b ∷ [])) ≡ Fault Other 1
  pub byte_behind : step no_features (at (stages.Code 0 1) 12) (start_of (0x0b ∷ [])) ≡ Fault Other 0
  pub another_section : step no_features (at (stages.Code 0 0) 12) (start_of (0x0b ∷ 0x01 ∷ 0x00 ∷ [])) ≡ Done (section 11 (0x00 ∷ []), at stages.Sections 13) (behind 3)

pub code_rows : CodeRows
unfolding step next_section contents in_part code_start next_entry behind_code number_before unsigned
code_rows = record { start = refl; more_bodies = refl; no_count = refl; long_count = refl; some_count = refl; malformed = refl; malformed_after = refl; body = refl; part_of_body = refl; past_the_section = refl; byte_behind = refl; another_section = refl }

-- as many bodies as functions, and as many data segments as were announced
abbrev with_counts : ℕ → ℕ → Progress
with_counts f b = record { stage = stages.Sections; last = 0; functions = f; bodies = b; data_count = Some f; segments = b }

pub record CountRows : Type 0 where
  pub none : counts_agree sections ≡ true
  pub same : counts_agree (with_counts 2 2) ≡ true
  pub fewer : counts_agree (with_counts 2 1) ≡ false

pub count_rows : CountRows
count_rows = record { none = refl; same = refl; fewer = refl }

-- How many bytes are needed within a size. A section: its least size and that many bytes, or a size that is too large with its fifth
-- byte. The code section: the end of its size and its count, or a size that is too large or that ends past the offsets of 64 bits. A
-- section that comes too late: the end of its size. A body: its least size and that many bytes, or a size too large for its section.
-- Elsewhere as many as the decoder lacks.
pub record NeedRows : Type 0 where
  pub no_size : needed sections 0 (0x01 ∷ []) 1 ≡ 1
  pub five : needed sections 0 (0x01 ∷ 0x85 ∷ []) 1 ≡ 4
  pub two : needed sections 0 (0x01 ∷ 0x82 ∷ []) 1 ≡ 3
  pub padded : needed sections 0 (0x01 ∷ 0x83 ∷ 0x80 ∷ []) 1 ≡ 3
  pub large : needed sections 0 (0x01 ∷ 0x80 ∷ 0x81 ∷ 0x80 ∷ []) 1 ≡ 2
  pub fifth : needed sections 0 (0x01 ∷ 0x85 ∷ 0x80 ∷ 0x80 ∷ 0x80 ∷ []) 1 ≡ 1
  pub none : needed sections 0 (0x01 ∷ 0x80 ∷ []) 1 ≡ 1
  pub late : needed (at stages.Sections 4) 0 (0x03 ∷ 0x85 ∷ []) 1 ≡ 1
  pub code_of_five : needed sections 0 (0x0a ∷ 0x85 ∷ []) 1 ≡ 2
  pub code_of_none : needed sections 0 (0x0a ∷ 0x80 ∷ []) 1 ≡ 1
  pub code_fifth : needed sections 0 (0x0a ∷ 0x85 ∷ 0x80 ∷ 0x80 ∷ 0x80 ∷ []) 1 ≡ 1
  pub code_too_far : needed sections (2 ^ 64 - 130) (0x0a ∷ 0x85 ∷ []) 1 ≡ 1
  pub body_of_four : needed (at (stages.Code 1 (2 ^ 32)) 12) 0 (0x84 ∷ []) 1 ≡ 4
  pub body_of_two : needed (at (stages.Code 1 (2 ^ 32)) 12) 0 (0x82 ∷ []) 1 ≡ 3
  pub body_too_large : needed (at (stages.Code 1 900) 12) 0 (0x84 ∷ []) 1 ≡ 1
  pub body_in_two : needed (at (stages.Code 1 900000) 12) 0 (0x84 ∷ []) 1 ≡ 2
  pub behind_code : needed (at (stages.Code 0 0) 12) 0 (0x0b ∷ 0x85 ∷ []) 1 ≡ 4
  pub contents : needed sections 0 (0x01 ∷ 0x05 ∷ 0x01 ∷ []) 4 ≡ 4
  pub header : needed (at stages.Header 0) 0 (0x00 ∷ 0x61 ∷ 0x73 ∷ 0x6d ∷ 0x01 ∷ 0x00 ∷ 0x00 ∷ []) 1 ≡ 1

pub need_rows : NeedRows
unfolding needed least_within
need_rows = record {
  no_size = refl;
  five = refl;
  two = refl;
  padded = refl;
  large = refl;
  fifth = refl;
  none = refl;
  late = refl;
  code_of_five = refl;
  code_of_none = refl;
  code_fifth = refl;
  code_too_far = refl;
  body_of_four = refl;
  body_of_two = refl;
  body_too_large = refl;
  body_in_two = refl;
  behind_code = refl;
  contents = refl;
  header = refl;
}

-- Contents begin behind an id and a size of one byte, or of two where it is padded, and nowhere else.
pub record PlaceRows : Type 0 where
  pub behind_size : HasContentsAt (start_of (0x00 ∷ 0x02 ∷ 0x01 ∷ 0x61 ∷ [])) 2
  pub padded : HasContentsAt (start_of (0x00 ∷ 0x82 ∷ 0x00 ∷ 0x01 ∷ 0x61 ∷ [])) 3
  pub not_later : HasContentsAt (start_of (0x00 ∷ 0x02 ∷ 0x01 ∷ 0x61 ∷ [])) 3 → ⊥
  pub not_earlier : HasContentsAt (start_of (0x00 ∷ 0x82 ∷ 0x00 ∷ 0x01 ∷ 0x61 ∷ [])) 2 → ⊥

-- the number that begins at the second byte is the size
size_is : (text : List ℕ) (place : ℕ) (h : HasContentsAt (start_of (0x00 ∷ text)) place)
    → u32 (record { rest = text; place = 1; settings = no_features; start = 0 }) ≡ Done h.size (record { rest = h.rest; place = place; settings = no_features; start = 0 })
size_is text place h =
    let there : State = record { rest = text; place = 1; settings = no_features; start = 0 } in
    let after : State = record { rest = h.rest; place = place; settings = no_features; start = 0 } in
    decides-u32.complete there after h.size h.number (record { parts = ap (drop 1) h.parts; place = omega (arith, h.behind); settings = refl; start = refl }) h.sized

late_is : (place : ℕ) → HasContentsAt (start_of (0x00 ∷ 0x02 ∷ 0x01 ∷ 0x61 ∷ [])) place → place ≡ 2
unfolding unsigned
late_is place h = sym (ap (λ (u : State). u.place) (state_is 2 h.size (record { rest = 0x01 ∷ 0x61 ∷ []; place = 2; settings = no_features; start = 0 }) _ (size_is (0x02 ∷ 0x01 ∷ 0x61 ∷ []) place h)))

early_is : (place : ℕ) → HasContentsAt (start_of (0x00 ∷ 0x82 ∷ 0x00 ∷ 0x01 ∷ 0x61 ∷ [])) place → place ≡ 3
unfolding unsigned
early_is place h = sym (ap (λ (u : State). u.place) (state_is 2 h.size (record {
  rest = 0x01 ∷ 0x61 ∷ [];
  place = 3;
  settings = no_features;
  start =
      0;
}) _ (size_is (0x82 ∷ 0x00 ∷ 0x01 ∷ 0x61 ∷ []) place h)))

pub place_rows : PlaceRows
place_rows = record {
  behind_size = record { id = 0; size = 2; number = 0x02 ∷ []; rest = 0x01 ∷ 0x61 ∷ []; sized = last 32 2 2 (omega arith) (omega arith) refl; parts = refl; behind = refl };
  padded = record {
    id = 0;
    size = 2;
    number = 0x82 ∷ 0x00 ∷ [];
    rest = 0x01 ∷ 0x61 ∷ [];
    sized = more 32 2 0x82 0 (0x00 ∷ []) (omega arith) (omega arith) (last 25 0 0 (omega arith) (omega arith) refl) refl;
    parts = refl;
    behind = refl;
  };
  not_later = λ h. let e = late_is 3 h in omega (arith, e);
  not_earlier = λ h. let e = early_is 2 h in omega (arith, e);
}
