-- Frames as what they are, where they stand, and what calls of a parser answer, worked by hand (WebAssembly 3.0, binary format,
-- modules).
use Rattle.std.specs.Prelude.{◌≡◌, ℕ, ◌++◌, List, [], ◌∷◌, true, false, None, Ok, Err}
use Rattle.wasm_types.specs.decoding.Decoder.{State}
use Rattle.wasm_types.specs.decoding.declared.error.ErrorKind.{ErrorKind}
use Rattle.wasm_types.specs.decoding.declared.error.ErrorKind.TheVariants.{EndOfData, OutOfMemory, Failed, Other}
use Rattle.wasm_types.specs.decoding.ErrorValue.{ErrorValue}
use Rattle.wasm_types.specs.settings.Settings.{Settings, no_features}
use Rattle.wasm_sections_parser.specs.declared.frame.CustomSectionReader.{CustomSectionReader}
use Rattle.wasm_sections_parser.specs.declared.frame.Encoding.TheVariants.{Module, Component}
use Rattle.wasm_sections_parser.specs.declared.frame.Frame.{Frame}
use Rattle.wasm_sections_parser.specs.declared.frame.Frame.TheVariants as frames
use Rattle.wasm_sections_parser.specs.Parsers.{Parser, staged}
use Rattle.wasm_sections_parser.specs.declared.parser.Chunk.TheVariants.{NeedMoreData, Parsed}
use Rattle.wasm_sections_parser.specs.declared.progress.Stage.{Stage}
use Rattle.wasm_sections_parser.specs.declared.progress.Stage.TheVariants as stages
use Rattle.wasm_sections_parser.specs.declared.progress.Progress.{Progress}
use Rattle.wasm_sections_parser.specs.Places.{IsPlacedBy}
use Rattle.wasm_sections_parser.specs.Steps.{version, custom, section, code, entry, the_end, is_over}
use Rattle.wasm_sections_parser.specs.Parsing.{shape_of, between, Parses}
use Rattle.wasm_sections_parser.specs.runs.calls.Calls.{shapes_of, Called, Calls}

-- in this stage, behind sections up to a place, with so many functions and no body
abbrev pub progress : Stage → ℕ → ℕ → Progress
progress g last functions = record { stage = g; last = last; functions = functions; bodies = 0; data_count = None; segments = 0 }

-- a parser with these settings, at this offset
abbrev pub parser : Settings → ℕ → Stage → ℕ → ℕ → Parser
parser z place g last functions = record { offset = place; settings = z; progress = progress g last functions }

-- before a module, behind its header, and behind a refusal there
abbrev pub fresh : Settings → Parser
fresh z = parser z 0 stages.Header 0 0

abbrev pub begun : Settings → Parser
begun z = parser z 8 stages.Sections 0 0

abbrev pub failed : Settings → Parser
failed z = parser z 8 stages.Failed 0 0

abbrev pub ended : Settings → Parser
ended z = parser z 8 stages.Ended 0 0

-- behind a function section of one function
abbrev pub with_function : Settings → Stage → Parser
with_function z g = parser z 18 g 3 1

abbrev pub eight : List ℕ
eight = 0x00 ∷ 0x61 ∷ 0x73 ∷ 0x6d ∷ 0x01 ∷ 0x00 ∷ 0x00 ∷ 0x00 ∷ []

abbrev pub header : Frame
header = frames.Version 1 Module (record { start = 0; end = 8 })

-- an error of this kind at this offset
abbrev pub error : ErrorKind → ℕ → ErrorValue
error kind n = record { kind = kind; offset = n; message = [] }

-- contents at offset 10
abbrev pub contents : List ℕ → State
contents rest = record { rest = rest; place = 10; settings = no_features; start = 10 }

-- what frames are, and stages
pub record ShapeRows : Type 0 where
  pub of_a_module : shape_of header ≡ version (record { version = 1; layer = 0 })
  pub of_a_component : shape_of (frames.Version 13 Component (record { start = 0; end = 8 })) ≡ version (record { version = 13; layer = 1 })
  pub named : (c : CustomSectionReader) → c.name.now ≡ 0x61 ∷ [] → c.«data».now ≡ 0x05 ∷ [] → shape_of (frames.Custom c) ≡ custom (0x61 ∷ []) (0x05 ∷ [])
  pub with_id : shape_of (frames.Section 3 (contents (0x01 ∷ 0x00 ∷ []))) ≡ section 3 (0x01 ∷ 0x00 ∷ [])
  pub code_start : shape_of (frames.CodeStart 2 (record { start = 10; end = 15 }) 5) ≡ code 2 5
  pub body : shape_of (frames.CodeEntry (contents (0x00 ∷ 0x0b ∷ []))) ≡ entry (0x00 ∷ 0x0b ∷ [])
  pub end : shape_of (frames.End 10) ≡ the_end
  pub several : shapes_of (header ∷ frames.End 8 ∷ []) ≡ version (record { version = 1; layer = 0 }) ∷ the_end ∷ []
  pub settings : (z : Settings) → (begun z).settings ≡ z
  pub stage : (z : Settings) → staged (with_function z stages.Sections) stages.Failed ≡ with_function z stages.Failed
  pub at_first : is_over (progress stages.Header 0 0) ≡ false
  pub going_on : is_over (progress stages.Sections 4 0) ≡ false
  pub in_code : is_over (progress (stages.Code 1 9) 12 0) ≡ false
  pub behind_the_end : is_over (progress stages.Ended 4 0) ≡ true
  pub behind_a_refusal : is_over (progress stages.Failed 4 0) ≡ true
  pub between_sections : between stages.Sections 8 ≡ true
  pub before_the_header : between stages.Header 0 ≡ false
  pub behind_the_code : between (stages.Code 0 9) 9 ≡ true
  pub within_the_code : between (stages.Code 0 9) 8 ≡ false
  pub before_a_body : between (stages.Code 1 9) 9 ≡ false

-- where frames stand that end at offset 12, where contents may begin at 10 alone
abbrev pub Placed : Frame → Progress → Type 0
Placed f q = IsPlacedBy (λ n. n ≡ 10) no_features f q 12

pub record PlacedRows : Type 0 where
  pub headed : Placed (frames.Version 1 Module (record { start = 4; end = 12 })) (progress stages.Sections 0 0)
  pub headed_elsewhere : Placed (frames.Version 1 Module (record { start = 5; end = 12 })) (progress stages.Sections 0 0) → ⊥
  pub headed_to_another_end : Placed (frames.Version 1 Module (record { start = 4; end = 11 })) (progress stages.Sections 0 0) → ⊥
  pub with_id : Placed (frames.Section 3 (contents (0x01 ∷ 0x00 ∷ []))) (progress stages.Sections 3 1)
  pub with_id_too_long : Placed (frames.Section 3 (contents (0x01 ∷ 0x00 ∷ 0x00 ∷ []))) (progress stages.Sections 3 1) → ⊥
  pub code_start : Placed (frames.CodeStart 2 (record { start = 10; end = 15 }) 5) (progress (stages.Code 2 15) 12 0)
  pub code_of_another_size : Placed (frames.CodeStart 2 (record { start = 10; end = 15 }) 6) (progress (stages.Code 2 15) 12 0) → ⊥
  pub code_of_another_count : Placed (frames.CodeStart 2 (record { start = 10; end = 15 }) 5) (progress (stages.Code 3 15) 12 0) → ⊥
  pub body : Placed (frames.CodeEntry (contents (0x00 ∷ 0x0b ∷ []))) (progress (stages.Code 1 15) 12 0)
  pub body_too_short : Placed (frames.CodeEntry (contents (0x00 ∷ []))) (progress (stages.Code 1 15) 12 0) → ⊥
  pub end : Placed (frames.End 12) (progress stages.Ended 0 0)
  pub end_elsewhere : Placed (frames.End 11) (progress stages.Ended 0 0) → ⊥
  pub named : (c : CustomSectionReader) → c.range ≡ record { start = 10; end = 12 } → c.data_offset ≡ 12 → c.«data».now ≡ [] → Placed (frames.Custom c) (progress stages.Sections 0 0)
  pub named_elsewhere : (c : CustomSectionReader) → c.range ≡ record { start = 9; end = 12 } → Placed (frames.Custom c) (progress stages.Sections 0 0) → ⊥

-- what a call answers: a frame, an error that fails the parser, or the end where the counts agree
pub record ParseRows : Type 0 where
  pub headed : (z : Settings) → Parses (fresh z) eight true (Ok (Parsed 8 header)) (begun z)
  pub headed_by_seven : (z : Settings) → Parses (fresh z) eight true (Ok (Parsed 7 header)) (begun z) → ⊥
  pub headed_as_another : (z : Settings) → Parses (fresh z) eight true (Ok (Parsed 8 (frames.Version 2 Module (record { start = 0; end = 8 })))) (begun z) → ⊥
  pub headed_and_stayed : (z : Settings) → Parses (fresh z) eight true (Ok (Parsed 8 header)) (fresh z) → ⊥
  pub late : (z : Settings) → Parses (parser z 8 stages.Sections 4 0) (0x03 ∷ 0x02 ∷ []) false (Err (error Other 10)) (parser z 8 stages.Failed 4 0)
  pub late_elsewhere : (z : Settings) → Parses (parser z 8 stages.Sections 4 0) (0x03 ∷ 0x02 ∷ []) false (Err (error Other 8)) (parser z 8 stages.Failed 4 0) → ⊥
  pub late_and_not_failed : (z : Settings) → Parses (parser z 8 stages.Sections 4 0) (0x03 ∷ 0x02 ∷ []) false (Err (error Other 10)) (parser z 8 stages.Sections 4 0) → ⊥
  pub out_of_memory : (z : Settings) → Parses (fresh z) eight true (Err (error OutOfMemory 0)) (parser z 0 stages.Failed 0 0) → ⊥
  pub cut_short : (z : Settings) → Parses (begun z) (0x01 ∷ []) true (Err (error (EndOfData 1) 9)) (failed z)
  pub cut_short_while_more_come : (z : Settings) → Parses (begun z) (0x01 ∷ []) false (Err (error (EndOfData 1) 9)) (failed z) → ⊥
  pub asked_where_none_come : (z : Settings) (n : ℕ) → Parses (begun z) (0x01 ∷ []) true (Ok (NeedMoreData n)) (begun z) → ⊥
  pub end : (z : Settings) → Parses (begun z) [] true (Ok (Parsed 0 (frames.End 8))) (ended z)
  pub end_elsewhere : (z : Settings) → Parses (begun z) [] true (Ok (Parsed 0 (frames.End 9))) (ended z) → ⊥
  pub end_without_bodies : (z : Settings) → Parses (with_function z stages.Sections) [] true (Err (error Other 18)) (with_function z stages.Failed)
  pub end_despite_no_bodies : (z : Settings) → Parses (with_function z stages.Sections) [] true (Ok (Parsed 0 (frames.End 18))) (with_function z stages.Ended) → ⊥
  pub end_refused : (z : Settings) → Parses (begun z) [] true (Err (error Other 8)) (failed z) → ⊥
  pub over : (z : Settings) → Parses (ended z) [] true (Err (error Failed 8)) (ended z)
  pub over_elsewhere : (z : Settings) → Parses (ended z) [] true (Err (error Failed 9)) (ended z) → ⊥
  pub over_otherwise : (z : Settings) → Parses (ended z) [] true (Err (error Other 8)) (ended z) → ⊥
  pub end_again : (z : Settings) → Parses (ended z) [] true (Ok (Parsed 0 (frames.End 8))) (ended z) → ⊥

-- calls over a text that comes in pieces
pub record CallRows : Type 0 where
  pub a_piece : (z : Settings) → Called (fresh z) (eight ++ 0x01 ∷ []) (Ok (Parsed 8 header)) (begun z)
  pub end_before_bytes : (z : Settings) → Called (begun z) (0x01 ∷ []) (Ok (Parsed 0 (frames.End 8))) (ended z) → ⊥
  pub both : (z : Settings) → Calls (fresh z) eight (header ∷ frames.End 8 ∷ []) (ended z) []
  pub none : (z : Settings) → Calls (fresh z) eight [] (fresh z) eight
  pub none_but_moved : (z : Settings) → Calls (fresh z) eight [] (begun z) eight → ⊥
  pub none_but_taken : (z : Settings) → Calls (fresh z) eight [] (fresh z) [] → ⊥
