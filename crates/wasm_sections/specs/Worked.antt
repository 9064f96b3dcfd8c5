-- Worked frames as payloads, calls of the parser, and walks over a module.
use Rattle.std.proofs.Common.{◌≡◌, ℕ, List, [], ◌∷◌, refl, sym, subst, arith, Bool, true, false, Some, None, Ok, Err, inl, inr}
use Rattle.wasm_types.specs.settings.Settings.{Settings, no_features}
use Rattle.wasm_types.specs.decoding.declared.Refusal.TheVariants as refusals
use Rattle.wasm_types.specs.decoding.Decoder.{State, Outcome, Done, Short, Fault}
use Rattle.wasm_types.specs.decoding.ExactLaws.{value_is, state_is}
use Rattle.wasm_types.specs.decoding.Leb.{unsigned}
use Rattle.wasm_types.specs.decoding.declared.error.ErrorKind.TheVariants.{Failed, Other, OutOfMemory}
use Rattle.wasm_types.specs.decoding.ErrorValue.{ErrorValue}
use Rattle.wasm_types.specs.reader.Reading.{IsNotMemory}
use Rattle.wasm_types.specs.declared.rec_group.RecGroup.{RecGroup}
use Rattle.wasm_sections_items.specs.frames.Decode.{header}
use Rattle.wasm_sections_items.specs.declared.limited.section.SectionLimited.{SectionLimited}
use Rattle.wasm_sections_items.specs.declared.imports.import.Import.{Import}
use Rattle.wasm_sections_parser.specs.declared.frame.Encoding.TheVariants.{Module}
use Rattle.wasm_sections_parser.specs.declared.frame.Frame.TheVariants as frames
use Rattle.wasm_sections_parser.specs.Parsers.{Parser}
use Rattle.wasm_sections_parser.specs.declared.progress.Stage.{Stage}
use Rattle.wasm_sections_parser.specs.declared.progress.Stage.TheVariants as stages
use Rattle.wasm_sections_parser.specs.declared.progress.Progress.{Progress}
use Rattle.wasm_sections_parser.specs.Needs.{least_within, needed}
use Rattle.wasm_sections_parser.specs.Steps.{Shape, in_part, contents, next_section, next_header, step}
use Rattle.wasm_sections_parser.specs.Parsing.{IsNext}
use Rattle.wasm_sections.specs.declared.payload.Payload.{Payload}
use Rattle.wasm_sections.specs.declared.payload.Payload.TheVariants as payloads
use Rattle.wasm_sections.specs.declared.parser.Chunk.TheVariants.{NeedMoreData, Parsed}
use Rattle.wasm_sections.specs.Payloads.{front_of, IsPayloadOf, IsRefusedAs}
use Rattle.wasm_sections.specs.Parsing.{IsUnreadable, ParsesPayload, EndIsLast}
use Rattle.wasm_sections.specs.Walking.{Standing, NextPayload, Walks}

-- ---- frames

-- contents that begin at this offset
abbrev at : ℕ → List ℕ → State
at place text = record { rest = text; place = place; settings = no_features; start = place }

-- a count of one, and a group; and where the group begins
abbrev one_group : State
one_group = at 20 (0x01 ∷ 0x60 ∷ 0x00 ∷ 0x00 ∷ [])

abbrev behind_count : State
behind_count = record { rest = 0x60 ∷ 0x00 ∷ 0x00 ∷ []; place = 21; settings = no_features; start = 20 }

abbrev counted : ℕ → State → Outcome ℕ
counted n t = Done n t

-- The header. A start section and a data count section, each one number; not another number, not at another place, and not each
-- other. A type section of one group: its reader has that count and stands behind it; and it is no import section.
pub record PayloadRows : Type 0 where
  pub version : IsPayloadOf (frames.Version 1 Module (record { start = 0; end = 8 })) (payloads.Version 1 Module (record { start = 0; end = 8 }))
  pub not_end : IsPayloadOf (frames.Version 1 Module (record { start = 0; end = 8 })) (payloads.End 8) → ⊥
  pub start : IsPayloadOf (frames.Section 8 (at 20 (0x05 ∷ []))) (payloads.StartSection 5 (record { start = 20; end = 21 }))
  pub not_another_start : IsPayloadOf (frames.Section 8 (at 20 (0x05 ∷ []))) (payloads.StartSection 6 (record { start = 20; end = 21 })) → ⊥
  pub not_elsewhere : IsPayloadOf (frames.Section 8 (at 20 (0x05 ∷ []))) (payloads.StartSection 5 (record { start = 20; end = 22 })) → ⊥
  pub data_count : IsPayloadOf (frames.Section 12 (at 20 (0x02 ∷ []))) (payloads.DataCountSection 2 (record { start = 20; end = 21 }))
  pub not_a_start : IsPayloadOf (frames.Section 12 (at 20 (0x02 ∷ []))) (payloads.StartSection 2 (record { start = 20; end = 21 })) → ⊥
  pub types : (s : SectionLimited RecGroup) → s.count ≡ 1 → s.reader ≡ behind_count → IsPayloadOf (frames.Section 1 one_group) (payloads.TypeSection s)
  pub types_alone : (s : SectionLimited RecGroup) → IsPayloadOf (frames.Section 1 one_group) (payloads.TypeSection s) → (s.count ≡ 1) × (s.reader ≡ behind_count)
  pub no_imports : (s : SectionLimited Import) → IsPayloadOf (frames.Section 1 one_group) (payloads.ImportSection s) → ⊥

pub payload_rows : PayloadRows
unfolding unsigned
payload_rows = record {
  version = refl;
  not_end = λ h. cc;
  start = (refl, refl, refl, refl);
  not_another_start = λ h. let n : 5 ≡ 6 = value_is 5 6 (at 20 (0x05 ∷ [])) (at 20 (0x05 ∷ [])) h.1 in omega (arith, n);
  not_elsewhere = λ h. omega (arith, h.3);
  data_count = (refl, refl, refl, refl);
  not_a_start = λ h. omega (arith, h.0);
  types = λ s n r. (refl, λ i. counted (sym n i) (sym r i));
  types_alone = λ s h. (sym (value_is 1 s.count behind_count s.reader h.1), sym (state_is 1 s.count behind_count s.reader h.1));
  no_imports = λ s h. omega (arith, h.0);
}

-- A start section with a byte behind its number is refused at this byte, and one without a number where it ends. So is a type
-- section whose count goes on behind it, and one with no byte. What has no meaning here is not read.
pub record RefusedRows : Type 0 where
  pub byte_behind : front_of 8 (at 20 (0x05 ∷ 0x00 ∷ [])) ≡ Fault refusals.Other 21
  pub no_number : front_of 8 (at 20 []) ≡ Fault refusals.Other 20
  pub long_count : front_of 1 (at 20 (0x81 ∷ [])) ≡ Fault refusals.Other 21
  pub no_count : front_of 1 (at 20 []) ≡ Fault refusals.Other 20
  pub unknown : front_of 99 (at 20 (0x05 ∷ [])) ≡ Done 0 (at 20 (0x05 ∷ []))
  pub refused : IsRefusedAs (frames.Section 8 (at 20 (0x05 ∷ 0x00 ∷ []))) (record { kind = Other; offset = 21; message = [] })
  pub not_elsewhere : IsRefusedAs (frames.Section 8 (at 20 (0x05 ∷ 0x00 ∷ []))) (record { kind = Other; offset = 20; message = [] }) → ⊥
  pub not_the_number : IsRefusedAs (frames.Section 8 (at 20 (0x05 ∷ []))) (record { kind = Other; offset = 21; message = [] }) → ⊥

abbrev refused_at : ℕ → Outcome ℕ
refused_at p = Fault refusals.Other p

place_is : (p q : ℕ) → refused_at p ≡ refused_at q → p ≡ q
place_is p q e = cc

pub refused_rows : RefusedRows
unfolding unsigned
refused_rows = record {
  byte_behind = refl;
  no_number = refl;
  long_count = refl;
  no_count = refl;
  unknown = refl;
  refused = refl;
  not_elsewhere = λ h. let p : 21 ≡ 20 = place_is 21 20 h in omega (arith, p);
  not_the_number = λ h. let e : counted 5 (at 20 (0x05 ∷ [])) ≡ refused_at 21 = h in cc;
}

-- ---- calls

-- a parser with these settings, in this stage
abbrev parser : Settings → ℕ → Stage → Parser
parser z place g = record { offset = place; settings = z; progress = record { stage = g; last = 0; functions = 0; bodies = 0; data_count = None; segments = 0 } }

-- bytes left at an offset, where data began
abbrev left : Settings → ℕ → ℕ → List ℕ → State
left z start place text = record { rest = text; place = place; settings = z; start = start }

abbrev first_eight : List ℕ
first_eight = 0x00 ∷ 0x61 ∷ 0x73 ∷ 0x6d ∷ 0x01 ∷ 0x00 ∷ 0x00 ∷ 0x00 ∷ []

abbrev first_seven : List ℕ
first_seven = 0x00 ∷ 0x61 ∷ 0x73 ∷ 0x6d ∷ 0x01 ∷ 0x00 ∷ 0x00 ∷ []

abbrev version_1 : Payload
version_1 = payloads.Version 1 Module (record { start = 0; end = 8 })

-- a start section with a byte behind its number
abbrev long_start : List ℕ
long_start = 0x08 ∷ 0x02 ∷ 0x05 ∷ 0x00 ∷ []

abbrev error : ErrorValue
error = record { kind = Other; offset = 11; message = [] }

abbrev failed_before : ErrorValue
failed_before = record { kind = Failed; offset = 8; message = [] }

-- a parser behind a start section
abbrev behind_start : Settings → Parser
behind_start z = record { offset = 12; settings = z; progress = record { stage = stages.Sections; last = 9; functions = 0; bodies = 0; data_count = None; segments = 0 } }

-- Seven bytes of the header need one more, and not two; all eight are a payload. Behind it no byte needs two, or is the end where none
-- follows; an id, a size of 5 and one byte need four, and so do an id and the first of a size of 5 or more, not one. A start section with a byte behind its number is refused: the parser stays
-- where it stood, and fails from then on; never for memory. The end comes once, and last.
pub record CallRows : Type 0 where
  pub seven : (z : Settings) → ParsesPayload (parser z 0 stages.Header) first_seven false (Ok (NeedMoreData 1)) (parser z 0 stages.Header)
  pub not_two : (z : Settings) → ParsesPayload (parser z 0 stages.Header) first_seven false (Ok (NeedMoreData 2)) (parser z 0 stages.Header) → ⊥
  pub eight : (z : Settings) → ParsesPayload (parser z 0 stages.Header) first_eight false (Ok (Parsed 8 version_1)) (parser z 8 stages.Sections)
  pub none : (z : Settings) → ParsesPayload (parser z 8 stages.Sections) [] false (Ok (NeedMoreData 2)) (parser z 8 stages.Sections)
  pub end : (z : Settings) → ParsesPayload (parser z 8 stages.Sections) [] true (Ok (Parsed 0 (payloads.End 8))) (parser z 8 stages.Ended)
  pub no_need_at_the_end : (z : Settings) → ParsesPayload (parser z 8 stages.Sections) [] true (Ok (NeedMoreData 2)) (parser z 8 stages.Sections) → ⊥
  pub part : (z : Settings) → ParsesPayload (parser z 8 stages.Sections) (0x01 ∷ 0x05 ∷ 0x01 ∷ []) false (Ok (NeedMoreData 4)) (parser z 8 stages.Sections)
  pub part_of_size : (z : Settings) → ParsesPayload (parser z 8 stages.Sections) (0x01 ∷ 0x85 ∷ []) false (Ok (NeedMoreData 4)) (parser z 8 stages.Sections)
  pub not_one : (z : Settings) → ParsesPayload (parser z 8 stages.Sections) (0x01 ∷ 0x85 ∷ []) false (Ok (NeedMoreData 1)) (parser z 8 stages.Sections) → ⊥
  pub refused : (z : Settings) → ParsesPayload (parser z 8 stages.Sections) long_start false (Err error) (parser z 8 stages.Failed)
  pub failed : (z : Settings) → ParsesPayload (parser z 8 stages.Failed) first_eight false (Err failed_before) (parser z 8 stages.Failed)
  pub not_for_memory : (z : Settings) (e : ErrorValue) → IsUnreadable (parser z 8 stages.Sections) long_start false e (parser z 8 stages.Failed) → e.kind ≡ OutOfMemory → ⊥
  pub end_last : EndIsLast (version_1 ∷ payloads.End 8 ∷ [])
  pub end_twice : EndIsLast (version_1 ∷ payloads.End 8 ∷ payloads.End 8 ∷ []) → ⊥
  pub no_end : EndIsLast (version_1 ∷ []) → ⊥
  pub not_again : (z : Settings) → ParsesPayload (parser z 8 stages.Failed) first_eight false (Ok (Parsed 8 version_1)) (parser z 16 stages.Sections) → ⊥

abbrev short : ℕ → ℕ → Outcome (Shape × Progress)
short p n = Short p n

need_is : (p q n m : ℕ) → short p n ≡ short q m → n ≡ m
need_is p q n m e = cc

header_next : (z : Settings) → IsNext (parser z 0 stages.Header) first_eight 8 (frames.Version 1 Module (record { start = 0; end = 8 })) (parser z 8 stages.Sections)
unfolding step next_header header
header_next z = record { after = left z 0 8 []; read = refl; placed = (refl, refl); consumed = refl; offset = refl; settings = refl }

start_next : (z : Settings) → IsNext (parser z 8 stages.Sections) long_start 4 (frames.Section 8 (left z 10 10 (0x05 ∷ 0x00 ∷ []))) (behind_start z)
unfolding step next_section contents in_part unsigned
start_next z = record { after = left z 8 12 []; read = refl; placed = (refl, refl, refl); consumed = refl; offset = refl; settings = refl }

pub call_rows : CallRows
unfolding step next_header header next_section contents in_part unsigned needed least_within
call_rows = record {
  seven = λ z. (refl, (4, 1, refl, refl), refl);
  not_two = λ z h. let n : 1 ≡ h.1.1 = need_is 4 h.1.0 1 h.1.1 h.1.2 in let two : 2 ≡ h.1.1 = h.1.3 in omega (arith, n, two);
  eight = λ z. (frames.Version 1 Module (record { start = 0; end = 8 }), header_next z, refl);
  none = λ z. (refl, refl, refl);
  end = λ z. (frames.End 8, (refl, refl, refl, refl, refl), refl);
  no_need_at_the_end = λ z h. let e = h.0 in cc;
  part = λ z. (refl, (10, 4, refl, refl), refl);
  part_of_size = λ z. (refl, (10, 1, refl, refl), refl);
  not_one = λ z h. let four : 1 ≡ 4 = h.1.3 in omega (arith, four);
  refused = λ z. inr (record { size = 4; frame = frames.Section 8 (left z 10 10 (0x05 ∷ 0x00 ∷ [])); behind = behind_start z; parses = start_next z; refused = refl; no_memory = tt; failed = refl });
  failed = λ z. inl (refl, refl, refl);
  not_for_memory = λ z e h k. subst IsNotMemory k h.no_memory;
  end_last = (refl, refl);
  end_twice = λ h. let e = h.1.0 in cc;
  no_end = λ h. cc;
  not_again = λ z h. h.1;
}

-- ---- walks

abbrev standing : Parser → List ℕ → Bool → Standing
standing p text over = record { parser = p; rest = text; over = over }

-- A bare header: the header, and the end, behind which nothing comes. A start section with a byte behind its number is refused, and
-- nothing comes behind that.
pub record WalkRows : Type 0 where
  pub bare_header : (z : Settings) → Walks (standing (parser z 0 stages.Header) first_eight false) (version_1 ∷ payloads.End 8 ∷ []) (standing (parser z 8 stages.Ended) [] true)
  pub nothing_more : (z : Settings) → NextPayload (standing (parser z 8 stages.Ended) [] true) None (standing (parser z 8 stages.Ended) [] true)
  pub not_nothing_yet : (z : Settings) → NextPayload (standing (parser z 8 stages.Sections) [] false) None (standing (parser z 8 stages.Sections) [] true) → ⊥
  pub refused : (z : Settings) → NextPayload (standing (parser z 8 stages.Sections) long_start false) (Some (Err error)) (standing (behind_start z) [] true)
  pub nothing_behind : (z : Settings) → NextPayload (standing (behind_start z) [] true) None (standing (behind_start z) [] true)
  pub no_end_behind : (z : Settings) → NextPayload (standing (behind_start z) [] true) (Some (Ok (payloads.End 12))) (standing (behind_start z) [] true) → ⊥

pub walk_rows : WalkRows
unfolding unsigned
walk_rows = record {
  bare_header =
      λ z. (
        standing (parser z 8 stages.Sections) [] false,
        (refl, (frames.Version 1 Module (record { start = 0; end = 8 }), (8, header_next z, refl), refl, refl)),
        (standing (parser z 8 stages.Ended) [] true, (refl, (frames.End 8, (0, (refl, refl, refl, refl, refl), refl), refl, refl)), refl),
      );
  nothing_more = λ z. (refl, refl);
  not_nothing_yet = λ z h. let e = h.0 in cc;
  refused = λ z. (refl, refl, tt, inr (frames.Section 8 (left z 10 10 (0x05 ∷ 0x00 ∷ [])), (4, start_next z, refl), refl));
  nothing_behind = λ z. (refl, refl);
  no_end_behind = λ z h. let e = h.0 in cc;
}
