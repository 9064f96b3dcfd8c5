-- Frames and calls, each row by computing it.
use Rattle.std.proofs.Common.{◌≡◌, ◌∙◌, ℕ, ◌++◌, List, [], ◌∷◌, refl, sym, ap, subst, arith, get_or, Bool, true, false, Ok}
use Rattle.wasm_types.specs.decoding.Decoder.{State, Outcome, Done, Short, Fault}
use Rattle.wasm_types.specs.decoding.ExactLaws.{value_is, state_is}
use Rattle.wasm_types.specs.decoding.Leb.{unsigned}
use Rattle.wasm_types.specs.settings.Settings.{Settings}
use Rattle.wasm_sections_items.specs.frames.Decode.{header as header_decoder}
use Rattle.wasm_sections_parser.specs.Parsers.{Parser}
use Rattle.wasm_sections_parser.specs.declared.progress.Stage.{Stage}
use Rattle.wasm_sections_parser.specs.declared.progress.Stage.TheVariants as stages
use Rattle.wasm_sections_parser.specs.declared.progress.Progress.{Progress}
use Rattle.wasm_sections_parser.specs.Steps.{Shape, version, contents, in_part, next_section, next_header, step}
use Rattle.wasm_sections_parser.specs.declared.frame.Frame.{Frame}
use Rattle.wasm_sections_parser.specs.declared.frame.Frame.TheVariants as frames
use Rattle.wasm_sections_parser.specs.declared.parser.Chunk.TheVariants.{Parsed}
use Rattle.wasm_sections_parser.specs.Parsing.{comes, IsNext, Parses}
use Rattle.wasm_sections_tests.specs.Frames.{ShapeRows, PlacedRows, ParseRows, CallRows, fresh, begun, ended, eight, header}

pub shape_rows : ShapeRows
shape_rows = record {
  of_a_module = refl;
  of_a_component = refl;
  named = λ c n d. rw (n, d) refl;
  with_id = refl;
  code_start = refl;
  body = refl;
  end = refl;
  several = refl;
  settings = λ z. refl;
  stage = λ z. refl;
  at_first = refl;
  going_on = refl;
  in_code = refl;
  behind_the_end = refl;
  behind_a_refusal = refl;
  between_sections = refl;
  before_the_header = refl;
  behind_the_code = refl;
  within_the_code = refl;
  before_a_body = refl;
}

-- how many bodies are left
abbrev count_of : Stage → ℕ
count_of (stages.Code n end) = n
count_of s = 0

pub placed_rows : PlacedRows
placed_rows = record {
  headed = (refl, refl);
  headed_elsewhere = λ h. let e = h.0 in omega (arith, e);
  headed_to_another_end = λ h. let e = h.1 in omega (arith, e);
  with_id = (refl, refl, refl);
  with_id_too_long = λ h. let e = h.1 in omega (arith, e);
  code_start = (refl, refl);
  code_of_another_size = λ h. let e = h.0 in omega (arith, e);
  code_of_another_count = λ h. let e : ◌≡◌ {A = ℕ} 3 2 = ap count_of h.1 in omega (arith, e);
  body = (refl, refl, refl);
  body_too_short = λ h. let e = h.1 in omega (arith, e);
  end = refl;
  end_elsewhere = λ e. omega (arith, e);
  named = λ c r o d. rw (r, o, d) (refl, refl, refl);
  named_elsewhere = λ c r h. let e = rw r at h.2 in omega (arith, e);
}

-- ---- calls

abbrev version_of : Shape → ℕ
version_of (version h) = h.version
version_of x = 0

abbrev fault_of : Outcome (Shape × Progress) → ℕ
fault_of (Done x s) = 0
fault_of (Short p n) = p
fault_of (Fault k p) = p

abbrev behind_header : Settings → State
behind_header z = record { rest = []; place = 8; settings = z; start = 0 }

pub header_read : (z : Settings) → comes (fresh z) eight ≡ Done (version (record { version = 1; layer = 0 }), (begun z).progress) (behind_header z)
unfolding step next_header header_decoder
header_read z = refl

pub header_next : (z : Settings) → IsNext (fresh z) eight 8 header (begun z)
header_next z = record { after = behind_header z; read = header_read z; placed = (refl, refl); consumed = refl; offset = refl; settings = refl }

-- the same, with a byte behind it
pub header_and_more : (z : Settings) → IsNext (fresh z) (eight ++ 0x01 ∷ []) 8 header (begun z)
unfolding step next_header header_decoder
header_and_more z = record {
  after = record { rest = 0x01 ∷ []; place = 8; settings = z; start = 0 };
  read = refl;
  placed = (refl, refl);
  consumed = refl;
  offset = refl;
  settings = refl;
}

-- where a header ends, whatever is told of it
pub header_ends : (z : Settings) (n : ℕ) (f : Frame) (q : Parser) (h : IsNext (fresh z) eight n f q) → h.after.place ≡ 8
header_ends z n f q h = ap (λ (s : State). s.place) (sym (state_is _ _ _ _ (sym (header_read z) ∙ h.read)))

pub parse_rows : ParseRows
unfolding step next_header header_decoder next_section contents in_part unsigned
parse_rows = record {
  headed = header_next;
  headed_by_seven = λ z h. let e = h.consumed in let p = header_ends z _ _ _ h in omega (arith, e, p);
  headed_as_another = λ z h.
      let e = value_is _ _ _ _ (sym (header_read z) ∙ h.read) in
      let n : ◌≡◌ {A = ℕ} 1 2 = ap (λ (x : Shape × Progress). version_of x.0) e in omega (arith, n);
  headed_and_stayed = λ z h. let e = h.offset in let p = header_ends z _ _ _ h in omega (arith, e, p);
  late = λ z. (tt, refl, λ e. refl, refl);
  late_elsewhere = λ z h. let e : ◌≡◌ {A = ℕ} 10 8 = ap fault_of h.1 in omega (arith, e);
  late_and_not_failed = λ z h. let e : stages.Sections ≡ stages.Failed = ap (λ (p : Parser). p.progress.stage) h.3 in cc;
  out_of_memory = λ z h. h.0;
  cut_short = λ z. (tt, refl, λ e. absurd cc, refl);
  cut_short_while_more_come = λ z h. let e = h.2 refl in cc;
  asked_where_none_come = λ z n h. let e = h.0 in cc;
  end = λ z. (refl, refl, refl, refl, refl);
  end_elsewhere = λ z h. let e = h.3 in let n : ◌≡◌ {A = ℕ} 9 8 = cc in omega (arith, n);
  end_without_bodies = λ z. (refl, refl, refl, refl, refl);
  end_despite_no_bodies = λ z h. let e = h.1 in cc;
  end_refused = λ z h. let e = h.1 in cc;
  over = λ z. (refl, refl, refl);
  over_elsewhere = λ z h. let e = h.2 in omega (arith, e);
  over_otherwise = λ z h. let e = h.0 in cc;
  end_again = λ z h. h;
}

-- an id alone is no frame
no_frame : (z : Settings) (b : ℕ) (x : Shape × Progress) (s : State) → 1 ≡ b → comes (begun z) (b ∷ []) ≡ Done x s → ⊥
unfolding step next_section unsigned
no_frame z b x s one read = let r : comes (begun z) (1 ∷ []) ≡ Done x s = subst (λ (n : ℕ). comes (begun z) (n ∷ []) ≡ Done x s) (sym one) read in cc

-- the end does not come before a byte
pub no_end : (z : Settings) (piece later : List ℕ) (eof : Bool) → 0x01 ∷ [] ≡ piece ++ later → (eof ≡ true → later ≡ [])
    → Parses (begun z) piece eof (Ok (Parsed 0 (frames.End 8))) (ended z) → ⊥
no_end z [] later eof whole told p = let none = told p.0 in cc
no_end z (b ∷ []) later eof whole told p = let one : 1 ≡ b = ap (λ (xs : List ℕ). get_or xs 0 0) whole in no_frame z b _ _ one p.read
no_end z (b ∷ c ∷ cs) later eof whole told p = let none : [] ≡ c ∷ (cs ++ later) = cc in cc

pub call_rows : CallRows
call_rows = record {
  a_piece = λ z. record { piece = eight; later = 0x01 ∷ []; eof = false; whole = refl; told = λ e. absurd cc; parses = header_next z };
  end_before_bytes = λ z c. no_end z c.piece c.later c.eof c.whole c.told c.parses;
  both = λ z. (
    8,
    begun z,
    record { piece = eight; later = []; eof = true; whole = refl; told = λ e. refl; parses = header_next z },
    (0, ended z, record { piece = []; later = []; eof = true; whole = refl; told = λ e. refl; parses = (refl, refl, refl, refl, refl) }, (refl, refl)),
  );
  none = λ z. (refl, refl);
  none_but_moved = λ z h. let e : ◌≡◌ {A = ℕ} 0 8 = ap (λ (p : Parser). p.offset) h.0 in omega (arith, e);
  none_but_taken = λ z h. let e = h.1 in cc;
}
