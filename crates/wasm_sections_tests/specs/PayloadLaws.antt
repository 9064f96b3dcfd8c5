-- Calls of the parser of payloads, each row by that of its frame.
use Rattle.std.proofs.Common.{◌≡◌, ℕ, ◌++◌, List, [], ◌∷◌, drop, refl, sym, ap, subst, arith, Bool, true, false, Ok}
use Rattle.wasm_types.specs.settings.Settings.{Settings}
use Rattle.wasm_sections_parser.specs.declared.frame.Frame.{Frame}
use Rattle.wasm_sections_parser.specs.declared.frame.Frame.TheVariants as frames
use Rattle.wasm_sections_parser.specs.Parsers.{Parser}
use Rattle.wasm_sections_parser.specs.declared.parser.Chunk.TheVariants.{Parsed}
use Rattle.wasm_sections_parser.specs.Parsing.{Parses}
use Rattle.wasm_sections.specs.declared.payload.Payload.TheVariants as payloads
use Rattle.wasm_sections.specs.Payloads.{IsPayloadOf}
use Rattle.wasm_sections_tests.specs.Frames.{begun, ended, eight, header}
use Rattle.wasm_sections_tests.specs.FrameLaws.{header_next, header_and_more, header_ends, no_end}
use Rattle.wasm_sections_tests.specs.Payloads.{TakenRows, PayloadRows, CalledRows}

pub taken_rows : TakenRows
taken_rows = record {
  asked = refl;
  given = refl;
  refused = refl;
  left = refl;
  none_left = refl;
  over = λ z. (refl, refl, refl);
  over_and_given = λ z h. h;
  over_otherwise = λ z h. let e = h.0 in cc;
  over_elsewhere = λ z h. let e = h.2 in omega (arith, e);
  over_and_moved = λ z h. let e = ap (λ (p : Parser). p.progress.stage) h.1 in cc;
}

pub payload_rows : PayloadRows
payload_rows = record {
  none = tt;
  each = (refl, (refl, tt));
  exchanged = λ h. let e = h.0 in cc;
  one_missing = λ h. h.1;
  one_too_many = λ h. h.1;
  frame = λ z. (8, header_and_more z, refl);
  frame_and_stayed = λ z h.
      let a = h.1.consumed in let b = header_ends z _ _ _ h.1 in
      let n : h.0 ≡ 8 = omega (arith, a, b) in
      let none : eight ≡ [] = subst (λ (k : ℕ). eight ≡ drop k eight) n h.2 in cc;
}

-- a frame whose payload is the end is the end
the_end : (f : Frame) → IsPayloadOf f (payloads.End 8) → f ≡ frames.End 8
the_end (frames.Version n e r) h = absurd cc
the_end (frames.Custom c) h = absurd cc
the_end (frames.Section id b) h = absurd h
the_end (frames.CodeStart n r k) h = absurd cc
the_end (frames.CodeEntry b) h = absurd cc
the_end (frames.End place) h = let e : 8 ≡ place = cc in ap frames.End (sym e)

no_end_payload : (z : Settings) (piece later : List ℕ) (eof : Bool) (f : Frame) → 0x01 ∷ [] ≡ piece ++ later → (eof ≡ true → later ≡ [])
    → Parses (begun z) piece eof (Ok (Parsed 0 f)) (ended z) → f ≡ frames.End 8 → ⊥
no_end_payload z piece later eof f whole told p e = no_end z piece later eof whole told (subst (λ (g : Frame). Parses (begun z) piece eof (Ok (Parsed 0 g)) (ended z)) e p)

pub called_rows : CalledRows
called_rows = record {
  a_piece = λ z. record { piece = eight; later = 0x01 ∷ []; eof = false; whole = refl; told = λ e. absurd cc; parses = (header, header_next z, refl) };
  both = λ z. (
    8,
    begun z,
    record { piece = eight; later = []; eof = true; whole = refl; told = λ e. refl; parses = (header, header_next z, refl) },
    (0, ended z, record { piece = []; later = []; eof = true; whole = refl; told = λ e. refl; parses = (frames.End 8, (refl, refl, refl, refl, refl), refl) }, (refl, refl)),
  );
  none = λ z. (refl, refl);
  none_but_moved = λ z h. let e : ◌≡◌ {A = ℕ} 0 8 = ap (λ (p : Parser). p.offset) h.0 in omega (arith, e);
  none_but_taken = λ z h. let e = h.1 in cc;
  end_before_bytes = λ z c. no_end_payload z c.piece c.later c.eof c.parses.0 c.whole c.told c.parses.1 (the_end _ c.parses.2);
}
