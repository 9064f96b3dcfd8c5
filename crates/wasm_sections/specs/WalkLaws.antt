-- Fewer payloads are left behind each.
use Rattle.std.proofs.Common.{◌≡◌, ◌⊎◌, ℕ, ◌+◌, ◌<◌, ◌≤◌, ◌^◌, List, [], ◌∷◌, length, drop, refl, sym, ap, ◌∙◌, subst, arith, Bool, true, false, Some, Ok, Err, inl, inr}
use Rattle.std.proofs.lemmas.List.{append-nil, length-drop}
use Rattle.wasm_types.specs.decoding.ErrorValue.{ErrorValue}
use Rattle.wasm_sections_parser.specs.declared.frame.Frame.{Frame}
use Rattle.wasm_sections_parser.specs.Parsers.{Parser}
use Rattle.wasm_sections_parser.specs.runs.calls.Advance.{parsed_within, parsed_is_over}
use Rattle.wasm_sections_parser.specs.declared.frame.Frame.TheVariants as frames
use Rattle.wasm_sections_parser.specs.declared.parser.Chunk.TheVariants.{Parsed}
use Rattle.wasm_sections_parser.specs.Steps.{Shape, is_over}
use Rattle.wasm_sections_parser.specs.runs.calls.Runs.{fresh}
use Rattle.wasm_sections_parser.specs.runs.calls.Calls.{shapes_of, Called, Calls}
use Rattle.wasm_sections_parser.specs.runs.Modules.{IsModule}
use Rattle.wasm_sections_parser.specs.runs.ModuleLaws.{end_given}
use Rattle.wasm_sections_parser.specs.runs.RefusalLaws.{not_refused}
use Rattle.wasm_sections.specs.declared.payload.Payload.{Payload}
use Rattle.wasm_sections.specs.declared.payload.Payload.TheVariants as payloads
use Rattle.wasm_sections.specs.Payloads.{IsPayloadOf, IsRefusedAs}
use Rattle.wasm_sections.specs.Walking.{is_end, Standing, IsFrameOf, IsFaultOf, NextPayload, payloads_left, Walks, ArePayloads}

pub fewer_left : (p : Parser) (text : List ℕ) (f : Frame) (q : Parser) (rest : List ℕ) → IsFrameOf p text f q rest → payloads_left (is_end f) rest + 1 ≤ payloads_left false text
fewer_left p text f q rest h = go (is_end f) refl
  where
    go : (b : Bool) → is_end f ≡ b → payloads_left b rest + 1 ≤ payloads_left false text
    go true e = omega arith
    go false e =
        let k = parsed_within p text true h.0 f q h.1 in
        omega (arith, k.0, k.1 e, ap length h.2, length-drop h.0 text)

-- a frame of all the bytes that are left is given by a call
frame_called : (p : Parser) (text : List ℕ) (f : Frame) (q : Parser) (rest : List ℕ) (h : IsFrameOf p text f q rest) → Called p text (Ok (Parsed h.0 f)) q
frame_called p text f q rest h = record { piece = text; later = []; eof = true; whole = sym (append-nil text); told = λ e. refl; parses = h.1 }

-- a walk is made of calls
pub walk_calls : (ps : List Payload) (s t : Standing) → Walks s ps t → (fs : List Frame) × ArePayloads fs ps × Calls s.parser s.rest fs t.parser t.rest
walk_calls [] s t h = ([], tt, (ap (λ (v : Standing). v.parser) h, ap (λ (v : Standing). v.rest) h))
walk_calls (p ∷ ps) s t h =
    let f : Frame = h.1.1.0 in
    let given = h.1.1.1 in
    let others = walk_calls ps h.0 t h.2 in
    let calls : Calls h.0.parser (drop given.0 s.rest) others.0 t.parser t.rest = subst (λ (x : List ℕ). Calls h.0.parser x others.0 t.parser t.rest) given.2 others.2 in
    (f ∷ others.0, (h.1.1.2, others.1), (given.0, h.0.parser, frame_called s.parser s.rest f h.0.parser h.0.rest given, calls))

-- the last payload is the end, and those before it are of a module
pub walk_ends : (ps : List Payload) (p : Payload) (s u t : Standing) → s.parser.progress ≡ fresh → Walks s ps u → NextPayload u (Some (Ok p)) t → t.over ≡ true
    → (fs : List Frame) × ArePayloads fs ps × IsModule s.parser.settings s.rest (shapes_of fs) × (p ≡ payloads.End (s.parser.offset + length s.rest))
walk_ends ps p s u t first walk next over = go next.1.0 next.1.1 next.1.2 (sym next.1.3 ∙ over)
  where
    go : (f : Frame) → IsFrameOf u.parser u.rest f t.parser t.rest → IsPayloadOf f p → is_end f ≡ true
        → (fs : List Frame) × ArePayloads fs ps × IsModule s.parser.settings s.rest (shapes_of fs)
        × (p ≡ payloads.End (s.parser.offset + length s.rest))
    go (frames.End place) h e k =
        let calls = walk_calls ps s u walk in
        let m = end_given calls.0 s.parser u.parser t.parser s.rest u.rest h.0 place first calls.2 (frame_called u.parser u.rest (frames.End place) t.parser t.rest h) in
        (calls.0, calls.1, m.0, e ∙ ap (λ (n : ℕ). payloads.End n) m.2)
    go (frames.Version n e r) h i k = absurd cc
    go (frames.Custom c) h i k = absurd cc
    go (frames.Section id b) h i k = absurd cc
    go (frames.CodeStart n r k) h i l = absurd cc
    go (frames.CodeEntry b) h i k = absurd cc

-- a walk is over exactly where its parser is
walk_over : (ps : List Payload) (s u : Standing) → is_over s.parser.progress ≡ s.over → Walks s ps u → is_over u.parser.progress ≡ u.over
walk_over [] s u same h = subst (λ (v : Standing). is_over v.parser.progress ≡ v.over) h same
walk_over (p ∷ ps) s u same h =
    let given = h.1.1.1 in
    walk_over ps h.0 u (parsed_is_over s.parser s.rest true given.0 h.1.1.0 h.0.parser given.1 ∙ sym h.1.1.3) h.2

-- a walk from the start of a module that goes on has a parser that goes on
walk_going : (ps : List Payload) (s u : Standing) → s.parser.progress ≡ fresh → Walks s ps u → u.over ≡ false → is_over u.parser.progress ≡ false
walk_going [] s u first h going = ap (λ (v : Standing). is_over v.parser.progress) (sym h) ∙ ap is_over first
walk_going (p ∷ ps) s u first h going =
    let given = h.1.1.1 in
    walk_over ps h.0 u (parsed_is_over s.parser s.rest true given.0 h.1.1.0 h.0.parser given.1 ∙ sym h.1.1.3) h.2 ∙ going

-- a whole module is refused only at a frame that is no payload
pub walk_accepted : (ps : List Payload) (e : ErrorValue) (ys : List Shape) (s u t : Standing) → s.parser.progress ≡ fresh → s.parser.offset + length s.rest < 2 ^ 64
    → IsModule s.parser.settings s.rest ys
    → Walks s ps u → NextPayload u (Some (Err e)) t → (f : Frame) × IsFrameOf u.parser u.rest f t.parser t.rest × IsRefusedAs f e
walk_accepted ps e ys s u t first room m walk next = go next.3
  where
    go : IsFaultOf u.parser u.rest e t.parser ⊎ ((f : Frame) × IsFrameOf u.parser u.rest f t.parser t.rest × IsRefusedAs f e) → (f : Frame)
        × IsFrameOf u.parser u.rest f t.parser t.rest × IsRefusedAs f e
    go (inr h) = h
    go (inl h) =
        let calls = walk_calls ps s u walk in
        let called : Called u.parser u.rest (Err e) t.parser = record { piece = u.rest; later = []; eof = true; whole = sym (append-nil u.rest); told = λ k. refl; parses = h } in
        absurd (not_refused calls.0 s.parser u.parser t.parser s.rest u.rest e first calls.2 (walk_going ps s u first walk next.0) called m.outer ys m.frames m.ordered m.counted m.counts room)
