-- What comes next of a walk over a module, in the terms of the frames before it.
use Rattle.std.proofs.Common.{◌≡◌, ◌⊎◌, ℕ, ◌+◌, ◌<◌, ◌^◌, List, [], ◌∷◌, ◌++◌, length, drop, refl, sym, ap, ◌∙◌, subst, true, false, Some, Ok, Err, inl, inr}
use Rattle.std.proofs.lemmas.List.{append-nil}
use Rattle.wasm_types.specs.decoding.ErrorValue.{ErrorValue}
use Rattle.wasm_sections_parser.specs.declared.frame.Frame.{Frame}
use Rattle.wasm_sections_parser.specs.declared.frame.Frame.TheVariants as frames
use Rattle.wasm_sections_parser.specs.Parsers.{Parser}
use Rattle.wasm_sections_parser.specs.declared.parser.Chunk.TheVariants.{Parsed}
use Rattle.wasm_sections_parser.specs.Steps.{Shape, the_end, is_over}
use Rattle.wasm_sections_parser.specs.runs.calls.Runs.{fresh}
use Rattle.wasm_sections_parser.specs.runs.calls.Calls.{shapes_of, Called, Calls}
use Rattle.wasm_sections_parser.specs.runs.calls.Advance.{is_end, parsed_is_over}
use Rattle.wasm_sections_parser.specs.runs.Modules.{IsModule}
use Rattle.wasm_sections_parser.specs.runs.RefusalLaws.{not_refused}
use Rattle.wasm_sections.specs.declared.payload.Payload.{Payload}
use Rattle.wasm_sections.specs.Payloads.{IsPayloadOf, IsRefusedAs}
use Rattle.wasm_sections.specs.Walking.{Standing, IsFrameOf, IsFaultOf, NextPayload}
use Rattle.wasm_module_validator_section_order.specs.frames.Walks.{HasSettings, IsBehind, RefusesNext}
use Rattle.wasm_module_validator_section_order.specs.frames.FrontLaws.{calls_first, calls_joined, shapes_before, called_settings, calls_ended, calls_with_end}

-- a frame of all the bytes that are left is given by a call
pub frame_called : (p : Parser) (text : List ℕ) (f : Frame) (q : Parser) (rest : List ℕ) → IsFrameOf p text f q rest → (n : ℕ) × Called p text (Ok (Parsed n f)) q × (rest ≡ drop n text)
frame_called p text f q rest h = (h.0, record { piece = text; later = []; eof = true; whole = sym (append-nil text); told = λ e. refl; parses = h.1 }, h.2)

-- before the first call
pub behind_nothing : (p : Parser) (text : List ℕ) (s : Standing) → p.progress ≡ fresh → s ≡ record { parser = p; rest = text; over = false } → IsBehind p text [] s
behind_nothing p text s first e = subst (IsBehind p text []) (sym e) (record { calls = (refl, refl); over = ap is_over first })

-- behind the end, the frames before it are those of the module that the text is
pub walk_ended : (p : Parser) (text : List ℕ) (fs : List Frame) (s : Standing) → p.progress ≡ fresh → IsBehind p text fs s → s.over ≡ true
    → (ys : List Shape) × (shapes_of fs ≡ ys ++ the_end ∷ []) × IsModule p.settings text ys
walk_ended p text fs s first h over = calls_ended p s.parser text s.rest fs first h.calls (h.over ∙ over)

-- anywhere, the frames so far come first among those of the module and the end
pub walk_first : (p : Parser) (text : List ℕ) (fs : List Frame) (ys : List Shape) (s : Standing) → p.progress ≡ fresh → p.offset + length text < 2 ^ 64
    → IsModule p.settings text ys → IsBehind p text fs s → (zs : List Shape) × (ys ++ the_end ∷ [] ≡ shapes_of fs ++ zs)
walk_first p text fs ys s first room m h = calls_with_end p s.parser text s.rest fs ys first room m h.calls

module _ (p : Parser) (text : List ℕ) (fs : List Frame) (s t : Standing) (h : IsBehind p text fs s) where
  -- a frame more
  frame_next : (f : Frame) → IsFrameOf s.parser s.rest f t.parser t.rest → HasSettings p.settings f × Calls p text (fs ++ f ∷ []) t.parser t.rest × (is_over t.parser.progress ≡ is_end f)
  frame_next f k =
      let c = frame_called s.parser s.rest f t.parser t.rest k in (
        called_settings p s.parser t.parser text s.rest fs c.0 f h.calls c.1,
        subst (λ (x : List ℕ). Calls p text (fs ++ f ∷ []) t.parser x) (sym c.2) (calls_joined fs p s.parser t.parser text s.rest c.0 f h.calls c.1),
        parsed_is_over s.parser s.rest true k.0 f t.parser k.1,
      )

  -- a payload comes: it is that of a frame more
  pub payload_next : (x : Payload) → NextPayload s (Some (Ok x)) t → (f : Frame) × IsPayloadOf f x × HasSettings p.settings f × IsBehind p text (fs ++ f ∷ []) t
  payload_next x next =
      let f : Frame = next.1.0 in
      let k = frame_next f next.1.1 in
      (f, next.1.2, k.0, record { calls = k.1; over = k.2 ∙ sym next.1.3 })

  -- of a module nothing is refused but a section that is no payload
  pub refused_next : (ys : List Shape) (e : ErrorValue) → p.progress ≡ fresh → p.offset + length text < 2 ^ 64 → IsModule p.settings text ys → NextPayload s (Some (Err e)) t
      → RefusesNext p fs ys e
  refused_next ys e first room m next = go next.3
    where
      going : is_over s.parser.progress ≡ false
      going = h.over ∙ next.0

      no_payload : (f : Frame) → IsFrameOf s.parser s.rest f t.parser t.rest → IsRefusedAs f e → RefusesNext p fs ys e
      no_payload (frames.Section id b) k r =
          let n = frame_next (frames.Section id b) k in
          let left = calls_first p t.parser text t.rest (fs ++ frames.Section id b ∷ []) ys first room m n.1 n.2 in
          (id, b, left.0, shapes_before fs (frames.Section id b) ys left.0 left.1, n.0, next.2, r)
      no_payload (frames.Version n v k) i r = absurd r
      no_payload (frames.Custom c) k r = absurd r
      no_payload (frames.CodeStart n v l) k r = absurd r
      no_payload (frames.CodeEntry b) k r = absurd r
      no_payload (frames.End place) k r = absurd r

      go : IsFaultOf s.parser s.rest e t.parser ⊎ ((f : Frame) × IsFrameOf s.parser s.rest f t.parser t.rest × IsRefusedAs f e) → RefusesNext p fs ys e
      go (inr k) = no_payload k.0 k.1 k.2
      go (inl k) =
          let c : Called s.parser s.rest (Err e) t.parser = record { piece = s.rest; later = []; eof = true; whole = sym (append-nil s.rest); told = λ l. refl; parses = k } in
          absurd (not_refused fs p s.parser t.parser text s.rest e first h.calls going c m.outer ys m.frames m.ordered m.counted m.counts room)
