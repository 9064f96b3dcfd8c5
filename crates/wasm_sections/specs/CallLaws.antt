-- Calls that give payloads are calls that give their frames, and the other way round.
use Rattle.std.proofs.Common.{◌≡◌, ◌⊎◌, ℕ, ◌+◌, ◌<◌, ◌^◌, List, [], ◌∷◌, length, drop, refl, sym, ap, ◌∙◌, subst, Bool, true, false, Result, Ok, Err, inl, inr}
use Rattle.wasm_types.specs.decoding.declared.error.ErrorKind.TheVariants.{Failed}
use Rattle.wasm_types.specs.decoding.ErrorValue.{ErrorValue}
use Rattle.wasm_types.specs.reader.Reading.{IsNotMemory}
use Rattle.wasm_sections_parser.specs.declared.frame.Frame.{Frame}
use Rattle.wasm_sections_parser.specs.declared.frame.Frame.TheVariants as frames
use Rattle.wasm_sections_parser.specs.Parsers.{Parser, staged}
use Rattle.wasm_sections_parser.specs.declared.parser.Chunk.TheVariants as raw
use Rattle.wasm_sections_parser.specs.declared.progress.Stage.TheVariants as stages
use Rattle.wasm_sections_parser.specs.Steps.{Shape, is_over}
use Rattle.wasm_sections_parser.specs.Parsing.{at_end, Ends, Comes, IsOver, one_of, Parses}
use Rattle.wasm_sections_parser.specs.runs.calls.Runs.{fresh}
use Rattle.wasm_sections_parser.specs.runs.calls.Calls.{shapes_of, Called, Calls}
use Rattle.wasm_sections_parser.specs.runs.Modules.{IsModule}
use Rattle.wasm_sections_parser.specs.runs.ModuleLaws.{end_given}
use Rattle.wasm_sections_parser.specs.runs.RefusalLaws.{not_refused}
use Rattle.wasm_sections_parser.specs.runs.calls.CallLaws.{call_cases}
use Rattle.wasm_sections_parser.specs.runs.calls.Advance.{is_end, parsed_is_over}
use Rattle.wasm_sections.specs.declared.payload.Payload.{Payload}
use Rattle.wasm_sections.specs.declared.payload.Payload.TheVariants as payloads
use Rattle.wasm_sections.specs.declared.parser.Chunk.{Chunk}
use Rattle.wasm_sections.specs.declared.parser.Chunk.TheVariants.{NeedMoreData, Parsed}
use Rattle.wasm_sections.specs.Payloads.{IsPayloadOf, IsRefusedAs}
use Rattle.wasm_sections.specs.Parsing.{IsUnreadable, ParsesPayload, FailedBefore, CalledPayload, PayloadCalls, is_end_payload, EndIsLast}
use Rattle.wasm_sections.specs.Walking.{ArePayloads}

-- ---- one call

-- the call that gives the frame
frame_called : (p : Parser) (text : List ℕ) (n : ℕ) (x : Payload) (q : Parser) (h : CalledPayload p text (Ok (Parsed n x)) q) → Called p text (Ok (raw.Parsed n h.parses.0)) q
frame_called p text n x q h = record { piece = h.piece; later = h.later; eof = h.eof; whole = h.whole; told = h.told; parses = h.parses.1 }

-- the call that gives the payload of a frame
payload_called : (p : Parser) (text : List ℕ) (n : ℕ) (f : Frame) (x : Payload) (q : Parser) → Called p text (Ok (raw.Parsed n f)) q → IsPayloadOf f x → CalledPayload p text (Ok (Parsed n x)) q
payload_called p text n f x q h is = record { piece = h.piece; later = h.later; eof = h.eof; whole = h.whole; told = h.told; parses = (f, h.parses, is) }

-- where more bytes are needed the parser stays
pub asked_stays : (p : Parser) (text : List ℕ) (eof : Bool) (n : ℕ) (q : Parser) → Parses p text eof (Ok (raw.NeedMoreData n)) q → q ≡ p
asked_stays p text eof n q h = go (is_over p.progress) h
  where
    between : (b : Bool) → one_of b (Ends p eof (Ok (raw.NeedMoreData n)) q) (Comes p text eof (Ok (raw.NeedMoreData n)) q) → q ≡ p
    between true g = g.2
    between false g = g.2

    go : (b : Bool) → one_of b (IsOver p (Ok (raw.NeedMoreData n)) q) (one_of (at_end p text) (Ends p eof (Ok (raw.NeedMoreData n)) q) (Comes p text eof (Ok (raw.NeedMoreData n)) q)) → q ≡ p
    go true g = absurd g
    go false g = between (at_end p text) g

-- ---- many calls

pub calls_of_frames : (xs : List Payload) (p q : Parser) (text rest : List ℕ) → PayloadCalls p text xs q rest → (fs : List Frame) × ArePayloads fs xs × Calls p text fs q rest
calls_of_frames [] p q text rest h = ([], tt, h)
calls_of_frames (x ∷ xs) p q text rest h =
    let others = calls_of_frames xs h.1 q (drop h.0 text) rest h.3 in
    (h.2.parses.0 ∷ others.0, (h.2.parses.2, others.1), (h.0, h.1, frame_called p text h.0 x h.1 h.2, others.2))

pub calls_of_payloads : (fs : List Frame) (xs : List Payload) (p q : Parser) (text rest : List ℕ) → Calls p text fs q rest → ArePayloads fs xs → PayloadCalls p text xs q rest
calls_of_payloads [] [] p q text rest h is = h
calls_of_payloads [] (x ∷ xs) p q text rest h is = absurd is
calls_of_payloads (f ∷ fs) [] p q text rest h is = absurd is
calls_of_payloads (f ∷ fs) (x ∷ xs) p q text rest h is = (h.0, h.1, payload_called p text h.0 f x h.1 h.2 is.0, calls_of_payloads fs xs h.1 q (drop h.0 text) rest h.3 is.1)

-- ---- the end

place_is : (k m : ℕ) → payloads.End m ≡ payloads.End k → m ≡ k
place_is k m e = cc

-- the end comes only behind a whole module, and what came before it are the payloads of its frames
pub end_of_payloads : (p q r : Parser) (text rest : List ℕ) (xs : List Payload) (n place : ℕ) → p.progress ≡ fresh → PayloadCalls p text xs q rest
    → CalledPayload q rest (Ok (Parsed n (payloads.End place))) r
    → (fs : List Frame) × ArePayloads fs xs × IsModule p.settings text (shapes_of fs) × (rest ≡ []) × (place ≡ p.offset + length text)
end_of_payloads p q r text rest xs n place first calls last = go last.parses.0 (frame_called q rest n (payloads.End place) r last) last.parses.2
  where
    go : (f : Frame) → Called q rest (Ok (raw.Parsed n f)) r → IsPayloadOf f (payloads.End place) → (fs : List Frame) × ArePayloads fs xs
        × IsModule p.settings text (shapes_of fs) × (rest ≡ []) × (place ≡ p.offset + length text)
    go (frames.End k) h is =
        let given = calls_of_frames xs p q text rest calls in
        let m = end_given given.0 p q r text rest n k first given.2 h in
        (given.0, given.1, m.0, m.1, place_is k place is ∙ m.2)
    go (frames.Version v e s) h is = absurd cc
    go (frames.Custom c) h is = absurd cc
    go (frames.Section id b) h is = absurd is
    go (frames.CodeStart v s k) h is = absurd cc
    go (frames.CodeEntry b) h is = absurd cc

-- a payload is the end exactly where its frame is
end_is_end : (f : Frame) (x : Payload) → IsPayloadOf f x → is_end_payload x ≡ is_end f
end_is_end (frames.Version n e r) x h = ap is_end_payload h
end_is_end (frames.Custom c) x h = ap is_end_payload h
end_is_end (frames.CodeStart n r k) x h = ap is_end_payload h
end_is_end (frames.CodeEntry b) x h = ap is_end_payload h
end_is_end (frames.End place) x h = ap is_end_payload h
end_is_end (frames.Section id b) (payloads.End place) h = absurd h
end_is_end (frames.Section id b) (payloads.Version n e r) h = refl
end_is_end (frames.Section id b) (payloads.TypeSection s) h = refl
end_is_end (frames.Section id b) (payloads.ImportSection s) h = refl
end_is_end (frames.Section id b) (payloads.FunctionSection s) h = refl
end_is_end (frames.Section id b) (payloads.TableSection s) h = refl
end_is_end (frames.Section id b) (payloads.MemorySection s) h = refl
end_is_end (frames.Section id b) (payloads.TagSection s) h = refl
end_is_end (frames.Section id b) (payloads.GlobalSection s) h = refl
end_is_end (frames.Section id b) (payloads.ExportSection s) h = refl
end_is_end (frames.Section id b) (payloads.StartSection n r) h = refl
end_is_end (frames.Section id b) (payloads.ElementSection s) h = refl
end_is_end (frames.Section id b) (payloads.DataCountSection n r) h = refl
end_is_end (frames.Section id b) (payloads.DataSection s) h = refl
end_is_end (frames.Section id b) (payloads.CodeSectionStart n r k) h = refl
end_is_end (frames.Section id b) (payloads.CodeSectionEntry c) h = refl
end_is_end (frames.Section id b) (payloads.CustomSection c) h = refl
end_is_end (frames.Section id b) (payloads.UnknownSection i c r) h = refl

-- behind a payload a parser is over exactly where that is the end
end_is_over : (p : Parser) (text : List ℕ) (n : ℕ) (x : Payload) (q : Parser) → CalledPayload p text (Ok (Parsed n x)) q → is_end_payload x ≡ is_over q.progress
end_is_over p text n x q c = end_is_end c.parses.0 x c.parses.2 ∙ sym (parsed_is_over p c.piece c.eof n c.parses.0 q c.parses.1)

-- before a payload it is not over
going_before : (p : Parser) (text : List ℕ) (n : ℕ) (x : Payload) (q : Parser) → CalledPayload p text (Ok (Parsed n x)) q → is_over p.progress ≡ false
going_before p text n x q c = (call_cases p text n c.parses.0 q (frame_called p text n x q c)).0

-- calls behind which a parser is over gave the end last
over_behind_end : (xs : List Payload) (p q : Parser) (text rest : List ℕ) → is_over p.progress ≡ false → PayloadCalls p text xs q rest → is_over q.progress ≡ true → EndIsLast xs
over_behind_end [] p q text rest going h over = let k : false ≡ true = sym going ∙ ap (λ (v : Parser). is_over v.progress) h.0 ∙ over in absurd cc
over_behind_end (x ∷ []) p q text rest going h over = end_is_over p text h.0 x h.1 h.2 ∙ ap (λ (v : Parser). is_over v.progress) h.3.0 ∙ over
over_behind_end (x ∷ (y ∷ ys)) p q text rest going h over =
    let still : is_over h.1.progress ≡ false = going_before h.1 (drop h.0 text) h.3.0 y h.3.1 h.3.2 in
    (end_is_over p text h.0 x h.1 h.2 ∙ still, over_behind_end (y ∷ ys) h.1 q (drop h.0 text) rest still h.3 over)

-- what a whole module is refused for: a frame that is no payload
abbrev RefusedAtFrame : Parser → List ℕ → ErrorValue → Type 0
RefusedAtFrame q rest e = (n : ℕ) × (f : Frame) × (v : Parser) × Called q rest (Ok (raw.Parsed n f)) v × IsRefusedAs f e

-- a whole module is refused only at a frame that is no payload, or behind its end
pub refused_at_payload : (p q r : Parser) (text rest : List ℕ) (xs : List Payload) (ys : List Shape) (e : ErrorValue) → p.progress ≡ fresh → p.offset + length text < 2 ^ 64
    → IsModule p.settings text ys
    → PayloadCalls p text xs q rest → CalledPayload q rest (Err e) r → EndIsLast xs ⊎ RefusedAtFrame q rest e
refused_at_payload p q r text rest xs ys e first room m calls last = over (is_over q.progress) refl
  where
    go : is_over q.progress ≡ false → Parses q last.piece last.eof (Err e) r ⊎ IsUnreadable q last.piece last.eof e r → RefusedAtFrame q rest e
    go going (inl h) =
        let given = calls_of_frames xs p q text rest calls in
        let refused : Called q rest (Err e) r = record { piece = last.piece; later = last.later; eof = last.eof; whole = last.whole; told = last.told; parses = h } in
        absurd (not_refused given.0 p q r text rest e first given.2 going refused m.outer ys m.frames m.ordered m.counted m.counts room)
    go going (inr h) = (h.size, h.frame, h.behind, record { piece = last.piece; later = last.later; eof = last.eof; whole = last.whole; told = last.told; parses = h.parses }, h.refused)

    over : (b : Bool) → is_over q.progress ≡ b → EndIsLast xs ⊎ RefusedAtFrame q rest e
    over true e = inl (over_behind_end xs p q text rest (ap is_over first) calls e)
    over false e = inr (go e last.parses)

-- ---- behind a refusal and behind the end

-- a refused parser has failed
pub refused_is_over : (p : Parser) (text : List ℕ) (eof : Bool) (e : ErrorValue) (q : Parser) → ParsesPayload p text eof (Err e) q → is_over q.progress ≡ true
refused_is_over p text eof e q (inr h) = ap (λ (v : Parser). is_over v.progress) h.failed
refused_is_over p text eof e q (inl h) = go (is_over p.progress) refl h
  where
    failed : (v : Parser) → v ≡ staged p stages.Failed → is_over v.progress ≡ true
    failed v s = ap (λ (w : Parser). is_over w.progress) s

    between : (b : Bool) → one_of b (Ends p eof (Err e) q) (Comes p text eof (Err e) q) → is_over q.progress ≡ true
    between true g = failed q g.4
    between false g = failed q g.3

    go : (b : Bool) → is_over p.progress ≡ b → one_of b (IsOver p (Err e) q) (one_of (at_end p text) (Ends p eof (Err e) q) (Comes p text eof (Err e) q)) → is_over q.progress ≡ true
    go true s g = ap (λ (v : Parser). is_over v.progress) g.1 ∙ s
    go false s g = between (at_end p text) g

pub nothing_after : (p : Parser) (text : List ℕ) (eof : Bool) (r : Result Chunk ErrorValue) (q : Parser) → is_over p.progress ≡ true → ParsesPayload p text eof r q → FailedBefore p r q
nothing_after p text eof (Ok (NeedMoreData n)) q over h = rw over at h
nothing_after p text eof (Ok (Parsed n x)) q over h = let k = h.1 in rw over at k
nothing_after p text eof (Err e) q over (inl h) = rw over at h
nothing_after p text eof (Err e) q over (inr h) = let k = h.parses in absurd (rw over at k)

-- ---- memory

-- no call is refused for memory
pub refused_not_for_memory : (p : Parser) (text : List ℕ) (eof : Bool) (e : ErrorValue) (q : Parser) → ParsesPayload p text eof (Err e) q → IsNotMemory e.kind
refused_not_for_memory p text eof e q (inr h) = h.no_memory
refused_not_for_memory p text eof e q (inl h) = go (is_over p.progress) h
  where
    between : (b : Bool) → one_of b (Ends p eof (Err e) q) (Comes p text eof (Err e) q) → IsNotMemory e.kind
    between true g = subst IsNotMemory (sym g.2) tt
    between false g = g.0

    go : (b : Bool) → one_of b (IsOver p (Err e) q) (one_of (at_end p text) (Ends p eof (Err e) q) (Comes p text eof (Err e) q)) → IsNotMemory e.kind
    go true g = subst IsNotMemory (sym g.0) tt
    go false g = between (at_end p text) g
