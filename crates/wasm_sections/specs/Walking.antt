-- What comes next of the payloads of a module that is all there.
use Rattle.std.specs.Prelude.{◌≡◌, ◌⊎◌, ℕ, ◌+◌, List, [], ◌∷◌, length, drop, Bool, true, false, Option, Some, None, Result, Ok, Err}
use Rattle.wasm_types.specs.decoding.ErrorValue.{ErrorValue}
use Rattle.wasm_types.specs.reader.Reading.{IsNotMemory}
use Rattle.wasm_sections_parser.specs.declared.frame.Frame.{Frame}
use Rattle.wasm_sections_parser.specs.Parsers.{Parser}
use Rattle.wasm_sections_parser.specs.declared.parser.Chunk.TheVariants.{Parsed}
use Rattle.wasm_sections_parser.specs.Parsing.{Parses}
pub use Rattle.wasm_sections_parser.specs.runs.calls.Advance.{is_end}
use Rattle.wasm_sections.specs.declared.payload.Payload.{Payload}
use Rattle.wasm_sections.specs.Payloads.{IsPayloadOf, IsRefusedAs}

-- a parser, the bytes that are left to it, and whether nothing comes any more
pub record Standing : Type 0 where
  pub parser : Parser
  pub rest : List ℕ
  pub over : Bool

-- a frame that a parser gives of all the bytes that are left, and those that are left then
abbrev pub IsFrameOf : Parser → List ℕ → Frame → Parser → List ℕ → Type 0
IsFrameOf p text f q rest = (n : ℕ) × Parses p text true (Ok (Parsed n f)) q × (rest ≡ drop n text)

-- why it gives none
abbrev pub IsFaultOf : Parser → List ℕ → ErrorValue → Parser → Type 0
IsFaultOf p text e q = Parses p text true (Err e) q

-- What comes next: the payload that the next frame is, and nothing behind the end; an error where a parser gives none, or where the
-- frame is no payload, and nothing behind that. No error is for memory.
abbrev pub NextPayload : Standing → Option (Result Payload ErrorValue) → Standing → Type 0
NextPayload s None t = (s.over ≡ true) × (t ≡ s)
NextPayload s (Some (Ok p)) t = (s.over ≡ false) × ((f : Frame) × IsFrameOf s.parser s.rest f t.parser t.rest × IsPayloadOf f p × (t.over ≡ is_end f))
NextPayload s (Some (Err e)) t = (s.over ≡ false) × (t.over ≡ true) × IsNotMemory e.kind
    × (IsFaultOf s.parser s.rest e t.parser ⊎ ((f : Frame) × IsFrameOf s.parser s.rest f t.parser t.rest × IsRefusedAs f e))

-- no more come than this: a byte at least for each, and the end
abbrev pub payloads_left : Bool → List ℕ → ℕ
payloads_left true text = 0
payloads_left false text = length text + 1

-- payloads, one after the other
abbrev pub Walks : Standing → List Payload → Standing → Type 0
Walks s [] t = s ≡ t
Walks s (p ∷ ps) t = (u : Standing) × NextPayload s (Some (Ok p)) u × Walks u ps t

-- each is the payload of a frame
abbrev pub ArePayloads : List Frame → List Payload → Type 0
ArePayloads [] [] = Unit {0}
ArePayloads [] (p ∷ ps) = ⊥
ArePayloads (f ∷ fs) [] = ⊥
ArePayloads (f ∷ fs) (p ∷ ps) = IsPayloadOf f p × ArePayloads fs ps
