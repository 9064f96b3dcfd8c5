-- What a call of a parser answers, and where the parser stands then (WebAssembly 3.0, binary format, modules).
use Rattle.std.specs.Prelude.{◌≡◌, ◌⊎◌, ℕ, List, [], ◌∷◌, ◌++◌, drop, Bool, true, false, Result, Ok, Err}
use Rattle.wasm_types.specs.decoding.declared.error.ErrorKind.TheVariants.{Failed}
use Rattle.wasm_types.specs.decoding.ErrorValue.{ErrorValue}
use Rattle.wasm_types.specs.reader.Reading.{IsNotMemory}
use Rattle.wasm_sections_parser.specs.declared.frame.Frame.{Frame}
use Rattle.wasm_sections_parser.specs.Parsers.{Parser, staged}
use Rattle.wasm_sections_parser.specs.declared.parser.Chunk.TheVariants as raw
use Rattle.wasm_sections_parser.specs.declared.progress.Stage.TheVariants as stages
use Rattle.wasm_sections_parser.specs.Parsing.{Parses}
use Rattle.wasm_sections.specs.declared.payload.Payload.{Payload}
use Rattle.wasm_sections.specs.declared.payload.Payload.TheVariants as payloads
use Rattle.wasm_sections.specs.declared.parser.Chunk.{Chunk}
use Rattle.wasm_sections.specs.declared.parser.Chunk.TheVariants.{NeedMoreData, Parsed}
use Rattle.wasm_sections.specs.Payloads.{IsPayloadOf, IsRefusedAs}

-- A frame comes next that is no payload, which is never for memory. The parser stays where it stood before it, and has failed.
pub record IsUnreadable (p : Parser) (text : List ℕ) (eof : Bool) (e : ErrorValue) (q : Parser) : Type 0 where
  pub size : ℕ
  pub frame : Frame
  pub behind : Parser
  pub parses : Parses p text eof (Ok (raw.Parsed size frame)) behind
  pub refused : IsRefusedAs frame e
  pub no_memory : IsNotMemory e.kind
  pub failed : q ≡ staged p stages.Failed

-- What a call answers to these bytes, behind which none follow where eof says so: the payload that the next frame is, of as many
-- bytes as the frame; as many more bytes as the frame needs; or an error, where no frame comes or one that is no payload.
abbrev pub ParsesPayload : Parser → List ℕ → Bool → Result Chunk ErrorValue → Parser → Type 0
ParsesPayload p text eof (Ok (NeedMoreData n)) q = Parses p text eof (Ok (raw.NeedMoreData n)) q
ParsesPayload p text eof (Ok (Parsed n x)) q = (f : Frame) × Parses p text eof (Ok (raw.Parsed n f)) q × IsPayloadOf f x
ParsesPayload p text eof (Err e) q = Parses p text eof (Err e) q ⊎ IsUnreadable p text eof e q

-- how many bytes a call takes
abbrev pub taken : Result Chunk ErrorValue → ℕ
taken (Ok (NeedMoreData n)) = 0
taken (Ok (Parsed n x)) = n
taken (Err e) = 0

-- what a parser answers behind the end and behind a refusal: an error of its own kind
abbrev pub FailedBefore : Parser → Result Chunk ErrorValue → Parser → Type 0
FailedBefore p (Ok c) q = ⊥
FailedBefore p (Err e) q = (e.kind ≡ Failed) × (q ≡ p) × (e.offset ≡ p.offset)

-- ---- calls, one after the other, over a text that comes in pieces

-- A call that is handed some of the bytes that are left, however many, and is told that none follow only where that is so.
pub record CalledPayload (p : Parser) (text : List ℕ) (answer : Result Chunk ErrorValue) (q : Parser) : Type 0 where
  pub piece : List ℕ
  pub later : List ℕ
  pub eof : Bool
  pub whole : text ≡ piece ++ later
  pub told : eof ≡ true → later ≡ []
  pub parses : ParsesPayload p piece eof answer q

-- Calls that give a payload each, from a parser and the bytes before it to where it stands then and the bytes that are left. A call
-- that asks for more bytes leaves a parser as it was, so between these there may be any number of such.
abbrev pub PayloadCalls : Parser → List ℕ → List Payload → Parser → List ℕ → Type 0
PayloadCalls p text [] q rest = (p ≡ q) × (text ≡ rest)
PayloadCalls p text (x ∷ xs) q rest = (n : ℕ) × (r : Parser) × CalledPayload p text (Ok (Parsed n x)) r
    × PayloadCalls r (drop n text) xs q rest

-- whether a payload is the end
abbrev pub is_end_payload : Payload → Bool
is_end_payload (payloads.Version n e r) = false
is_end_payload (payloads.TypeSection s) = false
is_end_payload (payloads.ImportSection s) = false
is_end_payload (payloads.FunctionSection s) = false
is_end_payload (payloads.TableSection s) = false
is_end_payload (payloads.MemorySection s) = false
is_end_payload (payloads.TagSection s) = false
is_end_payload (payloads.GlobalSection s) = false
is_end_payload (payloads.ExportSection s) = false
is_end_payload (payloads.StartSection n r) = false
is_end_payload (payloads.ElementSection s) = false
is_end_payload (payloads.DataCountSection n r) = false
is_end_payload (payloads.DataSection s) = false
is_end_payload (payloads.CodeSectionStart n r k) = false
is_end_payload (payloads.CodeSectionEntry body) = false
is_end_payload (payloads.CustomSection c) = false
is_end_payload (payloads.UnknownSection i c r) = false
is_end_payload (payloads.End place) = true

-- the last of these is the end, and no other is
abbrev pub EndIsLast : List Payload → Type 0
EndIsLast [] = ⊥
EndIsLast (x ∷ []) = is_end_payload x ≡ true
EndIsLast (x ∷ (y ∷ ys)) = (is_end_payload x ≡ false) × EndIsLast (y ∷ ys)
