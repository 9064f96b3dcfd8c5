-- Calls of the parser of payloads, worked by hand: what each takes, what is told behind the end, the payloads of several frames, and
-- calls over a text that comes in pieces (WebAssembly 3.0, binary format, modules).
use Rattle.std.specs.Prelude.{◌≡◌, ◌++◌, [], ◌∷◌, true, false, Ok, Err}
use Rattle.wasm_types.specs.decoding.declared.error.ErrorKind.TheVariants.{Failed, Other}
use Rattle.wasm_types.specs.settings.Settings.{Settings}
use Rattle.wasm_sections_parser.specs.declared.frame.Encoding.TheVariants.{Module}
use Rattle.wasm_sections_parser.specs.declared.frame.Frame.TheVariants as frames
use Rattle.wasm_sections.specs.declared.payload.Payload.{Payload}
use Rattle.wasm_sections.specs.declared.payload.Payload.TheVariants as payloads
use Rattle.wasm_sections.specs.declared.parser.Chunk.TheVariants.{NeedMoreData, Parsed}
use Rattle.wasm_sections.specs.Parsing.{taken, FailedBefore, CalledPayload, PayloadCalls}
use Rattle.wasm_sections.specs.Walking.{payloads_left, ArePayloads, IsFrameOf}
use Rattle.wasm_sections_tests.specs.Frames.{fresh, begun, ended, eight, header, error}

abbrev pub version_1 : Payload
version_1 = payloads.Version 1 Module (record { start = 0; end = 8 })

-- how many bytes a call takes, how many payloads may come, and what is told behind the end
pub record TakenRows : Type 0 where
  pub asked : taken (Ok (NeedMoreData 3)) ≡ 0
  pub given : taken (Ok (Parsed 8 version_1)) ≡ 8
  pub refused : taken (Err (error Other 8)) ≡ 0
  pub left : payloads_left false (0x01 ∷ 0x00 ∷ []) ≡ 3
  pub none_left : payloads_left true (0x01 ∷ 0x00 ∷ []) ≡ 0
  pub over : (z : Settings) → FailedBefore (ended z) (Err (error Failed 8)) (ended z)
  pub over_and_given : (z : Settings) → FailedBefore (ended z) (Ok (Parsed 0 (payloads.End 8))) (ended z) → ⊥
  pub over_otherwise : (z : Settings) → FailedBefore (ended z) (Err (error Other 8)) (ended z) → ⊥
  pub over_elsewhere : (z : Settings) → FailedBefore (ended z) (Err (error Failed 9)) (ended z) → ⊥
  pub over_and_moved : (z : Settings) → FailedBefore (ended z) (Err (error Failed 8)) (begun z) → ⊥

-- the payloads of frames, and a frame of all the bytes that are left
pub record PayloadRows : Type 0 where
  pub none : ArePayloads [] []
  pub each : ArePayloads (header ∷ frames.End 8 ∷ []) (version_1 ∷ payloads.End 8 ∷ [])
  pub exchanged : ArePayloads (header ∷ frames.End 8 ∷ []) (payloads.End 8 ∷ version_1 ∷ []) → ⊥
  pub one_missing : ArePayloads (header ∷ frames.End 8 ∷ []) (version_1 ∷ []) → ⊥
  pub one_too_many : ArePayloads (header ∷ []) (version_1 ∷ payloads.End 8 ∷ []) → ⊥
  pub frame : (z : Settings) → IsFrameOf (fresh z) (eight ++ 0x01 ∷ []) header (begun z) (0x01 ∷ [])
  pub frame_and_stayed : (z : Settings) → IsFrameOf (fresh z) eight header (begun z) eight → ⊥

-- calls over a text that comes in pieces
pub record CalledRows : Type 0 where
  pub a_piece : (z : Settings) → CalledPayload (fresh z) (eight ++ 0x01 ∷ []) (Ok (Parsed 8 version_1)) (begun z)
  pub both : (z : Settings) → PayloadCalls (fresh z) eight (version_1 ∷ payloads.End 8 ∷ []) (ended z) []
  pub none : (z : Settings) → PayloadCalls (fresh z) eight [] (fresh z) eight
  pub none_but_moved : (z : Settings) → PayloadCalls (fresh z) eight [] (begun z) eight → ⊥
  pub none_but_taken : (z : Settings) → PayloadCalls (fresh z) eight [] (fresh z) [] → ⊥
  pub end_before_bytes : (z : Settings) → CalledPayload (begun z) (0x01 ∷ []) (Ok (Parsed 0 (payloads.End 8))) (ended z) → ⊥
