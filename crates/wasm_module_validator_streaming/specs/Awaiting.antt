-- Bytes of a module of which no frame is refused, and what is left of them is none (WebAssembly 3.0, binary format, modules).
use Rattle.std.specs.Prelude.{ℕ, List}
use Rattle.wasm_types.specs.settings.Settings.{Settings}
use Rattle.wasm_sections_parser.specs.declared.frame.Frame.{Frame}
use Rattle.wasm_sections_parser.specs.Parsers.{Parser}
use Rattle.wasm_sections_parser.specs.runs.calls.Calls.{shapes_of, Calls}
use Rattle.wasm_sections_parser.specs.runs.hints.Hints.{Asks}
use Rattle.wasm_module_validator_section_order.specs.rules_in_order.Steps.{SoFar, nothing, JudgesShapes}
use Rattle.wasm_module_validator_streaming.specs.Bodies.{AreFirst}
use Rattle.wasm_module_validator_streaming.specs.laws.Running.{begins}

-- with these bytes a parser gives no frame and refuses none, as others may follow
abbrev pub Awaits : Parser → List ℕ → Type 0
Awaits q text = (n : ℕ) × Asks q text n

-- Frames come first of these bytes, each valid behind those before it, and each body that of a valid function; and what is left of the bytes
-- is no whole frame, and none that can be refused yet. So all that the bytes hold was judged, and none of it was refused.
pub record IsNotRefused (z : Settings) (text : List ℕ) : Type 0 where
  pub frames : List Frame
  pub behind : Parser
  pub left : List ℕ
  pub calls : Calls (begins z) text frames behind left
  pub read : SoFar
  pub judged : JudgesShapes z nothing (shapes_of frames) read
  pub bodies : AreFirst z read.tree read.bodies
  pub awaits : Awaits behind left
