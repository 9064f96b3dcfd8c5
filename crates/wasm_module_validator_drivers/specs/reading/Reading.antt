-- When bytes are a module whose frames are judged one after the other (WebAssembly 3.0, binary format, modules; validation, modules).
use Rattle.std.specs.Prelude.{ℕ, List, [], ◌∷◌, ◌++◌}
use Rattle.wasm_types.specs.settings.Settings.{Settings}
use Rattle.wasm_types.specs.trees.Trees.{TypeTree}
use Rattle.wasm_sections_parser.specs.declared.frame.Frame.{Frame}
use Rattle.wasm_sections_parser.specs.Parsers.{Parser}
use Rattle.wasm_sections_parser.specs.Steps.{Shape}
use Rattle.wasm_sections_parser.specs.runs.calls.Calls.{Calls}
use Rattle.wasm_sections_parser.specs.runs.calls.Runs.{fresh}
use Rattle.wasm_sections_parser.specs.runs.Modules.{IsModule}
use Rattle.wasm_sections.specs.declared.payload.Payload.{Payload}
use Rattle.wasm_sections.specs.Payloads.{IsPayloadOf}
use Rattle.wasm_module_validator_section_order.specs.rules_in_order.Steps.{SoFar, nothing, JudgesShapes}
use Rattle.wasm_module_validator_payloads.specs.Progress.{HasGroup}

-- the bytes are a module, of which this was read when its frames were judged
abbrev pub IsReadAs : Settings → List ℕ → SoFar → Type 0
IsReadAs z text q = (xs : List Shape) × IsModule z text xs × JudgesShapes z nothing xs q

-- a parser by these settings, before the first byte
abbrev pub first_parser : Settings → Parser
first_parser z = record { offset = 0; settings = z; progress = fresh }

-- Of these bytes a parser gives some frames, of which the last is a section of types. After groups with these types it has a group of so
-- many.
pub record HasGroupIn (z : Settings) (text : List ℕ) (before : List TypeTree) (own : ℕ) : Type 0 where
  pub frames : List Frame
  pub last : Frame
  pub section : Payload
  pub parser : Parser
  pub rest : List ℕ
  pub calls : Calls (first_parser z) text (frames ++ last ∷ []) parser rest
  pub is : IsPayloadOf last section
  pub has : HasGroup section before own
