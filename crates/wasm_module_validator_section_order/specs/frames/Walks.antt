-- Where a walk over the bytes of a module stands, and by which settings its frames are read (WebAssembly 3.0, binary format, modules).
use Rattle.std.specs.Prelude.{◌≡◌, ℕ, List, ◌∷◌, ◌++◌}
use Rattle.wasm_types.specs.settings.Settings.{Settings}
use Rattle.wasm_types.specs.decoding.Decoder.{State}
use Rattle.wasm_types.specs.decoding.ErrorValue.{ErrorValue}
use Rattle.wasm_types.specs.reader.Reading.{Fails, IsNotMemory}
use Rattle.wasm_sections_parser.specs.declared.frame.Frame.{Frame}
use Rattle.wasm_sections_parser.specs.declared.frame.Frame.TheVariants as frames
use Rattle.wasm_sections_parser.specs.Parsers.{Parser}
use Rattle.wasm_sections_parser.specs.Steps.{Shape, section, is_over}
use Rattle.wasm_sections_parser.specs.runs.calls.Calls.{shapes_of, Calls}
use Rattle.wasm_sections.specs.Payloads.{front_of}
use Rattle.wasm_sections.specs.Walking.{Standing}

-- what reads the contents of a section or a body has these settings
abbrev pub HasSettings : Settings → Frame → Type 0
HasSettings z (frames.Version n e r) = Unit {0}
HasSettings z (frames.Custom c) = Unit {0}
HasSettings z (frames.Section id b) = b.settings ≡ z
HasSettings z (frames.CodeStart n r k) = Unit {0}
HasSettings z (frames.CodeEntry b) = b.settings ≡ z
HasSettings z (frames.End place) = Unit {0}

-- A walk from this parser over this text stands behind these frames: calls gave them, and nothing more comes exactly where the parser
-- is over.
pub record IsBehind (p : Parser) (text : List ℕ) (fs : List Frame) (s : Standing) : Type 0 where
  pub calls : Calls p text fs s.parser s.rest
  pub over : is_over s.parser.progress ≡ s.over

-- Of these frames of a module the one that comes behind those is refused: it is a section, read by the settings of the parser, whose
-- contents don't begin with a count, or are not the one number that they are to be. It is never for memory.
abbrev pub RefusesNext : Parser → List Frame → List Shape → ErrorValue → Type 0
RefusesNext p fs ys e = (id : ℕ) × (b : State) × (zs : List Shape) × (ys ≡ shapes_of fs ++ section id b.rest ∷ zs)
    × (b.settings ≡ p.settings)
    × IsNotMemory e.kind × Fails e (front_of id b)
