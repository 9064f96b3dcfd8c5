-- Calls of a parser, one after the other, over a text that comes in pieces.
use Rattle.std.specs.Prelude.{◌≡◌, ℕ, List, [], ◌∷◌, ◌++◌, drop, Bool, true, Result, Ok}
use Rattle.wasm_types.specs.decoding.Decoder.{State}
use Rattle.wasm_types.specs.decoding.ErrorValue.{ErrorValue}
use Rattle.wasm_sections_parser.specs.declared.frame.Frame.{Frame}
use Rattle.wasm_sections_parser.specs.Parsers.{Parser}
use Rattle.wasm_sections_parser.specs.declared.parser.Chunk.{Chunk}
use Rattle.wasm_sections_parser.specs.declared.parser.Chunk.TheVariants.{Parsed}
use Rattle.wasm_sections_parser.specs.Steps.{Shape}
use Rattle.wasm_sections_parser.specs.Parsing.{shape_of, Parses}

-- where a parser stands in the bytes that are left, which began there
abbrev pub stands : Parser → List ℕ → ℕ → State
stands p rest start = record { rest = rest; place = p.offset; settings = p.settings; start = start }

-- what frames are
abbrev pub shapes_of : List Frame → List Shape
shapes_of [] = []
shapes_of (f ∷ fs) = shape_of f ∷ shapes_of fs

-- A call that is handed some of the bytes that are left, however many, and is told that none follow only where that is so.
pub record Called (p : Parser) (text : List ℕ) (answer : Result Chunk ErrorValue) (q : Parser) : Type 0 where
  pub piece : List ℕ
  pub later : List ℕ
  pub eof : Bool
  pub whole : text ≡ piece ++ later
  pub told : eof ≡ true → later ≡ []
  pub parses : Parses p piece eof answer q

-- Calls that give a frame each, from a parser and the bytes before it to where it stands then and the bytes that are left. A call that
-- asks for more bytes leaves a parser as it was, so between these there may be any number of such.
abbrev pub Calls : Parser → List ℕ → List Frame → Parser → List ℕ → Type 0
Calls p text [] q rest = (p ≡ q) × (text ≡ rest)
Calls p text (f ∷ fs) q rest = (n : ℕ) × (r : Parser) × Called p text (Ok (Parsed n f)) r × Calls r (drop n text) fs q rest
