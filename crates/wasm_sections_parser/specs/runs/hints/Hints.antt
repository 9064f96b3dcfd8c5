-- What a call says that asks for more bytes (WebAssembly 3.0, binary format, modules).
use Rattle.std.specs.Prelude.{◌≡◌, ◌⊎◌, ℕ, ◌+◌, ◌-◌, ◌<◌, ◌≤◌, List, [], ◌∷◌, ◌++◌, length, true, false, Result, Ok}
use Rattle.wasm_types.specs.decoding.Decoder.{Short, IsBeyond}
use Rattle.wasm_types.specs.decoding.ErrorValue.{ErrorValue}
use Rattle.wasm_sections_parser.specs.Parsers.{Parser}
use Rattle.wasm_sections_parser.specs.declared.parser.Chunk.{Chunk}
use Rattle.wasm_sections_parser.specs.declared.parser.Chunk.TheVariants.{NeedMoreData}
use Rattle.wasm_sections_parser.specs.declared.progress.Stage.{Stage}
use Rattle.wasm_sections_parser.specs.declared.progress.Stage.TheVariants as stages
use Rattle.wasm_sections_parser.specs.Parsing.{comes, between, Parses}

-- with these bytes, which others may follow, a call asks for so many more and leaves the parser
abbrev pub Asks : Parser → List ℕ → ℕ → Type 0
Asks p text n = (answer : Result Chunk ErrorValue) (q : Parser) → Parses p text false answer q → (answer ≡ Ok (NeedMoreData n)) × (q ≡ p)

-- with these bytes, which others may follow, a call gives a frame or is refused
abbrev pub IsEnough : Parser → List ℕ → Type 0
IsEnough p text = (n : ℕ) (q : Parser) → Parses p text false (Ok (NeedMoreData n)) q → ⊥

-- numbers of eight bits
abbrev pub AreBytes : List ℕ → Type 0
AreBytes [] = Unit {0}
AreBytes (b ∷ bs) = (b < 256) × AreBytes bs

-- bytes of a number in LEB128 of which none is its last
abbrev pub AreNotLast : List ℕ → Type 0
AreNotLast [] = Unit {0}
AreNotLast (b ∷ bs) = (128 ≤ b) × AreNotLast bs

-- the same, and one at least
abbrev pub IsBegun : List ℕ → Type 0
IsBegun [] = ⊥
IsBegun (b ∷ bs) = (128 ≤ b) × AreNotLast bs

-- The bytes, the first of which stands at this offset, end within the number that is the size of a section or of a body, behind its
-- first byte.
abbrev pub EndsWithinSize : Stage → ℕ → List ℕ → Type 0
EndsWithinSize g place text = ((between g place ≡ true) × ((id : ℕ) × (number : List ℕ) × (text ≡ id ∷ number) × IsBegun number))
    ⊎ ((left : ℕ) × (end : ℕ) × (g ≡ stages.Code left end) × (0 < left) × IsBegun text)

-- So many more bytes are the least that can bring a frame or a refusal: some so many do, and with fewer, whatever they are, the call
-- asks for more again, and no less than for those that are still missing. It asks for just these but where the bytes end within a
-- size, which may become larger than its least. With as many or more, what was missing is there, and nothing that begins where it
-- does is missing any more.
pub record IsLeast (p : Parser) (text : List ℕ) (n : ℕ) : Type 0 where
  pub fewer : (more : List ℕ) → AreBytes more → length more < n → (m : ℕ) × (n ≤ length more + m) × Asks p (text ++ more) m
  pub enough : (more : List ℕ) × AreBytes more × (length more ≡ n) × IsEnough p (text ++ more)
  pub still : (EndsWithinSize p.progress.stage p.offset text → ⊥) → (more : List ℕ) → length more < n → Asks p (text ++ more) (n - length more)
  pub there : (place h : ℕ) (more : List ℕ) → comes p text ≡ Short place h → n ≤ length more → IsBeyond place (comes p (text ++ more))
