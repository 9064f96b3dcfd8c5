-- What the frames of a run say of the bytes (WebAssembly 3.0, binary format, modules).
use Rattle.std.specs.Prelude.{◌≡◌, ◌⊎◌, ℕ, ◌+◌, List, [], ◌∷◌, ◌++◌, length}
use Rattle.wasm_types.specs.settings.Settings.{Settings}
use Rattle.wasm_types.specs.decoding.Decoder.{State, Takes}
use Rattle.wasm_sections_items.specs.frames.Outer.{Header, SpelledHeader, Part, code as code_section, Outer, SpelledOuter, IsOrdered, CountsAgree, DeclaresOrAbsent}
use Rattle.wasm_sections_parser.specs.declared.progress.Progress.{Progress}
use Rattle.wasm_sections_parser.specs.Steps.{Shape, version, code, begun}
use Rattle.wasm_sections_parser.specs.runs.steps.Remembered.{CountsFit}
use Rattle.wasm_sections_parser.specs.runs.calls.Runs.{fresh, entries, Frames, AreCounted, Opened, Seen}

-- these are the frames of the module that the text spells, in order, with readable counts that agree
pub record IsModule (z : Settings) (text : List ℕ) (xs : List Shape) : Type 0 where
  pub outer : Outer
  pub spelled : SpelledOuter z outer text
  pub frames : Frames z outer text xs
  pub ordered : IsOrdered outer.parts
  pub counted : AreCounted outer.parts
  pub counts : CountsAgree outer.parts

-- a header, and behind it what a run tells
pub record Begun (z : Settings) (s : State) (xs : List Shape) (q : Progress) (t : State) : Type 0 where
  pub header : Header
  pub text : List ℕ
  pub others : List Shape
  pub there : State
  pub headed : SpelledHeader header text
  pub taken : Takes s text there
  pub frames : xs ≡ version header ∷ others
  pub seen : Seen z (begun fresh) there others q t

-- what a run from the start of a module tells: nothing was read, or a header and what follows it
abbrev pub IsFront : Settings → State → List Shape → Progress → State → Type 0
IsFront z s xs q t = ((xs ≡ []) × (fresh ≡ q) × (s ≡ t)) ⊎ Begun z s xs q t

-- ---- fronts of modules

-- Behind these sections nothing more.
pub record IsClosed (ps : List Part) (text : List ℕ) (xs : List Shape) (beyond : ℕ) : Type 0 where
  pub ordered : IsOrdered ps
  pub none : text ≡ []
  pub frames : xs ≡ []
  pub ends : beyond ≡ 0

-- Behind these sections, in its place, a code section as far as it is there: its count, which is that of the functions, and its size, and
-- the first of its bodies. By its size it ends so many bytes beyond those sections.
pub record IsCut (ps : List Part) (text : List ℕ) (xs : List Shape) (beyond : ℕ) : Type 0 where
  pub count : ℕ
  pub size : ℕ
  pub bodies : List (List ℕ)
  pub opened : Opened count size bodies text
  pub declared : DeclaresOrAbsent 3 count ps
  pub ordered : IsOrdered (ps ++ code_section bodies ∷ [])
  pub frames : xs ≡ code count size ∷ entries bodies
  pub ends : beyond ≡ 1 + length opened.size + size

-- The text spells the front of a module, with these frames: a header, whole sections in order with readable counts that agree as far as
-- they are there, and behind them nothing or a code section as far as it is there. By the sizes of its sections the front is so many bytes long, of which the last
-- need not be there.
pub record IsSpelledFront (z : Settings) (text : List ℕ) (xs : List Shape) (long : ℕ) : Type 0 where
  pub outer : Outer
  pub front : List ℕ
  pub back : List ℕ
  pub whole_frames : List Shape
  pub last_frames : List Shape
  pub beyond : ℕ
  pub framed : Frames z outer front whole_frames
  pub counted : AreCounted outer.parts
  pub counts : CountsFit outer.parts
  pub tail : IsClosed outer.parts back last_frames beyond ⊎ IsCut outer.parts back last_frames beyond
  pub whole : text ≡ front ++ back
  pub frames : xs ≡ whole_frames ++ last_frames
  pub ends : long ≡ length front + beyond

-- the same, or nothing yet
abbrev pub IsStart : Settings → List ℕ → List Shape → ℕ → Type 0
IsStart z text xs long = ((text ≡ []) × (xs ≡ []) × (long ≡ 0)) ⊎ IsSpelledFront z text xs long
