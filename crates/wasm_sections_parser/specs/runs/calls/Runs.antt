-- Runs of a parser over a whole text, and which frames a module has (WebAssembly 3.0, binary format, modules).
use Rattle.std.specs.Prelude.{◌≡◌, ◌⊎◌, ℕ, ◌-◌, ◌≤◌, List, [], ◌∷◌, ◌++◌, length, true, false}
use Rattle.wasm_types.specs.settings.Settings.{Settings}
use Rattle.wasm_types.specs.decoding.Decoder.{State, Done, Many, Takes}
use Rattle.wasm_types.specs.decoding.Leb.{IsUnsigned}
use Rattle.wasm_sections_items.specs.frames.Outer as outer
use Rattle.wasm_sections_items.specs.frames.Outer.{Part, SpelledHeader, SpelledPart, SpelledEntry, Outer, Counts, ranks, Ascends}
use Rattle.wasm_sections_parser.specs.declared.progress.Stage.TheVariants as stages
use Rattle.wasm_sections_parser.specs.declared.progress.Progress.{Progress}
use Rattle.wasm_sections_parser.specs.Steps.{Shape, version, custom, section, code, entry, in_code, begun, is_late, has_count, step}
use Rattle.wasm_sections_parser.specs.Parsing.{between}
pub use Rattle.wasm_sections_parser.specs.runs.steps.Remembered.{fresh, Noted, AreNoted, AreRead}

-- ---- runs

-- one frame after the other, from where a parser stands
abbrev pub Run : Settings → Progress → State → List Shape → Progress → State → Type 0
Run z p s [] q t = (p ≡ q) × (s ≡ t)
Run z p s (x ∷ xs) q t = (r : Progress) × (u : State) × (step z p s ≡ Done (x, r) u) × Run z r u xs q t

-- ---- the frames of a module

-- bodies, each a frame
abbrev pub entries : List (List ℕ) → List Shape
entries [] = []
entries (e ∷ es) = entry e ∷ entries es

-- The frames of a section that a text spells. The code section comes as its start, with the size of its contents, and then body by
-- body.
abbrev pub Framed : Settings → Part → List ℕ → List Shape → Type 0
Framed z (outer.custom n c) text xs = SpelledPart z (outer.custom n c) text × (xs ≡ custom n c ∷ [])
Framed z (outer.section id c) text xs = SpelledPart z (outer.section id c) text × (xs ≡ section id c ∷ [])
Framed z (outer.code es) text xs = (h : SpelledPart z (outer.code es) text) × (xs ≡ code (length es) (length (h.2.content)) ∷ entries es)

-- those of sections, one after the other
abbrev pub AreFramed : Settings → List Part → List ℕ → List Shape → Type 0
AreFramed z [] text xs = (text ≡ []) × (xs ≡ [])
AreFramed z (x ∷ ps) text xs = (front : List ℕ) × (back : List ℕ) × (fs : List Shape) × (gs : List Shape) × Framed z x front fs × AreFramed z ps back gs × (text ≡ front ++ back) × (xs ≡ fs ++ gs)

-- those of a module
pub record Frames (z : Settings) (m : Outer) (text : List ℕ) (xs : List Shape) : Type 0 where
  pub header_text : List ℕ
  pub parts_text : List ℕ
  pub shapes : List Shape
  pub headed : SpelledHeader m.header header_text
  pub framed : AreFramed z m.parts parts_text shapes
  pub whole : text ≡ header_text ++ parts_text
  pub frames : xs ≡ version m.header ∷ shapes

-- a section whose count is to be remembered begins with one: functions, data segments and their count
abbrev pub IsCounted : Part → Type 0
IsCounted (outer.custom n c) = Unit {0}
IsCounted (outer.code es) = Unit {0}
IsCounted (outer.section id c) = has_count id ≡ true → (k : ℕ) × Counts k c

abbrev pub AreCounted : List Part → Type 0
AreCounted [] = Unit {0}
AreCounted (x ∷ ps) = IsCounted x × AreCounted ps

-- ---- a run that ends anywhere

-- A code section as far as it was read: its count of bodies, its size, the bodies so far.
pub record Opened (n k : ℕ) (es : List (List ℕ)) (text : List ℕ) : Type 0 where
  pub size : List ℕ
  pub count : List ℕ
  pub each : List ℕ
  pub sized : IsUnsigned 32 k size
  pub counted : IsUnsigned 32 n count
  pub bodies : Many SpelledEntry (length es) es each
  pub fewer : length es ≤ n
  pub inside : length (count ++ each) ≤ k
  pub whole : text ≡ outer.code_id ∷ (size ++ (count ++ each))

-- the same behind other sections, and where a parser stands then
pub record IsOpen (mid : Progress) (text : List ℕ) (xs : List Shape) (q : Progress) (t : State) : Type 0 where
  pub count : ℕ
  pub size : ℕ
  pub bodies : List (List ℕ)
  pub end : ℕ
  pub opened : Opened count size bodies text
  pub frames : xs ≡ code count size ∷ entries bodies
  pub in_time : is_late mid outer.code_id ≡ false
  pub agreed : mid.functions ≡ count
  pub noted : begun q ≡ begun (in_code mid count end)
  pub stage : q.stage ≡ stages.Code (count - length bodies) end
  pub place : t.place ≤ end
  pub going : between q.stage t.place ≡ false

-- nothing more, where a section may come
pub record IsBetween (mid : Progress) (text : List ℕ) (xs : List Shape) (q : Progress) (t : State) : Type 0 where
  pub none : text ≡ []
  pub frames : xs ≡ []
  pub noted : begun q ≡ begun mid
  pub between : between q.stage t.place ≡ true

-- What a run tells: whole sections in order, whose counts agree as far as they are compared, and after them nothing or a part of a code
-- section.
pub record Seen (z : Settings) (p : Progress) (s : State) (xs : List Shape) (q : Progress) (t : State) : Type 0 where
  pub parts : List Part
  pub front : List ℕ
  pub back : List ℕ
  pub whole_frames : List Shape
  pub last_frames : List Shape
  pub mid : Progress
  pub framed : AreFramed z parts front whole_frames
  pub noted : AreRead p parts mid
  pub ordered : Ascends p.last (ranks parts)
  pub taken : Takes s (front ++ back) t
  pub frames : xs ≡ whole_frames ++ last_frames
  pub tail : IsBetween mid back last_frames q t ⊎ IsOpen mid back last_frames q t
