-- What a call of a parser answers, and where the parser stands then.
use Rattle.std.specs.Prelude.{◌≡◌, ℕ, ◌+◌, ◌==◌, nat_le, List, length, Bool, true, false, None, Result, Ok, Err, if◌then◌else◌}
use Rattle.wasm_types.specs.decoding.Decoder.{State, Outcome, Done, Short}
use Rattle.wasm_types.specs.decoding.declared.error.ErrorKind.TheVariants.{Failed, Other}
use Rattle.wasm_types.specs.decoding.ErrorValue.{ErrorValue}
use Rattle.wasm_types.specs.decoding.ErrorText.{hint_of}
use Rattle.wasm_types.specs.reader.Reading.{Fails, IsNotMemory}
use Rattle.wasm_sections_parser.specs.declared.frame.Encoding.{Encoding}
use Rattle.wasm_sections_parser.specs.declared.frame.Encoding.TheVariants as encodings
use Rattle.wasm_sections_parser.specs.declared.frame.Frame.{Frame}
use Rattle.wasm_sections_parser.specs.declared.frame.Frame.TheVariants as frames
use Rattle.wasm_sections_parser.specs.declared.progress.Stage.{Stage}
use Rattle.wasm_sections_parser.specs.declared.progress.Stage.TheVariants as stages
use Rattle.wasm_sections_parser.specs.declared.progress.Progress.{Progress}
use Rattle.wasm_sections_parser.specs.Parsers.{Parser, staged}
use Rattle.wasm_sections_parser.specs.declared.parser.Chunk.{Chunk}
use Rattle.wasm_sections_parser.specs.declared.parser.Chunk.TheVariants.{NeedMoreData, Parsed}
use Rattle.wasm_sections_parser.specs.Places.{IsPlaced}
use Rattle.wasm_sections_parser.specs.Needs.{needed}
use Rattle.wasm_sections_parser.specs.Steps.{Shape, version, custom, section, code, entry, the_end, is_over, counts_agree, step}

-- the layer that says so
abbrev pub layer_of : Encoding → ℕ
layer_of encodings.Module = 0
layer_of encodings.Component = 1

-- a frame of the code, as what it is
abbrev pub shape_of : Frame → Shape
shape_of (frames.Version n e r) = version (record { version = n; layer = layer_of e })
shape_of (frames.Custom c) = custom c.name.now c.«data».now
shape_of (frames.Section id r) = section id r.rest
shape_of (frames.CodeStart n r size) = code n size
shape_of (frames.CodeEntry r) = entry r.rest
shape_of (frames.End place) = the_end

-- where a parser reads these bytes
abbrev pub reads : Parser → List ℕ → State
reads p text = record { rest = text; place = p.offset; settings = p.settings; start = p.offset }

-- what comes next for a parser with these bytes
abbrev pub comes : Parser → List ℕ → Outcome (Shape × Progress)
comes p text = step p.settings p.progress (reads p text)

-- whether a section, or the end, may come at this offset
abbrev pub between : Stage → ℕ → Bool
between stages.Header place = false
between stages.Sections place = true
between (stages.Code left end) place = if left == 0 then nat_le end place else false
between stages.Ended place = false
between stages.Failed place = false

-- whether no byte is there, where a section or the end may come
abbrev pub at_end : Parser → List ℕ → Bool
at_end p text = if length text == 0 then between p.progress.stage p.offset else false

-- the next frame was read, of so many bytes
pub record IsNext (p : Parser) (text : List ℕ) (n : ℕ) (f : Frame) (q : Parser) : Type 0 where
  pub after : State
  pub read : comes p text ≡ Done (shape_of f, q.progress) after
  pub placed : IsPlaced f q.progress (reads p text) after.place
  pub consumed : after.place ≡ p.offset + n
  pub offset : q.offset ≡ after.place
  pub settings : q.settings ≡ p.settings

-- What is answered where no byte is there and a section or the end may come: the end, where no byte follows and the counts agree.
-- An id alone tells nothing, so two bytes are needed.
abbrev pub Ends : Parser → Bool → Result Chunk ErrorValue → Parser → Type 0
Ends p eof (Ok (NeedMoreData n)) q = (eof ≡ false) × (n ≡ 2) × (q ≡ p)
Ends p eof (Ok (Parsed n f)) q = (eof ≡ true) × (counts_agree p.progress ≡ true) × (n ≡ 0) × (f ≡ frames.End p.offset)
    × (q ≡ staged p stages.Ended)
Ends p eof (Err e) q = (eof ≡ true) × (counts_agree p.progress ≡ false) × (e.kind ≡ Other) × (e.offset ≡ p.offset)
    × (q ≡ staged p stages.Failed)

-- bytes are missing, and so many more can bring a frame or a refusal
abbrev pub Lacks : Parser → List ℕ → ℕ → Type 0
Lacks p text n = (place : ℕ) × (lacking : ℕ) × (comes p text ≡ Short place lacking) × (n ≡ needed p.progress p.offset text lacking)

-- What is answered elsewhere: what comes next. Where bytes are missing, the least number is told that can bring something else, and
-- if none follow it is an error.
abbrev pub Comes : Parser → List ℕ → Bool → Result Chunk ErrorValue → Parser → Type 0
Comes p text eof (Ok (NeedMoreData n)) q = (eof ≡ false) × Lacks p text n × (q ≡ p)
Comes p text eof (Ok (Parsed n f)) q = IsNext p text n f q
Comes p text eof (Err e) q = IsNotMemory e.kind × Fails e (comes p text) × ((eof ≡ false) → hint_of e.kind ≡ None)
    × (q ≡ staged p stages.Failed)

-- what a parser answers behind the end and behind a refusal
abbrev pub IsOver : Parser → Result Chunk ErrorValue → Parser → Type 0
IsOver p (Ok c) q = ⊥
IsOver p (Err e) q = (e.kind ≡ Failed) × (q ≡ p) × (e.offset ≡ p.offset)

-- one of two
abbrev pub one_of : Bool → Type 0 → Type 0 → Type 0
one_of true x y = x
one_of false x y = y

-- what a call answers to these bytes, behind which none follow where eof says so
abbrev pub Parses : Parser → List ℕ → Bool → Result Chunk ErrorValue → Parser → Type 0
Parses p text eof result q = one_of (is_over p.progress) (IsOver p result q)
    (one_of (at_end p text) (Ends p eof result q) (Comes p text eof result q))
