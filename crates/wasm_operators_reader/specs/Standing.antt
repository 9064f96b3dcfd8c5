-- Where a reader of operators stands, what it reads there, and why it refuses.
use Rattle.std.specs.Prelude.{◌≡◌, IsTrue, ◌⊎◌, ◌+◌, List, [], ◌∷◌, Some, None}
use Rattle.wasm_types.specs.decoding.Decoder.{State, Done}
use Rattle.wasm_types.specs.decoding.declared.error.ErrorKind.TheVariants.{Other}
use Rattle.wasm_types.specs.decoding.ErrorValue.{ErrorValue}
use Rattle.wasm_types.specs.reader.Reading.{Fails}
use Rattle.wasm_operators_immediates.specs.declared.frames.FrameKind.{FrameKind}
use Rattle.wasm_operators_immediates.specs.declared.frames.FrameKind.TheVariants.{Block}
use Rattle.wasm_operators_enums.specs.Op.{Op}
use Rattle.wasm_operators_enums.specs.Immediates.{is_canonical}
use Rattle.wasm_operators_encoding.specs.Coded.{operator}
use Rattle.wasm_operators_encoding.specs.Operators.{coded_of}
use Rattle.wasm_operators_decode.specs.Memory.{keeps_list_at}
use Rattle.wasm_operators_encoding.specs.expressions.Frames.{after}

-- its bytes, and the frames that are open, the innermost first
pub record Standing : Type 0 where
  pub bytes : State
  pub frames : List FrameKind

-- before an expression, whose own frame is open
abbrev pub at_start : State → Standing
at_start s = record { bytes = s; frames = Block ∷ [] }

-- behind an expression: no frame is open, and no byte is left
pub record IsFinished (s : Standing) : Type 0 where
  pub frames : s.frames ≡ []
  pub bytes : s.bytes.rest ≡ []

-- it reads this operator, which may come next, and stands there behind it
pub record Reads (s : Standing) (o : Op) (t : Standing) : Type 0 where
  pub canonical : IsTrue (is_canonical o)
  pub read : operator s.bytes.settings s.bytes ≡ Done (coded_of o) t.bytes
  pub fits : after o s.frames ≡ Some t.frames

-- an operator begins here that may not come next
pub record IsUnfit (s : Standing) : Type 0 where
  pub op : Op
  pub behind : State
  pub canonical : IsTrue (is_canonical op)
  pub read : operator s.bytes.settings s.bytes ≡ Done (coded_of op) behind
  pub unfit : after op s.frames ≡ None

-- Why nothing is read. With no frame open the reader is refused where it stands, before a byte is read. With one open,
-- no operator begins here; or one does that may not come next, which is refused behind its first byte.
abbrev pub RefusesIn : List FrameKind → Standing → ErrorValue → Type 0
RefusesIn [] s e = (e.kind ≡ Other) × (e.offset ≡ s.bytes.place)
RefusesIn (k ∷ ks) s e = Fails e (operator s.bytes.settings s.bytes) ⊎ (IsUnfit s × (e.kind ≡ Other) × (e.offset ≡ s.bytes.place + 1))

-- the same, by the frames of the standing
abbrev pub Refuses : Standing → ErrorValue → Type 0
Refuses s e = RefusesIn s.frames s e

-- an operator begins here that may come next, and opens a frame
pub record IsOpening (s : Standing) : Type 0 where
  pub op : Op
  pub behind : State
  pub frame : FrameKind
  pub canonical : IsTrue (is_canonical op)
  pub read : operator s.bytes.settings s.bytes ≡ Done (coded_of op) behind
  pub opens : after op s.frames ≡ Some (frame ∷ s.frames)

-- memory is taken for a list that the operator keeps, or for a frame
abbrev pub WantsMemory : Standing → Type 0
WantsMemory s = IsTrue (keeps_list_at s.bytes) ⊎ IsOpening s

-- memory is taken from here on: the first operator takes it, or is read and kept
abbrev pub TakesMemory : Standing → Type 0
TakesMemory s = WantsMemory s ⊎ ((o : Op) × (t : Standing) × Reads s o t)

-- it reads these operators, one after the other
abbrev pub Runs : Standing → List Op → Standing → Type 0
Runs s [] t = t ≡ s
Runs s (o ∷ os) t = (m : Standing) × Reads s o m × Runs m os t

-- this is why nothing more of an expression is read: bytes are left, and an operator is refused; or none is left while a frame is
-- open, which is refused at their end
abbrev pub Stops : Standing → ErrorValue → Type 0
Stops s e = ((s.bytes.rest ≡ [] → ⊥) × Refuses s e)
    ⊎ ((s.bytes.rest ≡ []) × (s.frames ≡ [] → ⊥) × (e.kind ≡ Other) × (e.offset ≡ s.bytes.place))

-- it reads some operators, and stops behind them
abbrev pub StopsAfter : Standing → ErrorValue → Type 0
StopsAfter s e = (os : List Op) × (t : Standing) × Runs s os t × Stops t e
