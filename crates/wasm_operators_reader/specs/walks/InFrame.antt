-- What is read where the innermost open frame is known, and why it is refused.
use Rattle.std.specs.Prelude.{◌≡◌, IsTrue, ◌⊎◌, ◌+◌, true, false, Option, Some, None}
use Rattle.wasm_types.specs.decoding.Decoder.{State, Done}
use Rattle.wasm_types.specs.decoding.declared.error.ErrorKind.TheVariants.{Other}
use Rattle.wasm_types.specs.decoding.ErrorValue.{ErrorValue}
use Rattle.wasm_types.specs.reader.Reading.{Fails}
use Rattle.wasm_operators_immediates.specs.declared.frames.FrameKind.{FrameKind}
use Rattle.wasm_operators_enums.specs.Op.{Op}
use Rattle.wasm_operators_enums.specs.Immediates.{is_canonical}
use Rattle.wasm_operators_enums.specs.Roles.{fits}
use Rattle.wasm_operators_encoding.specs.Coded.{operator}
use Rattle.wasm_operators_encoding.specs.Operators.{coded_of}
use Rattle.wasm_operators_enums.specs.Vectors.{is_simd}
use Rattle.wasm_operators_reader.specs.FirstByte.{ToldFirst, vector_in}

-- this operator begins here, may come next in this frame, and ends where t stands
pub record ReadsIn (frame : Option FrameKind) (s : State) (o : Op) (t : State) : Type 0 where
  pub canonical : IsTrue (is_canonical o)
  pub read : operator s.settings s ≡ Done (coded_of o) t
  pub fits : IsTrue (fits o frame)

-- an operator begins here that may not come next in this frame
pub record IsMisplaced (frame : Option FrameKind) (s : State) : Type 0 where
  pub op : Op
  pub behind : State
  pub canonical : IsTrue (is_canonical op)
  pub read : operator s.settings s ≡ Done (coded_of op) behind
  pub misfit : fits op frame ≡ false

-- Why nothing is read. With no frame open that is refused where the reader stands, before a byte is read. With one open, no
-- operator begins here; or one does that may not come next, which is refused behind its first byte.
abbrev pub RefusesIn : Option FrameKind → State → ErrorValue → Type 0
RefusesIn None s e = (e.kind ≡ Other) × (e.offset ≡ s.place)
RefusesIn (Some k) s e = Fails e (operator s.settings s) ⊎ (IsMisplaced (Some k) s × (e.kind ≡ Other) × (e.offset ≡ s.place + 1))

-- an operator on vectors is read here, which is refused where it begins
pub record RefusesVectorIn (frame : Option FrameKind) (s : State) (e : ErrorValue) : Type 0 where
  pub op : Op
  pub behind : State
  pub read : ReadsIn frame s op behind
  pub vector : is_simd op ≡ true
  pub kind : e.kind ≡ Other
  pub offset : e.offset ≡ s.place

-- no operator is read here; if it begins as one on vectors, it is refused where it begins, whatever follows
abbrev pub RefusesUnreadIn : Option FrameKind → State → ErrorValue → Type 0
RefusesUnreadIn frame s e = (f : ErrorValue) × RefusesIn frame s f × ToldFirst (vector_in frame s) s.place f e

-- why no operator is read, or one on vectors
abbrev pub RefusesPlainIn : Option FrameKind → State → ErrorValue → Type 0
RefusesPlainIn frame s e = RefusesUnreadIn frame s e ⊎ RefusesVectorIn frame s e
