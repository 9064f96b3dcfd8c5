-- The open frames as `ControlStack` holds them.
use Rattle.std.specs.Prelude.{◌≡◌, ℕ, List, [], ◌∷◌, reverse, Option, Some, None}
use Rattle.wasm_operators_immediates.specs.declared.frames.FrameKind.{FrameKind}

-- the frames that are open, the innermost first, and how many may be open before more memory is asked for
pub record OpenFrames : Type 0 where
  pub frames : List FrameKind
  pub capacity : ℕ

-- the innermost frame, and those around it, of which the last is the nearest
abbrev pub frames_in : Option FrameKind → List FrameKind → List FrameKind
frames_in None around = []
frames_in (Some k) around = k ∷ reverse around

-- frames stand around a frame alone
abbrev pub IsStack : Option FrameKind → List FrameKind → Type 0
IsStack None around = around ≡ []
IsStack (Some k) around = Unit {0}

-- the first of the frames, which is the innermost
abbrev pub innermost : List FrameKind → Option FrameKind
innermost [] = None
innermost (k ∷ ks) = Some k

-- those around it
abbrev pub around : List FrameKind → List FrameKind
around [] = []
around (k ∷ ks) = ks
