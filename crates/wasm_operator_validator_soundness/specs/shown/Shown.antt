-- That what a validator shows along the code of a body is a typing of it.
use Rattle.std.specs.Prelude.{◌≡◌, Bool, true, false, IsTrue, List, [], ◌∷◌, ◌++◌, map, Option, Some, None}
use Rattle.wasm_operators_immediates.specs.declared.block.BlockType.{BlockType}
use Rattle.wasm_operators_immediates.specs.declared.frames.FrameKind.TheVariants as frames
use Rattle.wasm_operators_encoding.specs.expressions.Code.{Code, close, plain, nested, turn, IsExpression}
use Rattle.wasm_operator_validator_rules.specs.Operands.{Operand, bottom, known, AllBelow, stack}
use Rattle.wasm_operator_validator_rules.specs.Context.{Context, Initialised, Signature, Frame, label_of, inside, initialised_at_first}
use Rattle.wasm_operator_validator_rules.specs.Row.{after}
use Rattle.wasm_operator_validator_rules.specs.Typed.{other_part, in_part, Typed, IsBody}
use Rattle.wasm_operator_validator_state.specs.resources.Meaning.{Meaning, type_in}
use Rattle.wasm_operator_validator_state.specs.declared.operand.MaybeType.{MaybeType}
use Rattle.wasm_operator_validator_state.specs.declared.operand.MaybeType.TheVariants as maybe
use Rattle.wasm_operator_validator_state.specs.State.{Given, Saved, Open, State, signature_of, initialised, results, context}
use Rattle.wasm_operator_validator_state.specs.Steps.{Stacks}
use Rattle.wasm_operator_validator_state.specs.Bodies.{fresh, body_context}
use Rattle.wasm_operator_validator_soundness.specs.runs.Places.{Path, start, next, within, past, turned, missing, Place, place, place_at}
use Rattle.wasm_operator_validator_soundness.specs.shown.Leading.{Walks}

-- ---- at one place

-- the types that are shown, the top first
abbrev pub operand_of : Meaning → MaybeType → Operand
operand_of m (maybe.Known v) = known (type_in m v)
operand_of m a = bottom

abbrev pub operands_of : Meaning → List MaybeType → List Operand
operands_of m ks = map (operand_of m) ks

abbrev pub AllKnown : List MaybeType → Type 0
AllKnown [] = Unit {0}
AllKnown (maybe.Known v ∷ ks) = AllKnown ks
AllKnown (k ∷ ks) = ⊥

-- the innermost frame may be reached there, and the type of each of its operands is shown
abbrev pub IsKnown : List Open → Type 0
IsKnown [] = ⊥
IsKnown (p ∷ outer) = (p.unreachable ≡ false) × AllKnown p.operands

abbrev pub operands_in : Meaning → List Open → List Operand
operands_in m [] = []
operands_in m (p ∷ outer) = operands_of m p.operands

-- a frame of the rules is the one that is shown; the parameters are asked where an `else` may ask for them
pub record IsOpenFrame (m : Meaning) (w : Given) (p : Open) (f : Frame) : Type 0 where
  pub kind : f.kind ≡ p.kind
  pub results : f.block.results ≡ results m p
  pub params : f.kind ≡ frames.If → f.block.params ≡ (signature_of m p.block).params
  pub before : f.before ≡ initialised m w p.before

abbrev pub IsInnermost : Meaning → Given → Frame → List Open → Type 0
IsInnermost m w f [] = ⊥
IsInnermost m w f (p ∷ outer) = IsOpenFrame m w p f

-- What a typing says at a place is what is known there: the context with its labels, the frame, the locals that are set, and the
-- operands. Each operand is above what is shown of it. If all are shown, each is below it too.
pub record Shows (m : Meaning) (σ : State) (g : Context) (f : Frame) (set : Initialised) (s : List Operand) : Type 0 where
  pub context : g ≡ context m σ.given σ.opens
  pub frame : IsInnermost m σ.given f σ.opens
  pub locals : set ≡ initialised m σ.given σ.inits
  pub stands : Stacks m σ s
  pub shown : IsKnown σ.opens → AllBelow s (operands_in m σ.opens)

-- ---- along code

-- at each place of a derivation
abbrev pub ShownBy : (m : Meaning) (c : Code) (σ τ : State) → Walks m c σ τ → (g : Context) (f : Frame) (set : Initialised)
    (s : List Operand) → Typed g f set c s → Type 0
ShownBy m (close o) σ τ w g f set s t = Shows m σ g f set s
ShownBy m (plain o more) σ τ w g f set s t = Shows m σ g f set s × ShownBy m more w.0 τ w.2 g f (after o set) t.0 t.2
ShownBy m (nested o body more) σ τ w g f set s t = Shows m σ g f set s
    × ShownBy m body w.0 w.1 w.3 (inside t.0 (label_of t.0 t.1) g) (record { kind = t.0; block = t.1; before = set }) set
    (stack (t.1).params) t.5
    × ShownBy m more w.1 τ w.4 g f set (stack (t.1).results ++ t.2) t.6
ShownBy m (turn o more) σ τ w g f set s t = Shows m σ g f set s
    × ShownBy m more w.0 τ w.2 (in_part o g) (other_part o f) f.before (stack t.0) t.3

-- ---- the laws

-- the frame and the locals with which a body begins
abbrev pub body_frame : Context → Initialised → Frame
body_frame g set = record { kind = frames.Block; block = record { params = []; results = g.results }; before = set }

pub record IsShownTyping (m : Meaning) (w : Given) (b : BlockType) (saved : Saved) (c : Code) (τ : State)
    (walks : Walks m c (fresh w b saved) τ) : Type 0 where
  pub body : IsBody (body_context m w b) w.params c
  pub shown : ShownBy m c (fresh w b saved) τ walks (inside frames.Block (body_context m w b).results (body_context m w b))
      (body_frame (body_context m w b) (initialised_at_first w.params (body_context m w b).locals))
      (initialised_at_first w.params (body_context m w b).locals) [] body.typed

-- If a body's operators lead from its beginning to its end, one after the other, the body has a derivation that says at each place
-- what is known there.
abbrev pub ShownOperandsAreATyping : Type 0
ShownOperandsAreATyping = (m : Meaning) (w : Given) (b : BlockType) (saved : Saved) (c : Code) (τ : State)
    (walks : Walks m c (fresh w b saved) τ) → IsExpression c → IsShownTyping m w b saved c τ walks

-- ---- by paths

-- what the validator knows at a place
pub record Seen (m : Meaning) : Type 0 where
  pub code : Code
  pub here : State
  pub last : State
  pub walks : Walks m code here last

abbrev pub seen : (m : Meaning) (c : Code) (σ τ : State) → Walks m c σ τ → Option (Seen m)
seen m c σ τ w = Some (record { code = c; here = σ; last = τ; walks = w })

module _ (m : Meaning) where
  abbrev pub next_seen : (c : Code) (σ τ : State) → Walks m c σ τ → Option (Seen m)
  next_seen (plain o more) σ τ w = seen m more w.0 τ w.2
  next_seen (close o) σ τ w = None
  next_seen (nested o body more) σ τ w = None
  next_seen (turn o more) σ τ w = None

  abbrev pub within_seen : (c : Code) (σ τ : State) → Walks m c σ τ → Option (Seen m)
  within_seen (nested o body more) σ τ w = seen m body w.0 w.1 w.3
  within_seen (close o) σ τ w = None
  within_seen (plain o more) σ τ w = None
  within_seen (turn o more) σ τ w = None

  abbrev pub past_seen : (c : Code) (σ τ : State) → Walks m c σ τ → Option (Seen m)
  past_seen (nested o body more) σ τ w = seen m more w.1 τ w.4
  past_seen (close o) σ τ w = None
  past_seen (plain o more) σ τ w = None
  past_seen (turn o more) σ τ w = None

  abbrev pub turned_seen : (c : Code) (σ τ : State) → Walks m c σ τ → Option (Seen m)
  turned_seen (turn o more) σ τ w = seen m more w.0 τ w.2
  turned_seen (close o) σ τ w = None
  turned_seen (plain o more) σ τ w = None
  turned_seen (nested o body more) σ τ w = None

  abbrev pub from_seen : ((c : Code) (σ τ : State) → Walks m c σ τ → Option (Seen m)) → Option (Seen m) → Option (Seen m)
  from_seen step None = None
  from_seen step (Some v) = step v.code v.here v.last v.walks

  -- nothing is known of a second part that is not written
  abbrev pub seen_at : Option (Seen m) → Path → Option (Seen m)
  seen_at d start = d
  seen_at d (next q) = from_seen next_seen (seen_at d q)
  seen_at d (within q) = from_seen within_seen (seen_at d q)
  seen_at d (past q) = from_seen past_seen (seen_at d q)
  seen_at d (turned q) = from_seen turned_seen (seen_at d q)
  seen_at d (missing q) = None

-- the path leads to a place that is written
abbrev pub IsWritten : Path → Type 0
IsWritten start = Unit {0}
IsWritten (next q) = IsWritten q
IsWritten (within q) = IsWritten q
IsWritten (past q) = IsWritten q
IsWritten (turned q) = IsWritten q
IsWritten (missing q) = ⊥

-- what a validator knows there is what is said there
pub record ShowsPlace (m : Meaning) (l : Place) (d : Option (Seen m)) : Type 0 where
  pub at : Seen m
  pub found : d ≡ Some at
  pub shows : Shows m at.here l.context l.frame l.set l.operands

-- At each place of such a derivation that is written, what it says is what the validator knows there.
abbrev pub PlacesAreShown : Type 0
PlacesAreShown = (m : Meaning) (c : Code) (σ τ : State) (walks : Walks m c σ τ) (g : Context) (f : Frame) (set : Initialised)
    (s : List Operand) (t : Typed g f set c s) → ShownBy m c σ τ walks g f set s t → (q : Path) → IsWritten q → (l : Place)
    → place_at (place g f set c s t) q ≡ Some l → ShowsPlace m l (seen_at m (seen m c σ τ walks) q)
