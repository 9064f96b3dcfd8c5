-- The states that a run of valid code may be in (WebAssembly 3.0, appendix, soundness, configuration validity): each local and each
-- value fits what the rules know of it there, and the code that is still to come is typed over that.
use Rattle.std.specs.Prelude.{◌≡◌, ℕ, List, [], ◌∷◌, ◌++◌, map, Option, Some, None, Bool, false, IsTrue, slice_get}
use Rattle.wasm_types.specs.trees.Trees.{TypeTree}
use Rattle.wasm_types.specs.trees.Below.{expanded}
use Rattle.wasm_types.specs.trees.ValidGroup.{IsFunction}
use Rattle.wasm_operators_immediates.specs.declared.frames.FrameKind.{FrameKind}
use Rattle.wasm_operators_immediates.specs.declared.frames.FrameKind.TheVariants as frames
use Rattle.wasm_operators_encoding.specs.expressions.Code.{Code, IsIn}
use Rattle.wasm_operator_validator_rules.specs.Operands.{ValueType, Operand, stack}
use Rattle.wasm_operator_validator_rules.specs.Context.{Context, Initialised, Signature, Frame, IsFunctionType}
use Rattle.wasm_operator_validator_rules.specs.Exceptions.{EachCatches}
use Rattle.wasm_operator_validator_soundness.specs.runs.Values.{Program, IsStandardType, Value, HasArguments, Fits, AllFit}
use Rattle.wasm_operator_validator_soundness.specs.runs.States.{Continuation, behind, again, Handlers, no_handlers, table, clauses, Exception, Label, Activation, State, branch_type, is_clause}
use Rattle.wasm_operator_validator_soundness.specs.runs.Notes.{Notes, IsAlong, plainly}
use Rattle.wasm_operator_validator_soundness.specs.runs.States.{Outcome, next, returned, trapped, thrown, stuck}

-- ---- locals

-- a local that the rules know to have a value has one
abbrev pub AreSet : Initialised → List (Option Value) → Type 0
AreSet set locals = (x : ℕ) → IsTrue (set x) → (v : Value) × (slice_get locals x ≡ Some (Some v))

-- a local has no value, or one of its type
abbrev pub LocalFits : Program → Option Value → ValueType → Type 0
LocalFits p None t = Unit {0}
LocalFits p (Some v) t = Fits p v t

-- each local, and as many as there are types
abbrev pub LocalsFit : Program → List (Option Value) → List ValueType → Type 0
LocalsFit p [] [] = Unit {0}
LocalsFit p [] (t ∷ ts) = ⊥
LocalsFit p (o ∷ os) [] = ⊥
LocalsFit p (o ∷ os) (t ∷ ts) = LocalFits p o t × LocalsFit p os ts

-- ---- labels

-- the type of a tag; and that of an exception, which was thrown with values
abbrev pub IsTagType : TypeTree → Type 0
IsTagType t = IsStandardType t × IsFunction (expanded t)

abbrev pub IsThrown : TypeTree → Type 0
IsThrown t = IsStandardType t × IsFunction (expanded t) × HasArguments (expanded t)

-- what a label caught, if anything, is an exception
abbrev pub IsCaught : Option Exception → Type 0
IsCaught None = Unit {0}
IsCaught (Some e) = IsThrown e.type

-- all that the rules know at a place except the labels
pub record Around : Type 0 where
  pub types : List ValueType
  pub results : List ValueType
  pub shared : Bool
  pub whole : Code

abbrev pub around_of : Activation → Around
around_of act = record { types = act.types; results = act.results; shared = act.shared; whole = act.whole }

module _ (p : Program) (w : Around) where
  -- the context at a place, with these labels
  abbrev pub at : List (List ValueType) → List Bool → Context
  at labels catches = record {
    bits = p.bits;
    «module» = p.«module»;
    locals = w.types;
    labels = labels;
    catches = catches;
    results = w.results;
    shared = w.shared;
  }

  -- among these labels
  abbrev pub among : List Label → Context
  among ls = at (map branch_type ls) (map is_clause ls)

  -- the frame that a label is to the rules
  abbrev pub frame_of : FrameKind → Signature → Initialised → Frame
  frame_of kind b before = record { kind = kind; block = b; before = before }

module _ (N : Notes) (p : Program) (w : Around) (locals : List (Option Value)) where
  -- a loop's instructions, which begin at this note, are typed from its parameters
  abbrev pub LoopsBack : N.Note → Continuation → Signature → List Label → Type 0
  LoopsBack root behind b ls = Unit {0}
  LoopsBack root (again body) b ls = (kind : FrameKind) × IsIn kind body × (before set : Initialised)
      × AreSet set locals
      × N.Holds root (at p w (b.params ∷ map branch_type ls) (false ∷ map is_clause ls))
      (frame_of p w kind b before) set body (stack b.params)

  -- what catches is typed
  abbrev pub HandlersFit : N.Note → Handlers → Signature → List Label → Type 0
  HandlersFit root no_handlers b ls = Unit {0}
  HandlersFit root (table cs) b ls = EachCatches (among p w ls) cs
  HandlersFit root (clauses c) b ls = (before set : Initialised) × AreSet before locals × (s : List Operand)
      × IsIn frames.LegacyTry c
      × N.Holds root (at p w (b.results ∷ map branch_type ls) (false ∷ map is_clause ls))
      (frame_of p w frames.LegacyTry b before) set c s

  -- the place after a block, whose instructions begin at this note, if there is one within
  abbrev pub IsAround : Option N.Note → N.Note → Type 0
  IsAround None place = Unit {0}
  IsAround (Some root) place = (k : N.Note) × (root ≡ N.within k) × (place ≡ N.past k)

  -- A label, with these around it, awaits values for these operands: at a place of the code of its block, which is after the block
  -- of the label within it, if there is one.
  pub record Awaits (l : Label) (ls : List Label) (given : List Operand) (inner : Option N.Note) : Type 0 where
    pub root : N.Note
    pub place : N.Note
    pub along : IsAlong N root place
    pub around : IsAround inner place
    pub kind : FrameKind
    pub inside : IsIn kind l.code
    pub before : Initialised
    pub set : Initialised
    pub are_set : AreSet set locals
    pub operands : List Operand
    pub fit : AllFit p l.values operands
    pub typed : N.Holds place (among p w (l ∷ ls)) (frame_of p w kind l.block before) set l.code (given ++ operands)
    pub loops : LoopsBack root l.continuation l.block ls
    pub handlers : HandlersFit root l.handlers l.block ls
    pub caught : IsCaught l.caught

  -- the outermost label's code is that of the body of a function, which is the activation's whole code
  abbrev pub IsWhole : Option N.Note → Type 0
  IsWhole None = Unit {0}
  IsWhole (Some root) = (x : ℕ) × (root ≡ N.whole x) × (before : Initialised)
      × N.Holds root (at p w (w.results ∷ []) (false ∷ []))
      (frame_of p w frames.Block (record { params = []; results = w.results }) before) before w.whole []

  -- each awaits what the one within it gives, and the outermost gives what is owed
  abbrev pub LabelsAwait : List ValueType → List Label → List Operand → Option N.Note → Type 0
  LabelsAwait owed [] given inner = IsWhole inner × ((vs : List Value) → AllFit p vs given → AllFit p vs (stack owed))
  LabelsAwait owed (l ∷ ls) given inner = (k : Awaits l ls given inner)
      × LabelsAwait owed ls (stack l.block.results) (Some k.root)

-- ---- activations

-- An activation awaits values for these operands: its locals fit, what it gives is what it owes, and so are its labels.
pub record ActivationAwaits (N : Notes) (p : Program) (act : Activation) (given : List Operand) : Type 0 where
  pub locals : LocalsFit p act.locals act.types
  pub results : (vs : List Value) → AllFit p vs (stack act.results) → AllFit p vs (stack act.owed)
  pub labels : LabelsAwait N p (around_of act) act.locals act.owed (act.innermost ∷ act.around) given None

-- Each activation awaits at least what the one within it owes, by a function on fitting values, so that owed results and tail calls
-- compose; the outermost owes the results of the run.
abbrev pub AllAwait : Notes → Program → List ValueType → List Activation → List Operand → Type 0
AllAwait N p final [] given = (vs : List Value) → AllFit p vs given → AllFit p vs (stack final)
AllAwait N p final (act ∷ acts) given = (wanted : List Operand)
    × ((vs : List Value) → AllFit p vs given → AllFit p vs wanted)
    × ActivationAwaits N p act wanted × AllAwait N p final acts (stack act.owed)

-- the activations of a run with these results: the innermost awaits nothing, and each other one what that within it owes
abbrev pub IsValidStateBy : Notes → Program → List ValueType → State → Type 0
IsValidStateBy N p final [] = ⊥
IsValidStateBy N p final (act ∷ acts) = ActivationAwaits N p act [] × AllAwait N p final acts (stack act.owed)

-- such a state again; or an end in which what is returned is of these results, and what is thrown of its tag's parameters
abbrev pub IsValidOutcomeBy : Notes → Program → List ValueType → Outcome → Type 0
IsValidOutcomeBy N p final (next s) = IsValidStateBy N p final s
IsValidOutcomeBy N p final (returned vs) = AllFit p vs (stack final)
IsValidOutcomeBy N p final trapped = Unit {0}
IsValidOutcomeBy N p final (thrown t vs) = (b : Signature) × IsFunctionType t b × AllFit p vs (stack b.params)
IsValidOutcomeBy N p final stuck = ⊥

-- by some typing
abbrev pub IsValidState : Program → List ValueType → State → Type 0
IsValidState = IsValidStateBy plainly

abbrev pub IsValidOutcome : Program → List ValueType → Outcome → Type 0
IsValidOutcome = IsValidOutcomeBy plainly
