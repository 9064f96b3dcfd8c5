-- Typing with a note at each piece of code, by which it is told what place of what body that is. A state of a run is valid by such a typing
-- (`ValidStates`): by the plain one, whose notes say nothing, or by the places of given derivations (`Places`).
use Rattle.std.specs.Prelude.{◌≡◌, ℕ, List, [], ◌∷◌, ◌++◌}
use Rattle.wasm_operators_immediates.specs.declared.frames.FrameKind.{FrameKind}
use Rattle.wasm_operators_immediates.specs.declared.frames.FrameKind.TheVariants as frames
use Rattle.wasm_operators_enums.specs.Op.{Op}
use Rattle.wasm_operators_encoding.specs.expressions.Code.{Code, close, plain, nested, turn}
use Rattle.wasm_operator_validator_rules.specs.Operands.{ValueType, Operand, AllBelow, stack}
use Rattle.wasm_operator_validator_rules.specs.Context.{Context, Initialised, Signature, Frame, label_of, inside}
use Rattle.wasm_operator_validator_rules.specs.Row.{after}
use Rattle.wasm_operator_validator_rules.specs.Typed.{Steps, OpensFrame, entry_of, MayClose, EndsAt, Turns, other_part, in_part, Typed}

module _ (Note : Type 0) (next within past turned missing : Note → Note)
    (T : Note → Context → Frame → Initialised → Code → List Operand → Type 0) where
  -- what ends an `if` without `else` is the whole of its second part, which begins with the parameters
  abbrev pub EndsBoth : FrameKind → Note → Context → Signature → Initialised → Op → Type 0
  EndsBoth frames.If n g b before o = T (missing n) g (record { kind = frames.If; block = b; before = before }) before
      (close o) (stack b.params)
  EndsBoth k n g b before o = Unit {0}

  -- One layer of typing: as `Typed`, except that the code that is left, and that of a block, is typed as T says at its own note.
  abbrev pub Layer : Note → Context → Frame → Initialised → Code → List Operand → Type 0
  Layer n g f set (close o) s = AllBelow s (stack f.block.results) × MayClose f.kind f.block × EndsAt g o
      × EndsBoth f.kind n g f.block f.before o
  Layer n g f set (plain o more) s = (m : List Operand) × Steps g set o s m × T (next n) g f (after o set) more m
  Layer n g f set (nested o body more) s = (k : FrameKind) × (b : Signature) × (rest : List Operand)
      × OpensFrame g o k b × AllBelow s (stack (entry_of k b) ++ rest)
      × T (within n) (inside k (label_of k b) g) (record { kind = k; block = b; before = set }) set body
      (stack b.params)
      × T (past n) g f set more (stack b.results ++ rest)
  Layer n g f set (turn o more) s = (ts : List ValueType) × Turns g f.block o ts × AllBelow s (stack f.block.results)
      × T (turned n) (in_part o g) (other_part o f) f.before more (stack ts)

-- Notes: of the code after an operator, in a block, after the block, and after the operator between two parts of a frame; of a second
-- part that is not written; of the body of each function; and when code is typed at a note. Then it is typed in layers.
pub record Notes : Type 1 where
  pub Note : Type 0
  pub next : Note → Note
  pub within : Note → Note
  pub past : Note → Note
  pub turned : Note → Note
  pub missing : Note → Note
  pub whole : ℕ → Note
  pub Holds : Note → Context → Frame → Initialised → Code → List Operand → Type 0
  pub opened : (n : Note) (g : Context) (f : Frame) (set : Initialised) (c : Code) (s : List Operand)
      → Holds n g f set c s → Layer Note next within past turned missing Holds n g f set c s

-- ---- notes that say nothing

abbrev pub same_note : Unit {0} → Unit {0}
same_note n = n

abbrev pub just_typed : Unit {0} → Context → Frame → Initialised → Code → List Operand → Type 0
just_typed n = Typed

abbrev pub typed_both : (k : FrameKind) (n : Unit {0}) (g : Context) (b : Signature) (before : Initialised) (o : Op)
    → MayClose k b → EndsAt g o
    → EndsBoth (Unit {0}) same_note same_note same_note same_note same_note just_typed k n g b before o
typed_both frames.If n g b before o m e = (m, m, e)
typed_both k n g b before o m e = tt

abbrev pub typed_layer : (n : Unit {0}) (g : Context) (f : Frame) (set : Initialised) (c : Code) (s : List Operand)
    → Typed g f set c s → Layer (Unit {0}) same_note same_note same_note same_note same_note just_typed n g f set c s
typed_layer n g f set (close o) s t = (t.0, t.1, t.2, typed_both f.kind n g f.block f.before o t.1 t.2)
typed_layer n g f set (plain o more) s t = t
typed_layer n g f set (nested o body more) s t = t
typed_layer n g f set (turn o more) s t = t

abbrev pub plainly : Notes
plainly = record {
  Note = Unit {0};
  next = same_note;
  within = same_note;
  past = same_note;
  turned = same_note;
  missing = same_note;
  whole = λ x. tt;
  Holds = just_typed;
  opened = typed_layer;
}

-- ---- along the code of one frame

-- over an operator, over a block, into the next part, and into a second part that is not written
pub data Stride : Type 0 where
  over_operator : Stride
  over_block : Stride
  into_part : Stride
  into_nothing : Stride

module _ (N : Notes) where
  abbrev pub stride : Stride → N.Note → N.Note
  stride over_operator n = N.next n
  stride over_block n = N.past n
  stride into_part n = N.turned n
  stride into_nothing n = N.missing n

  -- these strides, the last first
  abbrev pub strides : List Stride → N.Note → N.Note
  strides [] n = n
  strides (m ∷ ms) n = stride m (strides ms n)

  -- from the beginning of a frame's code one comes to such a place of it
  abbrev pub IsAlong : N.Note → N.Note → Type 0
  IsAlong root n = (ms : List Stride) × (n ≡ strides ms root)
