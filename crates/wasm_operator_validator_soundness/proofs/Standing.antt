-- The innermost activation of a state of the invariant: what its rows say of the values that stand there, the table, branches.
use Rattle.std.proofs.Common.{◌≡◌, ℕ, List, [], ◌∷◌, ◌++◌, reverse, Some, Bool, false, sym, ap, subst, ◌∙◌}
use Rattle.wasm_operators_immediates.specs.declared.frames.FrameKind.{FrameKind}
use Rattle.wasm_types.specs.trees.Types.{Number}
use Rattle.wasm_operators_enums.specs.Op.{Op}
use Rattle.wasm_operators_enums.specs.Table.{info_of}
use Rattle.wasm_operators_encoding.specs.expressions.Code.{Code, IsIn}
use Rattle.wasm_operator_validator_rules.specs.Operands.{ValueType, Operand, known, AllBelow, all_known, stack}
use Rattle.wasm_operator_validator_rules.specs.Context.{Context, Initialised, Frame}
use Rattle.wasm_operator_validator_rules.specs.Numbers.{numbers}
use Rattle.wasm_operator_validator_rules.specs.InstructionTypes.{InstructionType, instruction_type}
use Rattle.wasm_operator_validator_rules.specs.Taken.{Takes, TableRow, IsLabel}
use Rattle.wasm_operator_validator_soundness.specs.runs.Notes.{Notes, IsAlong}
use Rattle.wasm_operator_validator_soundness.specs.runs.Places.{IsValidBy}
use Rattle.wasm_operator_validator_soundness.specs.runs.Values.{Program, Value, AllFit}
use Rattle.wasm_operator_validator_soundness.specs.runs.States.{Activation, Answer}
use Rattle.wasm_operator_validator_soundness.specs.runs.States.{next, Move}
use Rattle.wasm_operator_validator_soundness.specs.runs.Names.{computed}
use Rattle.wasm_operator_validator_soundness.specs.runs.Machine.{jump}
use Rattle.wasm_operator_validator_soundness.specs.runs.Machine.{label_at, going, goes, exchange, compute, branch, branch_if}
use Rattle.wasm_operator_validator_soundness.proofs.RunsFitting.{all_below, fits_joined, stack_more, reversed_under}
use Rattle.wasm_operator_validator_soundness.specs.runs.ValidStates.{AreSet, LocalsFit, IsCaught, Around, around_of}
use Rattle.wasm_operator_validator_soundness.specs.runs.ValidStates.{LoopsBack, HandlersFit, LabelsAwait, ActivationAwaits, AllAwait}
use Rattle.wasm_operator_validator_soundness.proofs.RunsInvariant.{some_same, here, IsOkay}
use Rattle.wasm_operator_validator_soundness.proofs.Combining.{done_okay, choose_okay, found_okay, takes_okay, gives_okay, may_trap_okay}
use Rattle.wasm_operator_validator_soundness.proofs.RunsLeaving.{jump_okay}

-- all that the invariant says of the innermost activation, and of those below
pub record Here (N : Notes) (p : Program) (final : List ValueType) (act : Activation) (acts : List Activation) : Type 0 where
  pub locals : LocalsFit p act.locals act.types
  pub results : (vs : List Value) → AllFit p vs (stack act.results) → AllFit p vs (stack act.owed)
  pub root : N.Note
  pub place : N.Note
  pub along : IsAlong N root place
  pub loops : LoopsBack N p (around_of act) act.locals root act.innermost.continuation act.innermost.block act.around
  pub handlers : HandlersFit N p (around_of act) act.locals root act.innermost.handlers act.innermost.block act.around
  pub caught : IsCaught act.innermost.caught
  pub around : LabelsAwait N p (around_of act) act.locals act.owed act.around (stack act.innermost.block.results) (Some root)
  pub below : AllAwait N p final acts (stack act.owed)
  pub kind : FrameKind
  pub before : Initialised
  pub set : Initialised
  pub are_set : AreSet set act.locals
  pub operands : List Operand
  pub fit : AllFit p act.innermost.values operands

module _ (N : Notes) (p : Program) (valid : IsValidBy N p) (final : List ValueType) (a : Answer) (act : Activation) (acts : List Activation) (h : Here N p final act acts) where
  abbrev w : Around
  w = around_of act

  abbrev g : Context
  g = here p a act acts

  abbrev f : Frame
  f = record { kind = h.kind; block = act.innermost.block; before = h.before }

  abbrev vs : List Value
  vs = act.innermost.values

  abbrev kind : FrameKind
  kind = h.kind

  abbrev before : Initialised
  before = h.before

  abbrev set : Initialised
  set = h.set

  abbrev are_set : AreSet h.set act.locals
  are_set = h.are_set

  abbrev s : List Operand
  s = h.operands

  abbrev fit : AllFit p act.innermost.values h.operands
  fit = h.fit

  abbrev Okay : Move → Type 0
  Okay m = IsOkay N p final m

  -- the instructions to come are typed, and stand where they may
  abbrev Goes : Initialised → Code → List Operand → Type 0
  Goes init more m = IsIn h.kind more × (n : N.Note) × IsAlong N h.root n × N.Holds n g f init more m

  -- the activation with other values and instructions awaits what these are typed over
  pub here_awaits : (ws : List Value) (more : Code) (m given : List Operand) → AllFit p ws m → Goes set more (given ++ m) → ActivationAwaits N p (going p a act acts ws more) given
  here_awaits ws more m given x t = record {
    locals = h.locals;
    results = h.results;
    labels = (
      record {
        root = h.root;
        place = t.1;
        along = t.2;
        around = tt;
        kind = kind;
        inside = t.0;
        before = before;
        set = set;
        are_set = are_set;
        operands = m;
        fit = x;
        typed = t.3;
        loops = h.loops;
        handlers = h.handlers;
        caught = h.caught;
      },
      h.around,
    );
  }

  pub goes_okay : (ws : List Value) (more : Code) (m : List Operand) → AllFit p ws m → Goes set more m → Okay (goes p a act acts ws more)
  goes_okay ws more m x t = done_okay N p final (next (going p a act acts ws more ∷ acts)) (here_awaits ws more m [] x t, h.below)

  pub exchange_okay : (ts us : List ValueType) (more : Code) (rest : List Operand) → AllFit p vs (stack ts ++ rest) → Goes set more (stack us ++ rest)
      → Okay (exchange p a act acts ts us more)
  exchange_okay ts us more rest x t = takes_okay N p final a ts vs rest _ x (λ xs ws i j.
      may_trap_okay N p final a _ (gives_okay N p final a us _ (λ rs k. goes_okay (rs ++ ws) more (stack us ++ rest) (fits_joined p rs ws (stack us) rest k j) t)))

  -- ---- what a row says of the values, and of the instructions to come

  pub values_at : (ts popped rest : List Operand) → AllBelow s (reverse popped ++ rest) → popped ≡ ts → AllFit p vs (reverse ts ++ rest)
  values_at ts popped rest b e = all_below p vs s (reverse ts ++ rest) fit (subst (λ (l : List Operand). AllBelow s (reverse l ++ rest)) e b)

  pub code_at : (us pushed rest m : List Operand) (init : Initialised) (more : Code) → m ≡ reverse pushed ++ rest → pushed ≡ us → Goes init more m
      → Goes init more (reverse us ++ rest)
  code_at us pushed rest m init more e i t = subst (λ (l : List Operand). Goes init more l) (e ∙ ap (λ (l : List Operand). reverse l ++ rest) i) t

  pub values_under : (others : List Operand) (ts : List ValueType) (popped rest : List Operand) → AllBelow s (reverse popped ++ rest) → popped ≡ others ++ all_known ts
      → AllFit p vs (stack ts ++ (reverse others ++ rest))
  values_under others ts popped rest b e = subst (λ (l : List Operand). AllFit p vs l) (reversed_under others (all_known ts) rest) (values_at (others ++ all_known ts) popped rest b e)

  pub values_over : (ts : List ValueType) (t : ValueType) (rest : List Operand) → AllFit p vs (stack (ts ++ t ∷ []) ++ rest) → AllFit p vs (known t ∷ (stack ts ++ rest))
  values_over ts t rest x = subst (λ (l : List Operand). AllFit p vs (l ++ rest)) (stack_more ts t) x

  -- ---- the table

  -- of an operator of the table: what it takes and gives
  pub table_of : (o : Op) (u : InstructionType) (popped pushed : List Operand) → instruction_type g o ≡ Some u → TableRow g o popped pushed → Takes u.takes u.gives popped pushed
  table_of o u popped pushed e r =
      let d : r.0 ≡ u = some_same r.0 u (sym r.1 ∙ e) in
      (r.2.0 ∙ ap (λ (y : InstructionType). all_known y.takes) d, r.2.1 ∙ ap (λ (y : InstructionType). all_known y.gives) d)

  -- an operator whose name says what the table says
  pub compute_okay : (o : Op) (ts us : List Number) (more : Code) (popped pushed rest m : List Operand) → computed (info_of o).name ≡ Some (record { takes = ts; gives = us })
      → Takes (numbers ts) (numbers us) popped pushed → AllBelow s (reverse popped ++ rest) → m ≡ reverse pushed ++ rest → Goes set more m → Okay (compute p a act acts o more)
  compute_okay o ts us more popped pushed rest m says r b e t =
      found_okay N p final (computed (info_of o).name) (record { takes = ts; gives = us }) _ says
      (exchange_okay (numbers ts) (numbers us) more rest (values_at _ popped rest b r.0) (code_at _ pushed rest m set more e r.1 t))

  -- ---- branches

  pub jumps : (n : ℕ) (ts : List ValueType) (ws : List Value) → IsLabel g n ts → AllFit p ws (stack ts) → Okay (jump p a n act (act.innermost ∷ act.around) ws acts)
  jumps n ts ws e x = jump_okay N p final a act acts h.locals h.results h.below n act.innermost act.around ts ws h.root e x h.loops h.around

  pub branch_okay : (n : ℕ) (ts : List ValueType) (ws : List Value) (rest : List Operand) → IsLabel g n ts → AllFit p ws (stack ts ++ rest) → Okay (branch p a act acts n ws)
  branch_okay n ts ws rest e x = found_okay N p final (label_at p a act acts n) ts _ e (takes_okay N p final a ts ws rest _ x (λ xs us i j. jumps n ts xs e i))

  pub branch_if_okay : (b : Bool) (n : ℕ) (ts : List ValueType) (ws us : List Value) (more : Code) (rest m : List Operand) → IsLabel g n ts → AllFit p ws (stack ts ++ rest)
      → (b ≡ false → AllFit p us m) → Goes set more m → Okay (branch_if p a act acts b n ws us more)
  branch_if_okay b n ts ws us more rest m e x y t = found_okay N p final (label_at p a act acts n) ts _ e
      (takes_okay N p final a ts ws rest _ x (λ xs zs i j. choose_okay N p final b _ _ (λ c. jumps n ts xs e i) (λ c. goes_okay us more m (y c) t)))
