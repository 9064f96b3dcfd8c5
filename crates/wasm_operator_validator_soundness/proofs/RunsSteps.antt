-- Each step from a state of the invariant asks no more than holds there, and leads to such a state again; so no run is stuck.
use Rattle.std.proofs.Common.{◌≡◌, List, [], ◌∷◌, ◌++◌, reverse, suc, Option, Some, None, refl, sym, subst, ◌∙◌}
use Rattle.wasm_types.specs.trees.Below.{expanded}
use Rattle.wasm_operators_immediates.specs.declared.frames.FrameKind.{FrameKind}
use Rattle.wasm_operators_immediates.specs.declared.frames.FrameKind.TheVariants as frames
use Rattle.wasm_operators_enums.specs.Op as op
use Rattle.wasm_operators_enums.specs.Op.{Op, ParametricTree, ExceptionTree, ContinuationTree}
use Rattle.wasm_operators_encoding.specs.expressions.Code.{Code, close, plain, nested, turn, IsIn}
use Rattle.wasm_operator_validator_rules.specs.Operands.{ValueType, Operand, AllBelow, stack}
use Rattle.wasm_operator_validator_rules.specs.Context.{Context, Initialised, Frame, initialised_at_first}
use Rattle.wasm_operator_validator_rules.specs.Numbers.{class_of, taken_by, given_by, constant_type}
use Rattle.wasm_operator_validator_rules.specs.Vectors.{work_of}
use Rattle.wasm_operator_validator_rules.specs.Row.{GroupRow, after, IsEnabled}
use Rattle.wasm_operator_validator_soundness.specs.runs.Notes.{Notes, over_operator, IsAlong, plainly}
use Rattle.wasm_operator_validator_soundness.specs.runs.Places.{HasBodyBy, IsValidBy}
use Rattle.wasm_types.specs.trees.Trees.{TypeTree}
use Rattle.wasm_operator_validator_soundness.specs.runs.Values.{Body, Function, Program, Value, AllFit}
use Rattle.wasm_operator_validator_soundness.specs.runs.States.{Activation, State, Answer}
use Rattle.wasm_operator_validator_soundness.specs.runs.States.{Outcome, next, returned, trapped, thrown, stuck, Move}
use Rattle.wasm_operator_validator_soundness.specs.runs.Machine.{label_at}
use Rattle.wasm_operator_validator_soundness.specs.runs.Machine.{operate, end, execute}
use Rattle.wasm_operator_validator_soundness.specs.runs.Soundness.{step, Runs, EndsWell, IsNeverStuck, ProgramsAreSound, ProgramsStayValid, StepsAreSound, StartsAreValid, evaluated, ConstantsAreValid, ConstantsAreSound, AncestorsAreSound, HasValidBody, IsStarted, IsValidProgram}
use Rattle.wasm_operator_validator_soundness.proofs.RunsFitting.{all_below}
use Rattle.wasm_operator_validator_soundness.specs.runs.ValidStates.{AreSet, Around, around_of, IsValidStateBy}
use Rattle.wasm_operator_validator_soundness.proofs.RunsInvariant.{some_same, further}
use Rattle.wasm_operator_validator_soundness.specs.runs.ValidStates.{IsValidState, IsValidOutcome, IsValidOutcomeBy}
use Rattle.wasm_operator_validator_soundness.proofs.RunsInvariant.{here, IsOkay}
use Rattle.wasm_operator_validator_soundness.proofs.Objects.{field_through, matches_along}
use Rattle.wasm_operator_validator_soundness.proofs.Combining.{asks_okay, found_okay}
use Rattle.wasm_operator_validator_soundness.proofs.RunsLeaving.{initially_set, come_out_okay, begun_awaits, standard_links}
use Rattle.wasm_operator_validator_soundness.proofs.Values.{calls_through, never_enabled, results_below}
use Rattle.wasm_operator_validator_soundness.proofs.Standing.{compute_okay, table_of, Here}
use Rattle.wasm_operator_validator_soundness.proofs.Calling.{control_okay}
use Rattle.wasm_operator_validator_soundness.proofs.Operating.{atomic_okay, bulk_okay, lanes_okay, memory_okay, parametric_okay, vector_okay}
use Rattle.wasm_operator_validator_soundness.proofs.Names.{numeric_says, constant_says, work_says}
use Rattle.wasm_operator_validator_soundness.proofs.Throwing.{exception_okay}
use Rattle.wasm_operator_validator_soundness.proofs.Making.{gc_okay}
use Rattle.wasm_operator_validator_soundness.proofs.Entering.{enter_okay}

module _ (N : Notes) (p : Program) (valid : IsValidBy N p) (final : List ValueType) (a : Answer) (act : Activation) (acts : List Activation) (h : Here N p final act acts) where
  abbrev w : Around
  w = around_of act

  abbrev g : Context
  g = here p a act acts

  abbrev f : Frame
  f = record { kind = h.kind; block = act.innermost.block; before = h.before }

  abbrev vs : List Value
  vs = act.innermost.values

  abbrev kind : FrameKind
  kind = h.kind

  abbrev before : Initialised
  before = h.before

  abbrev set : Initialised
  set = h.set

  abbrev are_set : AreSet h.set act.locals
  are_set = h.are_set

  abbrev s : List Operand
  s = h.operands

  abbrev fit : AllFit p act.innermost.values h.operands
  fit = h.fit

  abbrev Okay : Move → Type 0
  Okay m = IsOkay N p final m

  -- the instructions to come are typed, and stand where they may
  abbrev Goes : Initialised → Code → List Operand → Type 0
  Goes init more m = IsIn h.kind more × (n : N.Note) × IsAlong N h.root n × N.Holds n g f init more m

  -- ---- all operators

  pub operate_okay : (o : Op) (more : Code) (popped pushed rest m : List Operand) → IsEnabled p.bits o → GroupRow g set o popped pushed
      → AllBelow s (reverse popped ++ rest) → m ≡ reverse pushed ++ rest → Goes (after o set) more m → Okay (operate p a act acts o more)
  operate_okay (op.Control o) more popped pushed rest m n r b e t = control_okay N p valid final a act acts h o more popped pushed rest m r b e t
  operate_okay (op.Parametric o) more popped pushed rest m n r b e t = parametric_okay N p valid final a act acts h o more popped pushed rest m r b e t
  operate_okay (op.Exception o) more popped pushed rest m n r b e t = exception_okay N p valid final a act acts h o more popped pushed rest m r b e t
  operate_okay (op.Memory o) more popped pushed rest m n r b e t = memory_okay N p valid final a act acts h o more popped pushed rest m r b e t
  operate_okay (op.Bulk o) more popped pushed rest m n r b e t = bulk_okay N p valid final a act acts h o more popped pushed rest m r b e t
  operate_okay (op.Gc o) more popped pushed rest m n r b e t = gc_okay N p valid final a act acts h o more popped pushed rest m r b e t
  operate_okay (op.Const o) more popped pushed rest m n r b e t =
      compute_okay N p valid final a act acts h (op.Const o) [] (constant_type o ∷ []) more popped pushed rest m (constant_says o) (table_of N p valid final a act acts h (op.Const o) _ popped pushed refl r) b e t
  operate_okay (op.Numeric o) more popped pushed rest m n r b e t =
      compute_okay N p valid final a act acts h (op.Numeric o) (taken_by (class_of o)) (given_by (class_of o)) more popped pushed rest m (numeric_says o) (table_of N p valid final a act acts h (op.Numeric o) _ popped pushed refl r) b e t
  operate_okay (op.Simd o) more popped pushed rest m n r b e t = vector_okay N p valid final a act acts h (op.Simd o) (work_of o) (work_says o) more popped pushed rest m r.0 r.1 r.2 b e t
  operate_okay (op.SimdNumeric o) more popped pushed rest m n r b e t = lanes_okay N p valid final a act acts h o more popped pushed rest m r b e t
  operate_okay (op.Atomic o) more popped pushed rest m n r b e t = atomic_okay N p valid final a act acts h o more popped pushed rest m r b e t
  operate_okay (op.Descriptor o) more popped pushed rest m n r b e t = absurd (never_enabled p.bits valid.standard (op.Descriptor o) tt n)
  operate_okay (op.Shared o) more popped pushed rest m n r b e t = absurd (never_enabled p.bits valid.standard (op.Shared o) tt n)
  operate_okay (op.Continuation o) more popped pushed rest m n r b e t = absurd (never_enabled p.bits valid.standard (op.Continuation o) tt n)

  -- ---- all instructions

  pub end_okay : AllBelow s (stack act.innermost.block.results) → Okay (end p a act acts)
  end_okay b =
      let y = all_below p vs s (stack act.innermost.block.results) fit b in
      asks_okay N p final (AllFit p vs (stack act.innermost.block.results)) _ y
      (come_out_okay N p final a act acts h.locals h.results h.below act.around vs (stack act.innermost.block.results) (Some h.root) y h.around)

  pub execute_okay : (c : Code) → IsIn kind c → N.Holds h.place g f set c s → Okay (execute p a act acts c)
  execute_okay (close (op.Exception (op.Delegate n))) i t =
      let y = N.opened h.place g f set (close (op.Exception (op.Delegate n))) s t in found_okay N p final (label_at p a act acts (suc n)) y.2.1 _ y.2.2 (end_okay y.0)
  execute_okay (close o) i t = let y = N.opened h.place g f set (close o) s t in end_okay y.0
  execute_okay (plain o more) i t =
      let y = N.opened h.place g f set (plain o more) s t in
      operate_okay o more y.1.0 y.1.1 y.1.2 y.0 y.1.3.0 y.1.3.1 y.1.4 y.1.5 (i.1, N.next h.place, further N h.root h.place over_operator h.along, y.2)
  execute_okay (nested o body more) i t = enter_okay N p valid final a act acts h o body more i (N.opened h.place g f set (nested o body more) s t)
  execute_okay (turn o more) i t = let y = N.opened h.place g f set (turn o more) s t in end_okay y.2

-- ---- a step, and a run

-- what is known of the innermost activation of a state in which all fits
abbrev pub here_of : (N : Notes) (p : Program) (final : List ValueType) (act : Activation) (acts : List Activation) → IsValidStateBy N p final (act ∷ acts) → Here N p final act acts
here_of N p final act acts w =
    let l = w.0.labels.0 in
    record {
      locals = w.0.locals;
      results = w.0.results;
      root = l.root;
      place = l.place;
      along = l.along;
      loops = l.loops;
      handlers = l.handlers;
      caught = l.caught;
      around = w.0.labels.1;
      below = w.1;
      kind = l.kind;
      before = l.before;
      set = l.set;
      are_set = l.are_set;
      operands = l.operands;
      fit = l.fit;
    }

pub step_okay : (N : Notes) (p : Program) (final : List ValueType) (s : State) (a : Answer) → IsValidBy N p → IsValidStateBy N p final s → IsOkay N p final (step p s a)
step_okay N p final [] a v w = absurd w
step_okay N p final (act ∷ acts) a v w =
    let l = w.0.labels.0 in
    execute_okay N p v final a act acts (here_of N p final act acts w) act.innermost.code l.inside l.typed

pub stay_valid : (N : Notes) (p : Program) (final : List ValueType) (s : State) (answers : List Answer) (t : State) → IsValidBy N p → IsValidStateBy N p final s → Runs p s answers t → IsValidStateBy N p final t
stay_valid N p final s [] t v w r = subst (λ (u : State). IsValidStateBy N p final u) r w
stay_valid N p final s (a ∷ answers) t v w r =
    stay_valid N p final r.0 answers t v (subst (λ (o : Outcome). IsValidOutcomeBy N p final o) r.2 ((step_okay N p final s a v w).okay r.1).1) r.3

-- a function that is started is in the invariant
pub begin_valid : (N : Notes) (p : Program) (s : State) (results : List ValueType) → IsValidBy N p → IsStarted p s results → IsValidStateBy N p results s
begin_valid N p s results v i =
    let o = v.own i.index i.function i.named in
    let r = v.functions i.index o.0 o.1 in
    let e : r.0 ≡ i.function = some_same r.0 i.function (sym r.1 ∙ i.named) in
    let body : HasBodyBy N p (i.function).type (Some i.body) = subst (λ (q : Option Body). HasBodyBy N p (i.function).type q) i.has_body (subst (λ (q : Function). HasBodyBy N p q.type q.body) e (r.2).body) in
    subst (λ (ts : List ValueType). IsValidStateBy N p ts s) (sym i.gives)
    (subst (λ (u : State). IsValidStateBy N p (i.signature).results u) (sym i.starts)
    (begun_awaits N p (i.function).type i.signature i.body i.arguments (i.signature).results body i.typed i.fit (λ us x. x), (λ us x. x)))

-- ---- by some typing

plain_body : (p : Program) (t : TypeTree) (o : Option Body) → HasValidBody p t o → HasBodyBy plainly p t o
plain_body p t None v = tt
plain_body p t (Some f) v = record {
  signature = v.signature;
  function = v.function;
  locals = v.locals;
  expression = v.typed.expression;
  index = 0;
  typed = v.typed.typed;
}

pub plain_valid : (p : Program) → IsValidProgram p → IsValidBy plainly p
plain_valid p v = record {
  standard = v.standard;
  types = v.types;
  functions = λ x t e. let r = v.functions x t e in (r.0, r.1, record { below = (r.2).below; standard = (r.2).standard; function = (r.2).function; body = plain_body p (r.0).type (r.0).body (r.2).body });
  own = v.own;
  tags = v.tags;
}

pub runs_stay_valid : (p : Program) (final : List ValueType) (s : State) (answers : List Answer) (t : State) → IsValidProgram p → IsValidState p final s → Runs p s answers t → IsValidState p final t
runs_stay_valid p final s answers t v w r = stay_valid plainly p final s answers t (plain_valid p v) w r

pub starts_valid : StartsAreValid
starts_valid p s results v i = begin_valid plainly p s results (plain_valid p v) i

valid_ends_well : (p : Program) (results : List ValueType) (o : Outcome) → IsValidOutcome p results o → EndsWell p results o
valid_ends_well p results (next s) i = tt
valid_ends_well p results (returned us) i = i
valid_ends_well p results trapped i = tt
valid_ends_well p results (thrown t us) i = i
valid_ends_well p results stuck i = i

run_sound : (p : Program) (results : List ValueType) (s : State) → IsValidProgram p → IsValidState p results s → IsNeverStuck p results s
run_sound p results s v i answers t a r given =
    let k = (step_okay plainly p results t a (plain_valid p v) (runs_stay_valid p results s answers t v i r)).okay given in
    (k.0, valid_ends_well p results (step p t a).outcome k.1)

pub programs_sound : ProgramsAreSound
programs_sound p s results v i = run_sound p results s v (starts_valid p s results v i)

pub programs_stay_valid : ProgramsStayValid
programs_stay_valid p s results v i answers t r = runs_stay_valid p results s answers t v (starts_valid p s results v i) r

pub steps_sound : StepsAreSound
steps_sound p results s a v i given = (step_okay plainly p results s a (plain_valid p v) i).okay given

-- ---- constants

pub constants_valid : ConstantsAreValid
constants_valid p u c v b = (
  record {
    locals = tt;
    results = λ us x. x;
    labels = (
      record {
        root = tt;
        place = tt;
        along = ([], refl);
        around = tt;
        kind = frames.Block;
        inside = b.expression;
        before = initialised_at_first 0 [];
        set = initialised_at_first 0 [];
        are_set = initially_set p [] [] [] tt;
        operands = [];
        fit = tt;
        typed = b.typed;
        loops = tt;
        handlers = tt;
        caught = tt;
      },
      ((0, refl, initialised_at_first 0 [], b.typed), (λ us x. x)),
    );
  },
  λ us x. x,
)

pub constants_sound : ConstantsAreSound
constants_sound p u c v b = run_sound p (u ∷ []) (evaluated u c) v (constants_valid p u c v b)

-- ---- ancestors

pub ancestors_sound : AncestorsAreSound
ancestors_sound t u i d = (
  (tt, d),
  λ b e. let k = calls_through t u b (standard_links t i) d e in (k.own, k.is, results_below b.params (k.own).params k.params, results_below (k.own).results b.results k.results),
  λ n f e. field_through (expanded t) (expanded u) n f (matches_along t u (standard_links t i) d).1 e,
)
