-- That no run of a valid program is stuck (WebAssembly 3.0, appendix, soundness).
use Rattle.std.specs.Prelude.{◌≡◌, ℕ, false, List, [], ◌∷◌, ◌++◌, length, All, Option, Some, None, slice_get}
use Rattle.wasm_types.specs.trees.Types.{concrete, exact, ref, FieldOf}
use Rattle.wasm_types.specs.trees.Trees.{TypeTree}
use Rattle.wasm_types.specs.trees.Matches.{FieldMatches}
use Rattle.wasm_types.specs.trees.Each.{EachValue}
use Rattle.wasm_types.specs.trees.Below.{Below, expanded, is_shared, DeclaredBelow}
use Rattle.wasm_types.specs.trees.ValidGroup.{IsFunction}
use Rattle.wasm_operators_encoding.specs.expressions.Code.{Code}
use Rattle.wasm_operator_validator_rules.specs.Operands.{ValueType, AllBelow, all_known, stack}
use Rattle.wasm_operator_validator_rules.specs.Context.{Context, Signature, IsFunctionType}
use Rattle.wasm_operator_validator_rules.specs.Typed.{IsBody}
use Rattle.wasm_operator_validator_rules.specs.constants.Constants.{constant_context}
use Rattle.wasm_operator_validator_soundness.specs.runs.Values.{Body, Function, Program, IsStandard, IsStandardType, Value, AllFit}
use Rattle.wasm_operator_validator_soundness.specs.runs.States.{State, Answer, Outcome, next, returned, trapped, thrown, stuck, Move, stop}
use Rattle.wasm_operator_validator_soundness.specs.runs.ValidStates.{IsValidState, IsValidOutcome}
use Rattle.wasm_operator_validator_soundness.specs.runs.Machine.{fields_in, begun_with, begun, execute}

-- ---- runs

-- a step under an answer
abbrev pub step : Program → State → Answer → Move
step p [] a = stop
step p (act ∷ acts) a = execute p a act acts act.innermost.code

-- these answers, each of which is accepted, lead from one state to another
abbrev pub Runs : Program → State → List Answer → State → Type 0
Runs p s [] t = s ≡ t
Runs p s (a ∷ answers) t = (u : State) × (step p s a).is_answer × ((step p s a).outcome ≡ next u) × Runs p u answers t

-- ---- valid programs

-- the context of a body of a function of this type
abbrev pub body_context : Program → TypeTree → Signature → Body → Context
body_context p t b f = record {
  bits = p.bits;
  «module» = p.«module»;
  locals = b.params ++ f.locals;
  labels = [];
  catches = [];
  results = b.results;
  shared = is_shared t;
}

-- a body is typed, and its locals are of standard types
pub record IsValidBody (p : Program) (t : TypeTree) (f : Body) : Type 0 where
  pub signature : Signature
  pub function : IsFunctionType t signature
  pub locals : All (EachValue IsStandardType) f.locals
  pub typed : IsBody (body_context p t signature f) (length signature.params) f.code

abbrev pub HasValidBody : Program → TypeTree → Option Body → Type 0
HasValidBody p t None = Unit {0}
HasValidBody p t (Some f) = IsValidBody p t f

-- a function of this type as the module knows it, which an imported one may have been made below
pub record IsValidFunction (p : Program) (t : TypeTree) (f : Function) : Type 0 where
  pub below : DeclaredBelow f.type t
  pub standard : IsStandardType f.type
  pub function : IsFunction (expanded f.type)
  pub body : HasValidBody p f.type f.body

pub record IsValidProgram (p : Program) : Type 0 where
  pub standard : IsStandard p.bits
  pub types : (x : ℕ) (t : TypeTree) → slice_get p.«module».types x ≡ Some t → IsStandardType t
  pub functions : (x : ℕ) (t : TypeTree) → slice_get p.«module».functions x ≡ Some t → (f : Function)
      × (slice_get p.functions x ≡ Some f) × IsValidFunction p t f
  pub own : (x : ℕ) (f : Function) → slice_get p.functions x ≡ Some f → (t : TypeTree)
      × (slice_get p.«module».functions x ≡ Some t)
  pub tags : (x : ℕ) (t : TypeTree) → slice_get p.«module».tags x ≡ Some t → IsStandardType t × IsFunction (expanded t)

-- ---- the theorem

-- a function of the program, started with arguments that fit its own parameters, the last on top
pub record IsStarted (p : Program) (s : State) (results : List ValueType) : Type 0 where
  pub index : ℕ
  pub function : Function
  pub body : Body
  pub signature : Signature
  pub arguments : List Value
  pub named : slice_get p.functions index ≡ Some function
  pub has_body : function.body ≡ Some body
  pub typed : IsFunctionType function.type signature
  pub fit : AllFit p arguments (stack signature.params)
  pub starts : s ≡ begun function.type signature body arguments signature.results ∷ []
  pub gives : results ≡ signature.results

-- A step does not come to nothing, as it does if an index is not there; and what ends a run fits: results those that were promised,
-- the values of an exception the parameters of its tag.
abbrev pub EndsWell : Program → List ValueType → Outcome → Type 0
EndsWell p results (next s) = Unit {0}
EndsWell p results (returned vs) = AllFit p vs (stack results)
EndsWell p results trapped = Unit {0}
EndsWell p results (thrown t vs) = (b : Signature) × IsFunctionType t b × AllFit p vs (stack b.params)
EndsWell p results stuck = ⊥

-- Whatever is answered, as long as each answer is one: what the next step needs is there, each index, each label and the value of each
-- local too, and the run ends well if it ends.
abbrev pub IsNeverStuck : Program → List ValueType → State → Type 0
IsNeverStuck p results s = (answers : List Answer) (t : State) (a : Answer) → Runs p s answers t
    → (step p t a).is_answer
    → (step p t a).needs × EndsWell p results (step p t a).outcome

-- In each state of a run all fits.
abbrev pub StaysValid : Program → List ValueType → State → Type 0
StaysValid p results s = (answers : List Answer) (t : State) → Runs p s answers t → IsValidState p results t

-- No run of a valid program is stuck.
abbrev pub ProgramsAreSound : Type 0
ProgramsAreSound = (p : Program) (s : State) (results : List ValueType) → IsValidProgram p → IsStarted p s results
    → IsNeverStuck p results s

-- At each place of such a run all fits.
abbrev pub ProgramsStayValid : Type 0
ProgramsStayValid = (p : Program) (s : State) (results : List ValueType) → IsValidProgram p → IsStarted p s results
    → StaysValid p results s

-- ---- one step (appendix, soundness, theorems: preservation and progress)

-- From a state in which all fits, a step under an answer has what it needs, and comes to such a state again or ends well.
abbrev pub StepsAreSound : Type 0
StepsAreSound = (p : Program) (results : List ValueType) (s : State) (a : Answer) → IsValidProgram p
    → IsValidState p results s → (step p s a).is_answer
    → (step p s a).needs × IsValidOutcome p results (step p s a).outcome

-- A function that is started is in such a state.
abbrev pub StartsAreValid : Type 0
StartsAreValid = (p : Program) (s : State) (results : List ValueType) → IsValidProgram p → IsStarted p s results
    → IsValidState p results s

-- ---- constants

-- code that gives a value of this type, as the only activation
abbrev pub evaluated : ValueType → Code → State
evaluated t c = begun_with [] (t ∷ []) false [] (t ∷ []) c ∷ []

-- Typed as a constant, it is a state in which all fits, so that each of its steps is as any other (`StepsAreSound`).
abbrev pub ConstantsAreValid : Type 0
ConstantsAreValid = (p : Program) (v : ValueType) (c : Code) → IsValidProgram p
    → IsBody (constant_context p.bits p.«module» v) 0 c
    → IsValidState p (v ∷ []) (evaluated v c)

-- Typed as a constant, it is never stuck, and the value that it gives is of that type.
abbrev pub ConstantsAreSound : Type 0
ConstantsAreSound = (p : Program) (v : ValueType) (c : Code) → IsValidProgram p
    → IsBody (constant_context p.bits p.«module» v) 0 c
    → IsNeverStuck p (v ∷ []) (evaluated v c)

-- ---- ancestors

-- A value made with a type is of each type declared above it. What is called through such a type takes what that takes and gives
-- what that gives; what is read or written through it is a field of the object's own, which matches.
abbrev pub AncestorsAreSound : Type 0
AncestorsAreSound = (t u : TypeTree) → IsStandardType t → DeclaredBelow t u
    → Below (ref false (exact t)) (ref false (concrete u))
    × ((b : Signature) → IsFunctionType u b → (c : Signature) × IsFunctionType t c
    × AllBelow (all_known b.params) (all_known c.params) × AllBelow (all_known c.results) (all_known b.results))
    × ((i : ℕ) (f : FieldOf TypeTree) → slice_get (fields_in (expanded u)) i ≡ Some f → (k : FieldOf TypeTree)
    × (slice_get (fields_in (expanded t)) i ≡ Some k) × FieldMatches k f)
