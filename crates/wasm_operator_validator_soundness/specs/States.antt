-- The configurations of one activation (WebAssembly 3.0, execution, runtime structure), what a reduction takes from outside, and
-- what it may come to.
use Rattle.std.specs.Prelude.{ℕ, Bool, List, [], ◌∷◌, map, Option}
use Rattle.wasm_operators_encoding.specs.expressions.Code.{Code}
use Rattle.wasm_operator_validator_rules.specs.Operands.{ValueType, stack}
use Rattle.wasm_operator_validator_rules.specs.Context.{Context, Signature}
use Rattle.wasm_operator_validator_soundness.specs.Values.{Value, AllFit}

-- ---- configurations

-- how a branch to a label goes on: after its block, or at the beginning of a loop's instructions
pub data Continuation : Type 0 where
  behind : Continuation
  again : Code → Continuation

-- What catches exceptions within a label: nothing; the clauses of a `try_table`, by the labels to which they go, counted from
-- around it; those of an older `try`, to which its instructions turn.
pub data Handlers : Type 0 where
  no_handlers : Handlers
  exits : List ℕ → Handlers
  clauses : Code → Handlers

-- A label of the stack, with what lies above it: the instructions still to come, the values, the top first, the block's type,
-- how a branch to it goes on, what catches exceptions in it, and whether it is a clause of an older `try`.
pub record Label : Type 0 where
  pub code : Code
  pub values : List Value
  pub block : Signature
  pub continuation : Continuation
  pub handlers : Handlers
  pub clause : Bool

-- The activation's locals, of which some may have no value yet, and its labels: the innermost, and those around it. The
-- function itself is the last of them.
pub record Configuration : Type 0 where
  pub locals : List (Option Value)
  pub innermost : Label
  pub around : List Label

abbrev pub all_labels : Configuration → List Label
all_labels k = k.innermost ∷ k.around

-- the types of the values that a branch to a label takes
abbrev pub taken_by : Continuation → Signature → List ValueType
taken_by behind b = b.results
taken_by (again c) b = b.params

abbrev pub branch_type : Label → List ValueType
branch_type l = taken_by l.continuation l.block

abbrev pub is_clause : Label → Bool
is_clause l = l.clause

-- the context within these labels
abbrev pub context_in : Context → List Label → Context
context_in g ls = record g { labels = map branch_type ls; catches = map is_clause ls }

-- ---- answers

-- An operator goes on; branches to a label that it names; traps, or throws what leaves the activation; or throws what is caught
-- within the activation, after so many labels were left.
pub data Way : Type 0 where
  on : Way
  branches : Way
  traps : Way
  throws : ℕ → Way

-- What a reduction takes from outside: the values that an operator computes, reads or hands back, or that an exception carries,
-- the top first, and how many values go for them; whether a condition holds; which of several labels or clauses is meant; and
-- which way the operator goes.
pub record Answer : Type 0 where
  pub values : List Value
  pub taken : ℕ
  pub condition : Bool
  pub index : ℕ
  pub way : Way

-- ---- reductions

-- What comes of a reduction: another configuration; the values that the function gives; a call of this type, with its
-- arguments, that takes the activation's place; a trap. Or no rule applies.
pub data Outcome : Type 0 where
  next : Configuration → Outcome
  returned : List Value → Outcome
  replaced : Signature → List Value → Outcome
  trapped : Outcome
  stuck : Outcome

-- a reduction: what it asks of the values that are there, what it asks of the answer, and what comes of it
pub record Reduction : Type 1 where
  pub asked : Type 0
  pub answered : Type 0
  pub outcome : Outcome

-- one that asks nothing of the answer
abbrev pub by_itself : Type 0 → Outcome → Reduction
by_itself P o = record { asked = P; answered = Unit {0}; outcome = o }

abbrev pub no_rule : Reduction
no_rule = by_itself (Unit {0}) stuck

-- an answer that is no answer here
abbrev pub refused : Reduction
refused = record { asked = Unit {0}; answered = ⊥; outcome = stuck }

-- one that asks this besides
abbrev pub asks : Type 0 → Reduction → Reduction
asks P r = record { asked = P × r.asked; answered = r.answered; outcome = r.outcome }

-- ---- values off the stack

-- as many values as there are items in a list, and those below them
abbrev pub front : {A : Type 0} → List A → List Value → List Value
front [] vs = []
front (t ∷ ts) [] = []
front (t ∷ ts) (v ∷ vs) = v ∷ front ts vs

abbrev pub back : {A : Type 0} → List A → List Value → List Value
back [] vs = vs
back (t ∷ ts) [] = []
back (t ∷ ts) (v ∷ vs) = back ts vs

-- the values on top are of these types, the last on top
abbrev pub AreOnTop : List ValueType → List Value → Type 0
AreOnTop ts vs = AllFit (front (stack ts) vs) (stack ts)
