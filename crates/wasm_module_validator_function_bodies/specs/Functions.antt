-- The body of a function: which bytes spell one that is valid, what its validation promises, and why others are refused
-- (WebAssembly 3.0, binary format, modules, code section; validation, modules, functions and locals).
use Rattle.std.specs.Prelude.{◌≡◌, ◌↔◌, ◌⊎◌, ◌≤◌, ℕ, List, [], ◌++◌, length, true, Some, is_some, slice_get, Result, IfErr, OnOk}
use Rattle.wasm_types.specs.decoding.Decoder.{State as Bytes}
use Rattle.wasm_types.specs.settings.Settings.{Settings}
use Rattle.wasm_types.specs.settings.declared.Limits.{Limits}
use Rattle.wasm_types.specs.decoding.Denials.{Tells}
use Rattle.wasm_types.specs.decoding.ErrorValue.{ErrorValue}
use Rattle.wasm_types.specs.decoding.declared.error.ErrorKind.TheVariants as kinds
use Rattle.wasm_types.specs.trees.Trees.{TypeTree}
use Rattle.wasm_operators_encoding.specs.Locals.{SpelledLocals}
use Rattle.wasm_operators_encoding.specs.expressions.Spelling.{SpelledExpression}
use Rattle.wasm_operator_validator_rules.specs.Context.{Module}
use Rattle.wasm_operator_validator_arity.specs.resources.Meaning.{Meaning}
use Rattle.wasm_operator_validator_state.specs.Refusals.{refused_by}
use Rattle.wasm_operator_validator_state.specs.State.{State}
use Rattle.wasm_operator_validator_stacks.specs.Functions.{Begins}
use Rattle.wasm_operator_validator_expression.specs.Validating.{AcceptsExpression, StopsBy}
use Rattle.wasm_module_validator_section_order.specs.rules.Syntax.{Function}
use Rattle.wasm_module_validator_section_order.specs.rules.Binary.{SpelledFunction}
use Rattle.wasm_module_validator_section_order.specs.rules.Valid.{IsValidFunction, HasValidBody}
use Rattle.wasm_module_validator_function_bodies.specs.Locals.{judged_by, TakesLocals, StopsLocals}

-- ---- which bytes

-- func ::= loc**:list(locals) e:expr, to the last byte, however many these are: whoever cuts a body out of a module has its size
pub record SpellsFunction (z : Settings) (f : Function) (text : List ℕ) : Type 0 where
  pub locals_text : List ℕ
  pub body_text : List ℕ
  pub locals : SpelledLocals z f.locals locals_text
  pub body : SpelledExpression z f.body body_text
  pub whole : text ≡ locals_text ++ body_text

-- the bytes spell a function that is valid as one of the type at an index
pub record SpellsValidFunction (z : Settings) (g : Module) (x : ℕ) (text : List ℕ) : Type 0 where
  pub function : Function
  pub spelled : SpellsFunction z function text
  pub type : TypeTree
  pub at : slice_get g.types x ≡ Some type
  pub valid : IsValidFunction z g type function

-- where the bytes are no more than the limit, these are the functions of the rules
abbrev pub FunctionsAreThoseOfTheRules : Type 0
FunctionsAreThoseOfTheRules =
    (z : Settings) (g : Module) (x : ℕ) (text : List ℕ) → length text ≤ z.limits.body_bytes
    → SpellsValidFunction z g x text ↔ (f : Function) × SpelledFunction z f text × HasValidBody z g x f

-- ---- what the validation of a body promises

-- the same bytes, read by these settings
abbrev pub under : Settings → Bytes → Bytes
under z s = record { rest = s.rest; place = s.place; settings = z; start = s.start }

-- locals stand at the front that may come behind those that there are, and after them an expression that may come from there on
pub record AcceptsRest (m : Meaning) (z : Settings) (s : Bytes) (σ : State) : Type 0 where
  pub behind : Bytes
  pub known : State
  pub taken : TakesLocals m z s σ behind known
  pub accepted : AcceptsExpression m known behind

-- the locals were taken, and behind them the expression is refused
pub record StopsInBody (m : Meaning) (z : Settings) (s : Bytes) (σ : State) (e : ErrorValue) : Type 0 where
  pub behind : Bytes
  pub known : State
  pub left : State
  pub taken : TakesLocals m z s σ behind known
  pub stops : StopsBy m known behind e left

-- why a body is refused
abbrev pub StopsFunction : Meaning → Settings → Bytes → State → ErrorValue → Type 0
StopsFunction m z s σ e = StopsLocals m z s σ e ⊎ StopsInBody m z s σ e

-- Where a body of the function type at an index begins, it is not refused exactly where the bytes spell a valid function of that type,
-- out of memory aside. From any state it is Ok only where the bytes are the rest of a function that is accepted from there, and never
-- after the end. If something was refused before it is refused for that. Behind it no frame is open, or the validator has failed. The
-- features, and what an attempt has saved, stay.
pub record ValidatesFunction (m : Meaning) (l : Limits) (s : Bytes) (σ : State) (answer : Result (Unit {0}) ErrorValue)
    (τ : State) : Type 0 where
  pub exact : (x : ℕ) → Begins m σ.given.bits x σ → Tells answer (SpellsValidFunction (judged_by σ.given.bits l) m.«module» x s.rest)
  pub accepted : OnOk answer (AcceptsRest m (judged_by σ.given.bits l) (under (judged_by σ.given.bits l) s) σ)
  pub over : σ.opens ≡ [] → OnOk answer ⊥
  pub stopped : σ.failed ≡ true → refused_by answer ≡ Some kinds.Failed
  pub stops : IfErr answer (StopsFunction m (judged_by σ.given.bits l) (under (judged_by σ.given.bits l) s) σ)
  pub ended : OnOk answer (τ.opens ≡ [])
  pub failed : τ.failed ≡ is_some (refused_by answer)
  pub features : τ.given.bits ≡ σ.given.bits
  pub saved : τ.saved ≡ σ.saved
