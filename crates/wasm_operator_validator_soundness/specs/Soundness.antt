-- That typed code is never stuck (WebAssembly 3.0, appendix, soundness), for one activation: whatever it is answered, by
-- values of the types that answers are said to have, each configuration that it reaches has what its reduction asks for, and
-- that reduction leads on, or ends the activation by a trap or by values of the types that the caller was promised.
use Rattle.std.specs.Prelude.{◌≡◌, ℕ, false, IsTrue, List, [], Option, Some, None, slice_get, ◌⊎◌, ◌∷◌}
use Rattle.wasm_operators_encoding.specs.expressions.Code.{Code}
use Rattle.wasm_operator_validator_rules.specs.Operands.{ValueType, AllBelow, all_known, stack}
use Rattle.wasm_operator_validator_rules.specs.Context.{Context, initialised_at_first}
use Rattle.wasm_operator_validator_rules.specs.Typed.{IsBody}
use Rattle.wasm_operator_validator_soundness.specs.Values.{Value, Fits, AllFit}
use Rattle.wasm_operator_validator_soundness.specs.States.{behind, no_handlers, Configuration, Answer, Outcome, next, returned, replaced, trapped, stuck, Reduction}
use Rattle.wasm_operator_validator_soundness.specs.Machine.{reduce, Runs}

-- ---- where an activation begins

-- a local has no value, or one of its type
abbrev pub LocalFits : Option Value → ValueType → Type 0
LocalFits None t = Unit {0}
LocalFits (Some v) t = Fits v t

-- each local, and as many as there are types
abbrev pub LocalsFit : List (Option Value) → List ValueType → Type 0
LocalsFit [] [] = Unit {0}
LocalsFit [] (t ∷ ts) = ⊥
LocalsFit (o ∷ os) [] = ⊥
LocalsFit (o ∷ os) (t ∷ ts) = LocalFits o t × LocalsFit os ts

-- those that a function begins with have values: its arguments, which are its first locals, and the locals of defaultable types
pub record AreLocals (g : Context) (params : ℕ) (locals : List (Option Value)) : Type 0 where
  pub fit : LocalsFit locals g.locals
  pub have_values : (x : ℕ) → IsTrue (initialised_at_first params g.locals x) → (v : Value) × (slice_get locals x ≡ Some (Some v))

-- a function's body, before its first instruction
abbrev pub begun : Context → Code → List (Option Value) → Configuration
begun g c locals = record {
  locals = locals;
  innermost = record { code = c; values = []; block = record { params = []; results = g.results }; continuation = behind; handlers = no_handlers; clause = false };
  around = [];
}

-- ---- where it may come to

-- Stuck: it has not ended, the answer fits, and there is no reduction, since a value that it asks for is missing or of another
-- type, or since no rule applies.
abbrev pub IsStuck : Reduction → Type 0
IsStuck r = (r.asked → ⊥) ⊎ (r.outcome ≡ stuck)

-- what the function gives is of its result types; a call that takes its place has its arguments, and gives what the function
-- was to give
abbrev pub EndsWell : Context → Outcome → Type 0
EndsWell g (next k) = Unit {0}
EndsWell g (returned vs) = AllFit vs (stack g.results)
EndsWell g (replaced b vs) = AllFit vs (stack b.params) × AllBelow (all_known b.results) (all_known g.results)
EndsWell g trapped = Unit {0}
EndsWell g stuck = ⊥

-- The body of a function, in which no label is open yet but its own, begun with fitting locals and answered by fitting values
-- for any number of reductions, is not stuck at the next one, and ends well if it ends there. Neither features nor types need
-- a premise: what fits a type fits each type above it, whether or not these are of valid groups.
abbrev pub ActivationsAreSound : Type 0
ActivationsAreSound =
    (g : Context) (params : ℕ) (c : Code) (locals : List (Option Value)) (answers : List Answer) (k : Configuration) (a : Answer)
    → g.labels ≡ [] → g.catches ≡ [] → IsBody g params c → AreLocals g params locals
    → Runs g (begun g c locals) answers k → (reduce g k a).answered
    → (IsStuck (reduce g k a) → ⊥) × EndsWell g (reduce g k a).outcome
