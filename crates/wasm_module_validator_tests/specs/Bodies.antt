-- What the validation of a body, of its locals and of its expression promises, and what a try of an operator does: where something was
-- refused before, each is refused for that, and nothing else is left (WebAssembly 3.0, validation, modules, functions and locals). Which
-- bytes spell a function that is valid.
use Rattle.std.specs.Prelude.{◌≡◌, ◌+◌, ◌<◌, ℕ, true, false, List, [], ◌∷◌, length, Some, None, slice_get, Result, Ok, Err}
use Rattle.wasm_types.specs.decoding.Decoder.{State as Bytes}
use Rattle.wasm_types.specs.decoding.ErrorValue.{ErrorValue}
use Rattle.wasm_types.specs.decoding.declared.error.ErrorKind.{ErrorKind}
use Rattle.wasm_types.specs.decoding.declared.error.ErrorKind.TheVariants.{Failed, Other}
use Rattle.wasm_types.specs.settings.Limits.{default_limits}
use Rattle.wasm_types.specs.settings.declared.Limits.{Limits}
use Rattle.wasm_types.specs.settings.Settings.{Settings, no_features}
use Rattle.wasm_types.specs.trees.Trees.{TypeTree}
use Rattle.wasm_types.specs.values.declared.value.ValType.TheVariants.{I32}
use Rattle.wasm_operators_enums.specs.Op.{Op}
use Rattle.wasm_operator_validator_rules.specs.Context.{Module, Signature, IsFunctionType}
use Rattle.wasm_operator_validator_state.specs.resources.Meaning.{Meaning}
use Rattle.wasm_operator_validator_state.specs.State.{State}
use Rattle.wasm_module_validator_initialisers.specs.operator_expression.Validating.{Validates}
use Rattle.wasm_module_validator_function_bodies.specs.Locals.{judged_by, ReadsLocals, DefinesMore}
use Rattle.wasm_module_validator_function_bodies.specs.Functions.{SpellsValidFunction, ValidatesFunction}
use Rattle.wasm_module_validator_function_bodies.specs.Trying.{settled, Tries}

-- ---- where something was refused before

-- it is refused for that where it begins; and for something else
abbrev pub failed_at : Bytes → ErrorValue
failed_at s = record { kind = Failed; offset = s.place; message = [] }

abbrev pub fault_at : Bytes → ErrorValue
fault_at s = record { kind = Other; offset = s.place; message = [] }

abbrev pub Answer : Type 0
Answer = Result (Unit {0}) ErrorValue

pub record LocalsRead (m : Meaning) (l : Limits) (s : Bytes) (σ : State) : Type 0 where
  pub refused : ReadsLocals m l s σ (Err (failed_at s)) s σ
  pub read : ReadsLocals m l s σ (Ok tt) s σ → ⊥
  pub refused_otherwise : ReadsLocals m l s σ (Err (fault_at s)) s σ → ⊥
  pub refused_further : (t : Bytes) → (t ≡ s → ⊥) → ReadsLocals m l s σ (Err (failed_at s)) t σ → ⊥
  pub recovered : ReadsLocals m l s σ (Err (failed_at s)) s (record σ { failed = false }) → ⊥
  pub defined : DefinesMore m l.locals σ 1 I32 (Ok tt) σ → ⊥
  pub undefined : DefinesMore m l.locals σ 1 I32 (Err (failed_at s)) σ
  pub undefined_otherwise : DefinesMore m l.locals σ 1 I32 (Err (fault_at s)) σ → ⊥

pub record ExpressionsValidated (m : Meaning) (s : Bytes) (σ : State) : Type 0 where
  pub refused : Validates m σ s (Err (failed_at s)) σ
  pub accepted : Validates m σ s (Ok tt) σ → ⊥
  pub refused_otherwise : Validates m σ s (Err (fault_at s)) σ → ⊥
  pub recovered : Validates m σ s (Err (failed_at s)) (record σ { failed = false }) → ⊥
  pub of_other_features : (τ : State) → τ.given.bits ≡ σ.given.bits + 1 → Validates m σ s (Err (failed_at s)) τ → ⊥

pub record FunctionsValidated (m : Meaning) (l : Limits) (s : Bytes) (σ : State) : Type 0 where
  pub refused : ValidatesFunction m l s σ (Err (failed_at s)) σ
  pub accepted : ValidatesFunction m l s σ (Ok tt) σ → ⊥
  pub refused_otherwise : ValidatesFunction m l s σ (Err (fault_at s)) σ → ⊥
  pub recovered : ValidatesFunction m l s σ (Err (failed_at s)) (record σ { failed = false }) → ⊥
  pub of_other_features : (τ : State) → τ.given.bits ≡ σ.given.bits + 1 → ValidatesFunction m l s σ (Err (failed_at s)) τ → ⊥

pub record OperatorsTried (m : Meaning) (σ : State) (o : Op) : Type 0 where
  pub refused : Tries m σ o (Some Failed) (settled σ)
  pub done : Tries m σ o None (settled σ) → ⊥
  pub refused_otherwise : Tries m σ o (Some Other) (settled σ) → ⊥
  pub touched : (τ : State) → (τ ≡ settled σ → ⊥) → Tries m σ o (Some Failed) τ → ⊥
  pub recovered : Tries m σ o (Some Failed) (record (settled σ) { failed = false }) → ⊥

-- ---- where a frame is left open

-- An expression that was accepted closes every frame, and so does a body. None is accepted after the end.
pub record FramesClosed (m : Meaning) (l : Limits) (s : Bytes) (σ τ : State) : Type 0 where
  pub expression : (τ.opens ≡ [] → ⊥) → Validates m σ s (Ok tt) τ → ⊥
  pub body : (τ.opens ≡ [] → ⊥) → ValidatesFunction m l s σ (Ok tt) τ → ⊥
  pub after_the_end : σ.opens ≡ [] → ValidatesFunction m l s σ (Ok tt) τ → ⊥

-- ---- which bytes

-- no locals, and an end
abbrev pub empty_body : List ℕ
empty_body = 0x00 ∷ 0x0b ∷ []

abbrev pub procedure : Signature
procedure = record { params = []; results = [] }

pub record FunctionsSpelled (g : Module) (x : ℕ) : Type 0 where
  pub empty : (t : TypeTree) → slice_get g.types x ≡ Some t → IsFunctionType t procedure → SpellsValidFunction no_features g x empty_body
  pub no_type : slice_get g.types x ≡ None → SpellsValidFunction no_features g x empty_body → ⊥
  pub nothing : SpellsValidFunction no_features g x [] → ⊥
  pub too_many : (z : Settings) (text : List ℕ) (h : SpellsValidFunction z g x text) → z.limits.locals < length h.valid.signature.params → ⊥
  pub features : (judged_by 5 default_limits).features ≡ 5
  pub limits : (judged_by 5 default_limits).limits ≡ default_limits
