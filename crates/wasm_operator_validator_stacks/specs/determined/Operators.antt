-- Operators by what their checks begin with, and what a function may use (WebAssembly 3.0, validation, instructions).
use Rattle.std.specs.Prelude.{◌≡◌, ◌↔◌, Bool, IsTrue, List, Option, Some}
use Rattle.wasm_types.specs.decoding.declared.error.ErrorKind.{ErrorKind}
use Rattle.wasm_types.specs.decoding.declared.error.ErrorKind.TheVariants as kinds
use Rattle.wasm_operators_immediates.specs.declared.proposal.Proposal.{Proposal}
use Rattle.wasm_operators_enums.specs.Op.{Op}
use Rattle.wasm_operators_enums.specs.Table.{info_of}
use Rattle.wasm_operators_enums.specs.declared.role.Role.TheVariants as role
use Rattle.wasm_operators_enums.specs.Roles.{role_of}
use Rattle.wasm_operator_validator_rules.specs.Operands.{Operand}
use Rattle.wasm_operator_validator_rules.specs.Context.{Context, Initialised}
use Rattle.wasm_operator_validator_rules.specs.Row.{GroupRow, TableRow, names_float, after}
use Rattle.wasm_operator_validator_state.specs.State.{State}
use Rattle.wasm_operator_validator_state.specs.declared.refusal.Refusal.{Refusal}
use Rattle.wasm_operator_validator_state.specs.declared.refusal.Refusal.TheVariants as refusals

-- the operator is of this proposal, with a float in its name or not, and neither opens nor ends a frame
pub record IsPlain (o : Op) (p : Proposal) (float : Bool) : Type 0 where
  pub of : (info_of o).proposal ≡ p
  pub named : names_float o ≡ float
  pub plain : role_of o ≡ role.Plain

-- besides, its row is that of the table of instruction types, and it sets no local
pub record IsInTable (o : Op) (p : Proposal) (float : Bool) : Type 0 where
  pub is : IsPlain o p float
  pub row : (g : Context) (set : Initialised) (popped pushed : List Operand) → GroupRow g set o popped pushed ↔ TableRow g o popped pushed
  pub keeps : (set : Initialised) → after o set ≡ set

-- the function may use what is shared, or not (the proposal on shared everything)
abbrev pub MayUseIn : State → Bool → Type 0
MayUseIn σ shared = IsTrue σ.given.shared → IsTrue shared

-- an index names this, and the function may use it
abbrev pub IsUsable : {A : Type 0} → State → (A → Bool) → Option A → A → Type 0
IsUsable σ shared named v = (named ≡ Some v) × MayUseIn σ (shared v)

-- the kind of the refusal for an error of what a module is asked
abbrev pub refusal_kind : ErrorKind → ErrorKind
refusal_kind (kinds.EndOfData h) = kinds.Other
refusal_kind (kinds.MissingFeature f) = kinds.MissingFeature f
refusal_kind kinds.OutOfMemory = kinds.OutOfMemory
refusal_kind kinds.Failed = kinds.Failed
refusal_kind kinds.Other = kinds.Other

-- what never changes, whether an operator was refused, and what was saved stay
pub record Stays (σ τ : State) : Type 0 where
  pub given : τ.given ≡ σ.given
  pub failed : τ.failed ≡ σ.failed
  pub saved : τ.saved ≡ σ.saved

-- a refusal that is not for memory
abbrev pub IsOfContent : Refusal → Type 0
IsOfContent refusals.OutOfMemory = ⊥
IsOfContent r = Unit {0}
