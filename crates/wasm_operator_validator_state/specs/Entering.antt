-- The test at the entry of each operator: nothing was refused before, a frame is open, and the features allow the operator.
use Rattle.std.specs.Prelude.{◌≡◌, ◌==◌, Bool, false, true, [], IsTrue, ◌⊎◌}
use Rattle.std.specs.Int.RustNames.{bit_and}
use Rattle.wasm_types.specs.settings.Features.{Floats, mask}
use Rattle.wasm_types.specs.settings.declared.WasmFeatures.{WasmFeatures}
use Rattle.wasm_types.specs.trees.Gates.{Has}
use Rattle.wasm_operators_immediates.specs.Info.{features_of}
use Rattle.wasm_operators_immediates.specs.declared.proposal.Proposal.{Proposal}
use Rattle.wasm_operator_validator_state.specs.declared.refusal.Refusal.{Refusal}
use Rattle.wasm_operator_validator_state.specs.declared.refusal.Refusal.TheVariants as refusals
use Rattle.wasm_operator_validator_state.specs.State.{State}
use Rattle.wasm_operator_validator_state.specs.Steps.{IsOpen}

-- an operator may begin that this proposal brought, and that has a float in its name or not
pub record MayBegin (σ : State) (proposal : Proposal) (floats : Bool) : Type 0 where
  pub going : σ.failed ≡ false
  pub framed : IsOpen σ.opens
  pub allowed : bit_and σ.given.bits (features_of proposal) ≡ features_of proposal
  pub float : IsTrue floats → Has σ.given.bits Floats

-- a feature is asked and is not on: the proposal's, or floats where the operator has one in its name
abbrev pub IsMissed : State → Proposal → Bool → WasmFeatures → Type 0
IsMissed σ proposal floats f =
    ((bit_and σ.given.bits f.0 == f.0) ≡ false) × ((f.0 ≡ features_of proposal) ⊎ ((floats ≡ true) × (f.0 ≡ mask Floats)))

-- which refusal comes: the first of these that holds
abbrev pub StopsWith : State → Proposal → Bool → Refusal → Type 0
StopsWith σ proposal floats refusals.OutOfMemory = ⊥
StopsWith σ proposal floats refusals.AfterRefusal = σ.failed ≡ true
StopsWith σ proposal floats refusals.AfterEnd = (σ.failed ≡ false) × (σ.opens ≡ [])
StopsWith σ proposal floats (refusals.NotEnabled feature) = (σ.failed ≡ false) × IsOpen σ.opens × IsMissed σ proposal floats feature
StopsWith σ proposal floats r = ⊥
