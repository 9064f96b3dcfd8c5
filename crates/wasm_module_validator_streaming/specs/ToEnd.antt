-- A module whose pieces are handed over, and which is judged to its end (WebAssembly 3.0, binary format and validation, modules).
use Rattle.std.specs.Prelude.{◌≡◌, ◌<◌, ◌^◌, ℕ, List, length, false, Option, Some, None, Result, Ok, Err}
use Rattle.wasm_types.specs.decoding.ErrorValue.{ErrorValue}
use Rattle.wasm_types.specs.settings.Settings.{Settings}
use Rattle.wasm_module_validator_index_spaces.specs.declared.view.validator_id.ValidatorId.{ValidatorId}
use Rattle.wasm_module_validator.specs.Shown.{Learned}
use Rattle.wasm_module_validator_streaming.specs.declared.going_on.GoingOn.{GoingOn}
use Rattle.wasm_module_validator_streaming.specs.declared.to_end.ModuleToEnd.{ModuleToEnd}
use Rattle.wasm_module_validator_streaming.specs.GoingOn.{GoesOnAt, WaitsOn}
use Rattle.wasm_module_validator_streaming.specs.HandedOver.{DeniesAll}
use Rattle.wasm_module_validator_streaming.specs.Taking.{IsPending}
use Rattle.wasm_module_validator_streaming.specs.Verdicts.{IsRefusal, IsVerdict}

-- These bytes came, and their sections have no fault so far; what is held is in no whole item.
pub record IsGoingOn (z : Settings) (id : ValidatorId) (got : List ℕ) (p : ModuleToEnd) : Type 0 where
  pub first : GoingOn
  pub settings : first.judging.validator.settings ≡ z
  pub own : first.judging.validator.id ≡ id
  pub there : GoesOnAt first got false p.pending.bytes.items p.going
  pub pending : IsPending WaitsOn p.pending.needed p.pending.bytes.items p.going
  pub counted : length got ≡ p.came
  pub room : length got < 2 ^ 64

-- So it is, or this error denies each module that begins with them.
abbrev pub GoesOnOr : Settings → ValidatorId → List ℕ → ModuleToEnd → Option ErrorValue → Type 0
GoesOnOr z id got p None = IsGoingOn z id got p
GoesOnOr z id got p (Some e) = DeniesAll z got e

-- By these settings, and with this id, these bytes came.
abbrev pub CameToEnd : Settings → ValidatorId → List ℕ → ModuleToEnd → Type 0
CameToEnd z id got p = GoesOnOr z id got p p.refused

-- Some bytes came, perhaps none.
pub record HasBegun (p : ModuleToEnd) : Type 0 where
  pub settings : Settings
  pub id : ValidatorId
  pub got : List ℕ
  pub came : CameToEnd settings id got p

-- What is told of a module that is all these bytes.
abbrev pub TellsVerdict : Settings → ValidatorId → List ℕ → Result Learned ErrorValue → Type 0
TellsVerdict z id got (Ok t) = IsVerdict z id got t
TellsVerdict z id got (Err e) = IsRefusal z got e
