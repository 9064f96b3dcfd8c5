-- How far a validator is behind a module: worked rows.
use Rattle.std.proofs.Common.{◌≡◌, ℕ, List, [], Ok}
use Rattle.wasm_types.specs.decoding.declared.error.ErrorKind.TheVariants.{OutOfMemory, Other}
use Rattle.wasm_types.specs.settings.Limits.{default_limits}
use Rattle.wasm_types.specs.settings.Settings.{Settings}
use Rattle.wasm_module_validator_drivers.specs.payloads.Progress.{Kept, kept_groups, nothing_over, renewed}
use Rattle.wasm_module_validator_type_storage.specs.trees.Groups.{Group}
use Rattle.wasm_module_validator.specs.declared.validator.State.TheVariants.{Ended, Failed}
use Rattle.wasm_module_validator.specs.States.{IsLeft, Leaves}

-- behind a body that was refused: for what it has, or for memory
pub record LeftRows : Type 0 where
  pub ended : IsLeft Other Ended
  pub failed : IsLeft OutOfMemory Failed
  pub not_failed : IsLeft Other Failed → ⊥
  pub not_ended : IsLeft OutOfMemory Ended → ⊥

-- behind a module that was accepted
pub record AcceptedRows (groups : List Group) (z : Settings) (bytes : List ℕ) : Type 0 where
  pub ended : Leaves {X = ℕ} groups z bytes (Ok 0) Ended
  pub not_failed : Leaves {X = ℕ} groups z bytes (Ok 0) Failed → ⊥

-- ---- what a module begins with behind another

-- features with these bits, and the limits by default, but for the number of locals
abbrev pub with_locals : ℕ → ℕ → Settings
with_locals bits most = record { features = bits; limits = record default_limits { locals = most } }

-- a module of which nothing was read, by features with the bits 5 and at most 10 locals, over a list with these groups
abbrev pub begun_over : List Group → Kept
begun_over groups = (nothing_over groups (with_locals 5 10)).kept

-- by the same settings it begins over the same list, and by other features or other limits over none; whatever was counted is forgotten
pub record RenewedRows (groups : List Group) : Type 0 where
  pub same : kept_groups (with_locals 5 10) (begun_over groups) ≡ groups
  pub other_features : kept_groups (with_locals 6 10) (begun_over groups) ≡ []
  pub other_limits : kept_groups (with_locals 5 11) (begun_over groups) ≡ []
  pub counted : renewed (with_locals 5 10) (record (begun_over groups) { count = 3 }) ≡ nothing_over groups (with_locals 5 10)
