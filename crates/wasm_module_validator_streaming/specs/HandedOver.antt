-- A module whose pieces are handed over: which bytes came, and what is told of them (WebAssembly 3.0, binary format and validation, modules).
use Rattle.std.specs.Prelude.{◌≡◌, ◌<◌, ◌≤◌, ◌+◌, ◌^◌, ◌++◌, ◌⊎◌, ℕ, List, length, false, vec_len, Option, Some, None, Result, Ok, Err}
use Rattle.wasm_types.specs.decoding.ErrorValue.{ErrorValue}
use Rattle.wasm_types.specs.settings.Settings.{Settings}
use Rattle.wasm_module_validator_index_spaces.specs.declared.view.validator_id.ValidatorId.{ValidatorId}
use Rattle.wasm_module_validator.specs.Shown.{Learned}
use Rattle.wasm_module_validator_streaming.specs.Awaiting.{IsNotRefused}
use Rattle.wasm_module_validator_streaming.specs.declared.handing.PieceError.{PieceError}
use Rattle.wasm_module_validator_streaming.specs.declared.handing.PieceError.TheVariants as errors
use Rattle.wasm_module_validator_streaming.specs.declared.judging.Judging.{Judging}
use Rattle.wasm_module_validator_streaming.specs.declared.pieces.ModuleInPieces.{ModuleInPieces}
use Rattle.wasm_module_validator_streaming.specs.Passing.{HasHead}
use Rattle.wasm_module_validator_streaming.specs.Taking.{IsPending}
use Rattle.wasm_module_validator_streaming.specs.Verdicts.{IsVerdict, IsRefusal, StandsAt, WaitsAt}

-- An error denies each module that begins with these bytes, memory aside.
abbrev pub DeniesAll : Settings → List ℕ → ErrorValue → Type 0
DeniesAll z got e = (more : List ℕ) → length (got ++ more) < 2 ^ 64 → IsRefusal z (got ++ more) e

-- An item of these bytes is longer than that many. Each whole item of the bytes at their front was judged, and none is refused; so many bytes or
-- more are left of these, which are in no whole item, and with those that came after them they are more. The item is no custom section of which
-- the id, the size and the name are there: contents of such a section are not held.
pub record HasLongItem (z : Settings) (most : ℕ) (got : List ℕ) : Type 0 where
  pub front : List ℕ
  pub later : List ℕ
  pub whole : got ≡ front ++ later
  pub judged : IsNotRefused z front
  pub other : HasHead judged.behind judged.left → ⊥
  pub full : most ≤ length judged.left
  pub more : most < length judged.left + length later

-- More bytes than that many would have to be held, or there are more than offsets have.
abbrev pub IsTooLong : Settings → ℕ → List ℕ → Type 0
IsTooLong z most got = HasLongItem z most got ⊎ (2 ^ 64 ≤ length got)

-- What an error says of the bytes that came, of which so many may be held: a refusal denies each module that begins with them.
abbrev pub RefusesFrom : Settings → ℕ → List ℕ → PieceError → Type 0
RefusesFrom z most got (errors.Refused e) = DeniesAll z got e
RefusesFrom z most got errors.TooLong = IsTooLong z most got

-- These bytes came, each whole item of them was judged, and none is refused; what is held is in no whole item.
pub record IsJudged (z : Settings) (id : ValidatorId) (got : List ℕ) (p : ModuleInPieces) : Type 0 where
  pub first : Judging
  pub settings : first.validator.settings ≡ z
  pub own : first.validator.id ≡ id
  pub there : StandsAt first got false p.pending.bytes.items p.judging
  pub pending : IsPending WaitsAt p.pending.needed p.pending.bytes.items p.judging
  pub counted : length got ≡ p.came
  pub room : length got < 2 ^ 64

-- They were judged, or are refused by this error.
abbrev pub IsJudgedOr : Settings → ValidatorId → List ℕ → ModuleInPieces → Option PieceError → Type 0
IsJudgedOr z id got p None = IsJudged z id got p
IsJudgedOr z id got p (Some e) = RefusesFrom z p.most got e

-- By these settings, and with this id, these bytes came; and no more are held than may be.
pub record Came (z : Settings) (id : ValidatorId) (got : List ℕ) (p : ModuleInPieces) : Type 0 where
  pub judged : IsJudgedOr z id got p p.refused
  pub held : vec_len p.pending.bytes ≤ p.most

-- Some bytes came, perhaps none.
pub record IsUnderWay (p : ModuleInPieces) : Type 0 where
  pub settings : Settings
  pub id : ValidatorId
  pub got : List ℕ
  pub came : Came settings id got p

-- What is told of a module that is all these bytes, of which so many may be held.
abbrev pub TellsModule : Settings → ValidatorId → ℕ → List ℕ → Result Learned PieceError → Type 0
TellsModule z id most got (Ok t) = IsVerdict z id got t
TellsModule z id most got (Err (errors.Refused e)) = IsRefusal z got e
TellsModule z id most got (Err errors.TooLong) = IsTooLong z most got

-- The same error again: a refusal has its kind and its offset.
abbrev pub IsAgain : PieceError → PieceError → Type 0
IsAgain (errors.Refused e) (errors.Refused k) = (k.kind ≡ e.kind) × (k.offset ≡ e.offset)
IsAgain (errors.Refused e) errors.TooLong = ⊥
IsAgain errors.TooLong (errors.Refused k) = ⊥
IsAgain errors.TooLong errors.TooLong = Unit {0}

-- An error is kept, and nothing is where there is none.
abbrev pub Remembers : Result (Unit {0}) PieceError → Option PieceError → Type 0
Remembers (Ok t) None = Unit {0}
Remembers (Ok t) (Some k) = ⊥
Remembers (Err e) None = ⊥
Remembers (Err e) (Some k) = IsAgain e k
