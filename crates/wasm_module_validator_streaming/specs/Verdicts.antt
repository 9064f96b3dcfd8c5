-- What is said of the bytes of a module: accepted, and what is known then; or refused (WebAssembly 3.0, binary format and validation, modules).
use Rattle.std.specs.Prelude.{◌≡◌, ◌<◌, ◌^◌, ◌⊎◌, Bool, ℕ, List, [], length, Option, Result}
use Rattle.wasm_types.specs.decoding.Denials.{Denies}
use Rattle.wasm_types.specs.decoding.ErrorValue.{ErrorValue}
use Rattle.wasm_types.specs.settings.Settings.{Settings}
use Rattle.wasm_module_validator_index_spaces.specs.declared.view.validator_id.ValidatorId.{ValidatorId}
use Rattle.wasm_module_validator.specs.soundness.Soundness.{RunsSoundly}
use Rattle.wasm_module_validator_section_order.specs.rules.Accepts.{AcceptsUnder}
use Rattle.wasm_module_validator.specs.Accepts.{IsShown}
use Rattle.wasm_module_validator.specs.Shown.{Learned}
use Rattle.wasm_module_validator_streaming.specs.declared.reading.ReadError.{ReadError}
use Rattle.wasm_module_validator_streaming.specs.Awaiting.{Awaits, IsNotRefused}
use Rattle.wasm_module_validator_streaming.specs.Judges.{HasItsJudge}
use Rattle.wasm_module_validator_streaming.specs.Passing.{HasHead}
use Rattle.wasm_module_validator_streaming.specs.Pieces.{Answers, Stops}
use Rattle.wasm_module_validator_streaming.specs.Taking.{Takes}
use Rattle.wasm_module_validator_streaming.specs.declared.judging.Judging.{Judging}
use Rattle.wasm_module_validator_streaming.specs.declared.taking.Taken.{Taken}
use Rattle.wasm_module_validator_streaming.specs.laws.GoingBy.{GoesBy}
use Rattle.wasm_module_validator_streaming.specs.laws.Running.{Goes}

-- The bytes spell a valid module, all of it but its code is shown, it runs soundly, and what is known of it has this id.
abbrev pub IsVerdict : Settings → ValidatorId → List ℕ → Learned → Type 0
IsVerdict z id text t = AcceptsUnder z text × IsShown z text t × RunsSoundly z text × (t.id ≡ id)

-- an error denies that they do, memory aside
abbrev pub IsRefusal : Settings → List ℕ → ErrorValue → Type 0
IsRefusal z text e = Denies e.kind (AcceptsUnder z text)

-- where its parser and its validator are behind some bytes of a module: between two items, or where contents of a custom section go by
abbrev pub GoesAt : Settings → ValidatorId → List ℕ → Bool → List ℕ → Judging → Type 0
GoesAt z id got eof rest now = ((now.passing ≡ 0) × Goes z id got eof now.parser.frames rest now.validator)
    ⊎ GoesBy z id got eof now.parser.frames rest now.validator now.passing now.contents

-- where what judges a module stands behind some bytes of it, by what it was at first
pub record StandsAt (first : Judging) (got : List ℕ) (eof : Bool) (rest : List ℕ) (now : Judging) : Type 0 where
  pub goes : GoesAt first.validator.settings first.validator.id got eof rest now
  pub judge : HasItsJudge now

-- Of these bytes it has nothing more to judge, and they have no front of a custom section, whose contents would go by; where contents go by
-- there are none.
abbrev pub WaitsAt : Judging → List ℕ → Type 0
WaitsAt now rest = ((now.passing ≡ 0) × Awaits now.parser.frames rest × (HasHead now.parser.frames rest → ⊥)) ⊎ ((0 < now.passing) × (rest ≡ []))

-- by what it was at first all the bytes are accepted, or an error denies that
abbrev pub ShownAt : Judging → List ℕ → Learned → Type 0
ShownAt first text t = IsVerdict first.validator.settings first.validator.id text t

abbrev pub DeniedAt : Judging → List ℕ → ErrorValue → Type 0
DeniedAt first text e = IsRefusal first.validator.settings text e

-- what a call promises that is given the bytes that are left, wherever it stood
abbrev pub TakesAt : Judging → Bool → List ℕ → Taken Learned → Judging → Type 0
TakesAt now eof rest result after = (first : Judging) (got : List ℕ) → StandsAt first got eof rest now → length got < 2 ^ 64
    → Takes StandsAt ShownAt DeniedAt WaitsAt first got eof rest result after

-- what is answered of a reader that may have so many bytes
abbrev pub AnswersReader : Settings → ValidatorId → ℕ → Option (List ℕ) → Option (List ℕ) → Result Learned ReadError → Type 0
AnswersReader z id most before after result = Answers (IsVerdict z id) (IsRefusal z) most before after result

-- How far it was read: all but the last piece, at most, was judged and not refused, so that no more than a piece is held behind the item that
-- a call stops in; and where there were too many bytes, those that may be there were not refused.
abbrev pub StopsReader : Settings → ℕ → ℕ → Option (List ℕ) → Option (List ℕ) → Result Learned ReadError → Type 0
StopsReader z most piece before after result = Stops (IsNotRefused z) most piece before after result
