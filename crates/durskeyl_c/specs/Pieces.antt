-- What C is told of a module whose pieces it hands over one after the other.
use Rattle.std.specs.Prelude.{◌≡◌, ◌<◌, ◌≤◌, ◌^◌, ◌++◌, ℕ, List, length, Option, Some, None, vec_len}
use Rattle.wasm_module_validator_import_export_places.specs.rules.Accepts.{AcceptsUnder}
use Rattle.wasm_module_validator_streaming.specs.Awaiting.{IsNotRefused}
use Rattle.wasm_module_validator_streaming.specs.HandedOver.{Came, IsTooLong}
use Rattle.wasm_module_validator_streaming.specs.declared.handing.PieceError.{PieceError}
use Rattle.wasm_module_validator_streaming.specs.declared.pieces.ModuleInPieces.{ModuleInPieces}
use Rattle.wasm_module_validator.specs.declared.ValidatorId.{ValidatorId}
use Rattle.durskeyl_c.specs.declared.settings.DurskeylSettings.{DurskeylSettings}
use Rattle.durskeyl_c.specs.Settings.{settings_in, AreSettings}
use Rattle.durskeyl_c.specs.Told.{number_in}

-- A module was begun by these settings, and these bytes came since then.
abbrev pub Holds : Option ModuleInPieces → DurskeylSettings → List ℕ → Type 0
Holds None s got = ⊥
Holds (Some p) s got = AreSettings s × ((id : ValidatorId) × Came (settings_in s) id got p)

-- The cap of the module that was begun: of its bytes so many may be held at once.
abbrev pub HoldsAtMost : ℕ → Option ModuleInPieces → Type 0
HoldsAtMost most None = ⊥
HoldsAtMost most (Some p) = p.most ≡ most

-- The cap is what it was, and no more bytes are held than it allows.
abbrev pub CanBeHeld : Option ModuleInPieces → Option ModuleInPieces → Type 0
CanBeHeld None after = after ≡ None
CanBeHeld (Some p) None = ⊥
CanBeHeld (Some p) (Some q) = (q.most ≡ p.most) × (vec_len q.pending.bytes ≤ q.most)

-- the cap of the module that was begun, if one was
abbrev pub cap_of : Option ModuleInPieces → ℕ
cap_of None = 0
cap_of (Some p) = p.most

-- 0 while nothing is refused, and else the number of why no more is taken
abbrev pub answer_to : Option PieceError → ℕ
answer_to None = 0
answer_to (Some e) = number_in e

-- the answer that a module gives as it is: 6 if none was begun
abbrev pub answer_of : Option ModuleInPieces → ℕ
answer_of None = 6
answer_of (Some p) = answer_to p.refused

-- What a number tells of the bytes that came, where more may follow and so many may be held: 0 only if each whole item of them was judged and none
-- is refused; 3 if there was no memory, and 7 only if an item of them is longer than may be held, or they are more than offsets have, which are no
-- verdicts; and else that no module that begins with them is valid.
pub record TellsPiece (code : ℕ) (s : DurskeylSettings) (most : ℕ) (got : List ℕ) : Type 0 where
  pub going : code ≡ 0 → IsNotRefused (settings_in s) got
  pub too_long : code ≡ 7 → IsTooLong (settings_in s) most got
  pub invalid : ¬ (code ≡ 0) → ¬ (code ≡ 3) → ¬ (code ≡ 6) → ¬ (code ≡ 7) → (more : List ℕ) → length (got ++ more) < 2 ^ 64
      → ¬ AcceptsUnder (settings_in s) (got ++ more)
