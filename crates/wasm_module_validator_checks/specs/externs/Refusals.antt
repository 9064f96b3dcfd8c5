-- Of which kind the refusal of a type is. A feature is named where it is missing, and every other refusal is one that no set of
-- features takes back.
use Rattle.std.specs.Prelude.{◌≡◌, ◌==◌, ℕ, Bool, true, false, bit_and}
use Rattle.wasm_types.specs.settings.Settings.{Settings}
use Rattle.wasm_types.specs.decoding.declared.error.ErrorKind.{ErrorKind}
use Rattle.wasm_types.specs.decoding.declared.error.ErrorKind.TheVariants as kinds
-- for attributes that unfold them
unfoldable pub use Rattle.wasm_types.specs.settings.Features.{has}
unfoldable pub use Rattle.wasm_operator_validator_state.specs.resources.Meaning.{type_in}

-- the same limits under other features
abbrev pub allowing : ℕ → Settings → Settings
allowing bits z = record { features = bits; limits = z.limits }

-- whether these bits have each of those
abbrev pub allows : ℕ → ℕ → Bool
allows bits f = bit_and bits f == f

-- Where a fact is refused under these bits: the feature that is named is missing, and another fault is one under all features.
abbrev pub IsRefusal : ℕ → (ℕ → Type 0) → ErrorKind → Type 0
IsRefusal bits P (kinds.EndOfData h) = ⊥
IsRefusal bits P (kinds.MissingFeature f) = allows bits f.0 ≡ false
IsRefusal bits P kinds.OutOfMemory = ⊥
IsRefusal bits P kinds.Failed = ⊥
IsRefusal bits P kinds.Other = (b : ℕ) → P b → ⊥

-- the same, where the feature that is named is one that no set of features does without
abbrev pub IsNeeded : ℕ → (ℕ → Type 0) → ErrorKind → Type 0
IsNeeded bits P (kinds.EndOfData h) = ⊥
IsNeeded bits P (kinds.MissingFeature f) = (allows bits f.0 ≡ false) × ((b : ℕ) → P b → allows b f.0 ≡ true)
IsNeeded bits P kinds.OutOfMemory = ⊥
IsNeeded bits P kinds.Failed = ⊥
IsNeeded bits P kinds.Other = (b : ℕ) → P b → ⊥
