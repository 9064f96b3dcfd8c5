-- Labels one after the other, which all take the same types (WebAssembly 3.0, binary format, control instructions).
use Rattle.std.specs.Prelude.{◌≡◌, ◌≤◌, ℕ, List, ◌∷◌, ◌++◌, All, length, drop, slice_get, Some}
use Rattle.wasm_types.specs.decoding.Decoder.{Many}
use Rattle.wasm_types.specs.decoding.Leb.{u32, IsUnsigned}
use Rattle.wasm_types.specs.decoding.Numbers.{GivesAt}
use Rattle.wasm_operator_validator_fast_tables.specs.declared.tables.Open.{Open}
use Rattle.wasm_operator_validator_fast_tables.specs.Tables.{label_in}

-- a branch to the frame behind so many takes these types
abbrev pub Takes : List ℕ → List Open → List ℕ → ℕ → Type 0
Takes flat opens types d = (f : Open) × (slice_get opens d ≡ Some f) × (types ≡ label_in flat f.kind f.sig)

-- a label stands from one offset to the other
pub record IsOneLabel (flat text : List ℕ) (opens : List Open) (i : ℕ) (types : List ℕ) (j : ℕ) : Type 0 where
  pub depth : ℕ
  pub read : GivesAt u32 text i depth j
  pub takes : Takes flat opens types depth

-- so many labels stand from one offset to the other, and one more
pub record AreLabels (flat text : List ℕ) (opens : List Open) (i count : ℕ) (types : List ℕ) (j : ℕ) : Type 0 where
  pub targets : List ℕ
  pub default : ℕ
  pub front : List ℕ
  pub back : List ℕ
  pub each : Many (IsUnsigned 32) count targets front
  pub last : IsUnsigned 32 default back
  pub whole : drop i text ≡ (front ++ back) ++ drop j text
  pub many : length targets ≡ count
  pub take : All (Takes flat opens types) (default ∷ targets)
  pub forward : i ≤ j
  pub inside : j ≤ length text
