-- What is said of some settings, a module and a number of globals is said of those that they are equal to.
use Rattle.std.proofs.Common.{◌≡◌, ℕ, subst, OnOk, Result, Ok, Err}
use Rattle.wasm_types.specs.settings.Settings.{Settings}
use Rattle.wasm_types.specs.decoding.ErrorValue.{ErrorValue}
use Rattle.wasm_types.specs.decoding.Denials.{UnlessMemory}
use Rattle.wasm_types.specs.decoding.declared.error.ErrorKind.{ErrorKind}
use Rattle.wasm_types.specs.decoding.declared.error.ErrorKind.TheVariants.{EndOfData, MissingFeature, OutOfMemory, Failed, Other}
use Rattle.wasm_types.specs.reader.Reading.{IsNotMemory}
use Rattle.wasm_operator_validator_state.specs.resources.Meaning.{Meaning}

pub moved : (P : Settings → Meaning → ℕ → Type 0) (z y : Settings) (m n : Meaning) (i j : ℕ) → z ≡ y → m ≡ n → i ≡ j → P z m i → P y n j
moved P z y m n i j e f g h = subst (λ (T : Type 0). T) (λ k. P (e k) (f k) (g k)) h

-- what holds anyhow holds where the answer is Ok
pub always : (r : Result (Unit {0}) ErrorValue) (P : Type 0) → P → OnOk r P
always (Ok v) P p = p
always (Err e) P p = tt

-- what holds is refused for memory alone
pub refused_for_memory : (k : ErrorKind) (Q R : Type 0) → (IsNotMemory k → Q → ⊥) → Q → UnlessMemory k R
refused_for_memory (EndOfData h) Q R f q = absurd (f tt q)
refused_for_memory (MissingFeature w) Q R f q = absurd (f tt q)
refused_for_memory OutOfMemory Q R f q = tt
refused_for_memory Failed Q R f q = absurd (f tt q)
refused_for_memory Other Q R f q = absurd (f tt q)
