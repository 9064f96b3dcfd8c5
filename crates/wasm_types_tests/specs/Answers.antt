-- What an answer tells of a fact, of each kind of refusal: a yes and a no. A fact that holds is `Unit`, and one that does not is `⊥`.
use Rattle.std.specs.Prelude.{ℕ, [], Ok, Err}
use Rattle.wasm_types.specs.settings.declared.WasmFeatures.{WasmFeatures}
use Rattle.wasm_types.specs.decoding.ErrorValue.{ErrorValue}
use Rattle.wasm_types.specs.decoding.declared.error.ErrorKind.{ErrorKind}
use Rattle.wasm_types.specs.decoding.declared.error.ErrorKind.TheVariants.{EndOfData, MissingFeature, OutOfMemory, Failed, Other}
use Rattle.wasm_types.specs.decoding.Denials.{Denies, Tells, UnlessMemory, RefusedAt}

-- a refusal of this kind at offset 7
abbrev pub at_seven : ErrorKind → ErrorValue
at_seven k = record { kind = k; offset = 7; message = [] }

-- A refusal denies a fact, unless memory ran out.
pub record DenialRows (f : WasmFeatures) : Type 0 where
  pub end_of_data : Denies (EndOfData 1) ⊥
  pub end_of_data_not : Denies (EndOfData 1) (Unit {0}) → ⊥
  pub feature : Denies (MissingFeature f) ⊥
  pub feature_not : Denies (MissingFeature f) (Unit {0}) → ⊥
  pub memory : Denies OutOfMemory (Unit {0})
  pub failed : Denies Failed ⊥
  pub failed_not : Denies Failed (Unit {0}) → ⊥
  pub other : Denies Other ⊥
  pub other_not : Denies Other (Unit {0}) → ⊥

-- An answer that is Ok tells that the fact holds, and a refusal that it does not.
pub record TellingRows : Type 0 where
  pub holds : Tells {X = ℕ} (Ok 3) (Unit {0})
  pub holds_not : Tells {X = ℕ} (Ok 3) ⊥ → ⊥
  pub refused : Tells {X = ℕ} (Err (at_seven Other)) ⊥
  pub refused_not : Tells {X = ℕ} (Err (at_seven Other)) (Unit {0}) → ⊥
  pub memory : Tells {X = ℕ} (Err (at_seven OutOfMemory)) (Unit {0})

-- What a refusal promises besides: nothing, where memory ran out.
pub record RefusalRows (f : WasmFeatures) : Type 0 where
  pub end_of_data : UnlessMemory (EndOfData 1) ⊥ → ⊥
  pub feature : UnlessMemory (MissingFeature f) ⊥ → ⊥
  pub memory : UnlessMemory OutOfMemory ⊥
  pub failed : UnlessMemory Failed ⊥ → ⊥
  pub other : UnlessMemory Other (Unit {0})
  pub other_not : UnlessMemory Other ⊥ → ⊥
  pub at : RefusedAt {X = ℕ} 7 (Err (at_seven Other))
  pub elsewhere : RefusedAt {X = ℕ} 8 (Err (at_seven Other)) → ⊥
  pub anywhere : RefusedAt {X = ℕ} 8 (Err (at_seven OutOfMemory))
  pub done : RefusedAt {X = ℕ} 8 (Ok 3)
