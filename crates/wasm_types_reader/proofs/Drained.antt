-- Values that nobody wants, as a loop reads them.
use Rattle.std.proofs.Common.{◌≡◌, ℕ, suc, ◌+◌, ◌-◌, ◌<◌, refl, arith, inl, inr, Bool, true, false, Err}
use Rattle.wasm_types_decoding.specs.Decoder.{State, Done, Decoder}
use Rattle.wasm_types_decoding.specs.ErrorValue.{ErrorValue}
use Rattle.wasm_types_reader.specs.Reading.{Fails, MemoryOnlyIf}
use Rattle.wasm_types_reader.specs.Draining.{Drains}

-- a refusal is of no type
refused_as : (X Y : Type 0) (b : Bool) (e : ErrorValue) → MemoryOnlyIf {X = X} b (Err e) → MemoryOnlyIf {X = Y} b (Err e)
refused_as X Y true e h = tt
refused_as X Y false e h = h

module _ {Y : Type 0} (d : Decoder Y) (b : Bool) where
  pub drains_none : (s : State) → Drains d b 0 s s
  unfolding Drains
  drains_none s = refl

  module _ (n i : ℕ) (lt : i < n) (s : State) where
    pub drains_more : (x : Y) (m : State) → d s ≡ Done x m → (t : State) → Drains d b (n - (i + 1)) m t → Drains d b (n - i) s t
    unfolding Drains
    drains_more x m e t h = let k : n - i ≡ suc (n - (i + 1)) = omega arith in rw k (inl (x, m, e, h))

    pub drains_ends : (X : Type 0) (e : ErrorValue) → Fails e (d s) → MemoryOnlyIf {X = X} b (Err e) → Drains d b (n - i) s s
    unfolding Drains
    drains_ends X e h memory = let k : n - i ≡ suc (n - (i + 1)) = omega arith in rw k (inr (e, h, refused_as X Y b e memory, refl))
