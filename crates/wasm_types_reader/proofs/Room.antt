-- Which readings of lists may take memory.
use Rattle.std.proofs.Common.{◌≡◌, ℕ, zero, suc, ◌<◌, refl, sym, ap, ◌∙◌, arith, Bool, true, false, Err, Result}
use Rattle.wasm_types_decoding.specs.Decoder.{State, Done, Decoder}
use Rattle.wasm_types_decoding.specs.ErrorValue.{ErrorValue}
use Rattle.wasm_types_reader.specs.Reading.{NeedsNoMemory, MemoryOnlyIf, takes_room, is_read}

-- what needs no memory at all needs none here
pub needs_none : (X Y : Type 0) (b : Bool) (e : ErrorValue) → NeedsNoMemory {X = X} (Err e) → MemoryOnlyIf {X = Y} b (Err e)
needs_none X Y true e h = tt
needs_none X Y false e h = h

pub may : (X : Type 0) (b : Bool) (result : Result X ErrorValue) → b ≡ true → MemoryOnlyIf b result
may X true result is = tt
may X false result is = cc

module _ {Y : Type 0} (d : Decoder Y) (n : ℕ) (s : State) where
  -- one of n values is refused
  pub refused_room : (X Z : Type 0) (b : Bool) (e : ErrorValue) (i : ℕ) → i < n → MemoryOnlyIf {X = X} b (Err e) → MemoryOnlyIf {X = Z} (takes_room b d n s) (Err e)
  refused_room X Z b e i lt h = refused n b lt h
    where
      refused : (m : ℕ) (c : Bool) → i < m → MemoryOnlyIf {X = X} c (Err e) → MemoryOnlyIf {X = Z} (takes_room c d m s) (Err e)
      refused zero c l k = absurd (omega (arith, l))
      refused (suc m) true l k = tt
      refused (suc m) false l k = needs_none X Z (is_read (d s)) e k

  -- the first of n values was read
  pub first_room : (b : Bool) (i : ℕ) (x : Y) (t : State) → i < n → d s ≡ Done x t → takes_room b d n s ≡ true
  first_room b i x t lt e = read n b lt
    where
      read : (m : ℕ) (c : Bool) → i < m → takes_room c d m s ≡ true
      read zero c l = absurd (omega (arith, l))
      read (suc m) true l = refl
      read (suc m) false l = ap is_read e

  -- value i of n was read, from u
  pub kept_room : (b : Bool) (i : ℕ) (u : State) (x : Y) (t : State) → i < n → (i ≡ 0 → u ≡ s) → (0 < i → takes_room b d n s ≡ true) → d u ≡ Done x t → takes_room b d n s ≡ true
  kept_room b zero u x t lt first kept e = first_room b 0 x t lt (ap d (sym (first refl)) ∙ e)
  kept_room b (suc i) u x t lt first kept e = kept (omega arith)
