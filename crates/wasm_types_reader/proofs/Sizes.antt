-- A number with a limit, and a part that is counted.
use Rattle.std.proofs.Common.{◌≡◌, ℕ, ◌<◌, ◌≤◌, List, refl, lt-ltb, le-ltb, ltb, true, false}
use Rattle.wasm_types_decoding.specs.declared.Refusal.TheVariants.{Other}
use Rattle.wasm_types_decoding.specs.Decoder.{State, Done, Fault, bytes}
use Rattle.wasm_types_decoding.specs.Leb.{u32}
use Rattle.wasm_types_decoding.specs.Lists.{at_most_or, size_within}
use Rattle.wasm_types_decoding.specs.declared.error.ErrorKind.{ErrorKind}
use Rattle.wasm_types_reader.specs.Reading.{FailsAt}
use Rattle.wasm_types_reader.specs.ReadingLaws.{fails_then}
use Rattle.wasm_types_reader.specs.Parts.{part_at, next_part, counted_part}

module _ (limit : ℕ) (s : State) where
  pub size_fails : (k : ErrorKind) (p : ℕ) → FailsAt k p (u32 s) → FailsAt k p (size_within limit s)
  unfolding size_within
  size_fails k p h = fails_then (u32 s) (at_most_or limit s.place) k p h

  module _ (n : ℕ) (t : State) (e : u32 s ≡ Done n t) where
    pub size_small : n ≤ limit → size_within limit s ≡ Done n t
    unfolding size_within
    size_small le = let c : ltb limit n ≡ false = le-ltb _ _ le in rw (e, c) refl

    pub size_large : limit < n → size_within limit s ≡ Fault Other s.place
    unfolding size_within
    size_large lt = let c : ltb limit n ≡ true = lt-ltb _ _ lt in rw (e, c) refl

module _ (s : State) where
  pub part_fails : (k : ErrorKind) (p : ℕ) → FailsAt k p (u32 s) → FailsAt k p (counted_part s)
  unfolding counted_part
  part_fails k p h = fails_then (u32 s) next_part k p h

  module _ (n : ℕ) (t : State) (e : u32 s ≡ Done n t) where
    pub part_ends : (k : ErrorKind) (p : ℕ) → FailsAt k p (bytes n t) → FailsAt k p (counted_part s)
    unfolding counted_part
    part_ends k p h = rw e (fails_then (bytes n t) (λ text u. Done (part_at t text) u) k p h)

    pub part_done : (text : List ℕ) (u : State) → bytes n t ≡ Done text u → counted_part s ≡ Done (part_at t text) u
    unfolding counted_part
    part_done text u b = rw (e, b) refl
