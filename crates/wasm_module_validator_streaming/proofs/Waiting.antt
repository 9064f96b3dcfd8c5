-- Bytes that hold no whole item.
use Rattle.std.proofs.Common.{◌≡◌, ◌<◌, ◌≤◌, ◌+◌, ℕ, suc, List, [], ◌∷◌, ◌++◌, length, get_or, refl, sym, subst, arith, append_assoc, append-nil, length-append}
use Rattle.wasm_sections_parser.specs.runs.hints.Hints.{AreBytes}
use Rattle.wasm_module_validator_streaming.specs.Taking.{IsPending, WaitsFor}

-- ---- bytes

pub are_bytes : (xs : List ℕ) → ((i : ℕ) → get_or xs i 0 < 256) → AreBytes xs
are_bytes [] h = tt
are_bytes (x ∷ xs) h = (h 0, are_bytes xs (λ i. h (suc i)))

bytes_joined : (xs ys : List ℕ) → AreBytes xs → AreBytes ys → AreBytes (xs ++ ys)
bytes_joined [] ys h k = k
bytes_joined (x ∷ xs) ys h k = (h.0, bytes_joined xs ys h.1 k)

-- ---- what is pending

module _ {S : Type 0} (waits : S → List ℕ → Type 0) where
  -- behind what was asked for
  pub pending_of : (k : ℕ) (rest : List ℕ) (now : S) → WaitsFor waits k rest now → (needed : ℕ) → needed ≤ length rest + k → IsPending waits needed rest now
  pending_of k rest now w needed most = record {
    here = subst (waits now) (append-nil rest) (w.1 [] tt w.0);
    later = λ more bytes few. w.1 more bytes (let all = length-append rest more in omega (arith, all, few, most));
  }

  -- of no bytes
  pub none_pending : (rest : List ℕ) (now : S) → rest ≡ [] → waits now [] → IsPending waits 1 rest now
  none_pending rest now none here = subst (λ (l : List ℕ). IsPending waits 1 l now) (sym none) (record { here = here; later = λ more bytes few. subst (waits now) (sym (nothing more few)) here })
    where
      nothing : (more : List ℕ) → length more < 1 → more ≡ []
      nothing [] few = refl
      nothing (x ∷ xs) few = absurd (omega (arith, few))

  -- with a piece more, where there are still fewer bytes than are needed
  pub still_pending : (needed : ℕ) (rest piece : List ℕ) (now : S) → IsPending waits needed rest now → AreBytes piece
      → (all : List ℕ) → all ≡ rest ++ piece → length all < needed → IsPending waits needed all now
  still_pending needed rest piece now h bytes all whole few = subst (λ (l : List ℕ). IsPending waits needed l now) (sym whole) (record {
    here = h.later piece bytes (subst (λ (l : List ℕ). length l < needed) whole few);
    later = λ more others less. subst (waits now) (sym (append_assoc rest piece more))
        (h.later (piece ++ more) (bytes_joined piece more bytes others) (subst (λ (l : List ℕ). length l < needed) (append_assoc rest piece more) less));
  })
