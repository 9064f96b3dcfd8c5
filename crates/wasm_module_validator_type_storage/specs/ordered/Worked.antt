-- Worked lists: what is sought is 5.
use Rattle.std.specs.Prelude.{ℕ, [], ◌∷◌}
use Rattle.std.specs.Ordering.{nat_cmp}
use Rattle.std.specs.declared.cmp.Ordering.{Ordering}
use Rattle.wasm_module_validator_type_storage.specs.ordered.Order.{Ascends, Misses, Finds, IsPut}

abbrev pub by_five : ℕ → Ordering
by_five n = nat_cmp n 5

pub record OrderWorked : Type 0 where
  pub none : Ascends by_five []
  pub behind : Ascends by_five (1 ∷ 4 ∷ 5 ∷ 9 ∷ [])
  -- only what stands on either side of it counts
  pub apart : Ascends by_five (4 ∷ 1 ∷ 9 ∷ 6 ∷ [])
  pub turned : ¬ Ascends by_five (6 ∷ 4 ∷ [])
  pub twice : ¬ Ascends by_five (5 ∷ 5 ∷ [])
  pub late : ¬ Ascends by_five (1 ∷ 5 ∷ 3 ∷ [])

pub record FindingWorked : Type 0 where
  pub found : Finds by_five (1 ∷ 5 ∷ 9 ∷ []) 5
  pub absent : ¬ Finds by_five (1 ∷ 9 ∷ []) 5
  pub another : ¬ Finds by_five (1 ∷ 5 ∷ 9 ∷ []) 9
  pub misses : Misses by_five (1 ∷ 9 ∷ [])
  pub misses_none : Misses by_five []
  pub has : ¬ Misses by_five (1 ∷ 5 ∷ 9 ∷ [])

pub record PuttingWorked : Type 0 where
  pub first : IsPut by_five 7 [] (7 ∷ [])
  pub between : IsPut by_five 7 (1 ∷ 9 ∷ []) (1 ∷ 7 ∷ 9 ∷ [])
  pub early : ¬ IsPut by_five 7 (1 ∷ 9 ∷ []) (7 ∷ 1 ∷ 9 ∷ [])
  pub last : ¬ IsPut by_five 7 (1 ∷ 9 ∷ []) (1 ∷ 9 ∷ 7 ∷ [])
  pub lost : ¬ IsPut by_five 7 (1 ∷ 9 ∷ []) (1 ∷ 7 ∷ [])
  pub equal : ¬ IsPut by_five 7 (5 ∷ []) (5 ∷ 7 ∷ [])
