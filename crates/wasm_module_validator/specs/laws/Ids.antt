-- An id means the same type for as long as the list of a validator grows.
use Rattle.std.proofs.Common.{◌≡◌, ◌∙◌, ◌+◌, ◌<◌, ◌≤◌, ◌++◌, ℕ, List, [], ◌∷◌, ap, refl, sym, subst, arith}
use Rattle.wasm_module_validator_type_storage.specs.trees.Groups.{Group, count, tree_of}
use Rattle.wasm_module_validator_type_storage.specs.trees.laws.Unrolled.{tree_old, count_push}
use Rattle.wasm_module_validator_drivers.specs.state.invariant.Standing.{IsGrown}

counts_on : (more old : List Group) → count old ≤ count (more ++ old)
counts_on [] old = omega arith
counts_on (g ∷ gs) old = let k = count_push g (gs ++ old) in let h = counts_on gs old in omega (arith, k, h)

pub counts_stay : (old new : List Group) → IsGrown old new → count old ≤ count new
counts_stay old new (more, e) = subst (λ gs. count old ≤ count gs) (sym e) (counts_on more old)

still : (more old : List Group) (id : ℕ) → id < count old → tree_of (more ++ old) id ≡ tree_of old id
still [] old id h = refl
still (g ∷ gs) old id h = let k = counts_on gs old in tree_old g (gs ++ old) id (omega (arith, k, h)) ∙ still gs old id h

pub ids_stay : (old new : List Group) → IsGrown old new → (id : ℕ) → id < count old → tree_of new id ≡ tree_of old id
ids_stay old new (more, e) id h = ap (λ gs. tree_of gs id) e ∙ still more old id h
