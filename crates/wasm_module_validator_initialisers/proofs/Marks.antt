-- Functions that are marked one after the other.
use Rattle.std.proofs.Common.{◌≡◌, ℕ, List, [], ◌∷◌, ◌++◌, refl, ap}
use Rattle.wasm_module_validator_state.specs.Adding.{referring}
use Rattle.wasm_module_validator_state.specs.Items.{Items}
use Rattle.wasm_module_validator_resources.specs.Named.{IsReadOver}
use Rattle.wasm_module_validator_type_storage.specs.trees.Groups.{Group}
use Rattle.wasm_module_validator_state.specs.invariant.Standing.{marking}

-- one more behind others
pub marked_more : (xs : List ℕ) (x : ℕ) (s : Items) → record s { spaces = referring x (marking xs s.spaces) } ≡ record s { spaces = marking (xs ++ x ∷ []) s.spaces }
marked_more [] x s = refl
marked_more (y ∷ xs) x s = ap (λ (t : Items). record s { spaces = t.spaces }) (marked_more xs x (record s { spaces = referring y s.spaces }))

-- the module was still read over its list
pub marked_over : (groups : List Group) (xs : List ℕ) (s : Items) → IsReadOver groups s.spaces → IsReadOver groups (marking xs s.spaces)
marked_over groups xs s h = record { checked = h.checked; known = h.known; tags = h.tags }
