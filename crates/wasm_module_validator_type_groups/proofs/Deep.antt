-- How many types are declared above one another, by the list of supertypes.
use Rattle.std.proofs.Common.{◌≡◌, ◌∙◌, ℕ, zero, suc, ◌<◌, List, [], ◌∷◌, get_or, sym, subst, Option, Some, None, arith}
use Rattle.std.specs.Prelude.{slice_get}
use Rattle.std.proofs.lemmas.Option.{none-some, same_Some}
use Rattle.wasm_types.specs.trees.declared.index.CoreTypeId.{CoreTypeId}
use Rattle.wasm_module_validator_type_storage.specs.trees.Groups.{Group, supertype_ids}
use Rattle.wasm_module_validator_type_storage.specs.trees.ByIds.{supertype_of}
use Rattle.wasm_module_validator_type_storage.specs.displays.Chains.{HasDepth, top, below}
use Rattle.wasm_module_validator_type_groups.specs.ValidTypes.{IsDepthWithin}

read : (l : List (Option CoreTypeId)) (i : ℕ) (o : Option CoreTypeId) → slice_get l i ≡ Some o → get_or l i None ≡ o
read [] i o e = absurd (none-some o e)
read (x ∷ l) zero o e = same_Some x o e
read (x ∷ l) (suc i) o e = read l i o e

module _ (groups : List Group) where
  pub depth_within : (u : CoreTypeId) (k n : ℕ) → HasDepth (supertype_ids groups) u k → (k < n → IsDepthWithin groups n (Some u)) × (IsDepthWithin groups n (Some u) → k < n)
  depth_within u k zero h = (λ lt. absurd (omega arith), λ w. absurd w)
  depth_within u zero (suc n) (top e) =
      let none : supertype_of groups u ≡ None = read (supertype_ids groups) u.0 None e in
      (λ lt. subst (λ (o : Option CoreTypeId). IsDepthWithin groups n o) (sym none) tt, λ w. omega arith)
  depth_within u (suc k) (suc n) (below {b = p} e h) =
      let up : supertype_of groups u ≡ Some p = read (supertype_ids groups) u.0 (Some p) e in
      let above = depth_within p k n h in (
        λ lt. subst (λ (o : Option CoreTypeId). IsDepthWithin groups n o) (sym up) (above.0 (omega arith)),
        λ w. let less = above.1 (subst (λ (o : Option CoreTypeId). IsDepthWithin groups n o) up w) in omega arith,
      )
