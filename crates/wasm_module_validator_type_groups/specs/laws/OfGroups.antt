-- The types of a group are valid where those of its tree are, and only there.
use Rattle.std.proofs.Common.{◌≡◌, ◌∙◌, ◌↔◌, ℕ, zero, suc, ◌+◌, ◌<◌, ◌≤◌, List, length, ap, sym, subst, Option, Some, arith}
use Rattle.std.specs.Prelude.{slice_get, unwrap_or}
use Rattle.wasm_types.specs.settings.Settings.{Settings}
use Rattle.wasm_types.specs.trees.Trees.{GroupTree, TypeTree}
use Rattle.wasm_types.specs.trees.ValidGroup.{IsValidType, AreValidTypes, types_from}
use Rattle.wasm_module_validator_type_storage.specs.trees.Groups.{Group, count, tree_of, tree_behind, group_at, group_ranges}
use Rattle.wasm_module_validator_type_storage.specs.trees.Formed.{IsFormed, AreCanonical}
use Rattle.wasm_module_validator_type_storage.specs.trees.laws.GroupIds.{group_ids}
use Rattle.wasm_module_validator_type_groups.specs.ValidTypes.{IsTypeValid, AreTypesValid}
use Rattle.wasm_module_validator_type_groups.specs.laws.ByTrees.{type_valid}

module _ (groups : List Group) (formed : IsFormed groups) (c : AreCanonical groups) (z : Settings) (tree : GroupTree) (first : ℕ) where
  pub types_valid : (n place : ℕ) → first + (place + n) ≤ count groups → ((p : ℕ) → p < place + n → tree_of groups (first + p) ≡ record { group = tree; place = p })
      → AreTypesValid groups z.features z.limits.subtyping_depth (first + place) n ↔ AreValidTypes z (types_from tree place n)
  unfolding types_from
  types_valid zero place le at = (λ h. tt, λ h. tt)
  types_valid (suc n) place le at =
      let own = subst (λ (t : TypeTree). IsTypeValid groups z.features z.limits.subtyping_depth (record { 0 = first + place }) ↔ IsValidType z t) (at place (omega arith))
      (type_valid groups formed c (record { 0 = first + place }) (omega arith) z) in
      let rest = types_valid n (suc place) (omega arith) (λ p lt. at p (omega arith)) in
      let next = subst (λ (m : ℕ). AreTypesValid groups z.features z.limits.subtyping_depth m n ↔ AreValidTypes z (types_from tree (suc place) n)) (omega arith) rest in
      (λ h. (own.0 h.0, next.0 h.1), λ h. (own.1 h.0, next.1 h.1))

pub group_valid : (groups : List Group) → IsFormed groups → AreCanonical groups → (z : Settings) (k : ℕ) (g : Group) (first end : ℕ) → group_at groups k ≡ Some g
    → slice_get (group_ranges groups) k ≡ Some (first, end)
    → AreTypesValid groups z.features z.limits.subtyping_depth first (length g.types) ↔ AreValidTypes z (types_from (tree_behind groups g) 0 (length g.types))
group_valid groups formed c z k g first end at ids =
    let u = group_ids groups formed c k g at in
    let pair : Some (u.first, u.first + length g.types) ≡ Some (first, end) = sym u.ids ∙ ids in
    let same : u.first ≡ first = ap (λ (o : Option (ℕ × ℕ)). (unwrap_or o (0, 0)).0) pair in
    subst (λ (m : ℕ). AreTypesValid groups z.features z.limits.subtyping_depth m (length g.types) ↔ AreValidTypes z (types_from (tree_behind groups g) 0 (length g.types)))
    (let s = same in omega arith)
    (types_valid groups formed c z (tree_behind groups g) u.first (length g.types) 0 (let kn = u.known in omega arith) (λ p lt. u.types p (omega arith)))
