-- The types of ids one after the other, checked from an id on.
use Rattle.std.proofs.Common.{◌≡◌, ◌↔◌, ℕ, suc, ◌+◌, ◌-◌, ◌<◌, List, ap, sym, subst, arith}
use Rattle.wasm_types.specs.trees.declared.index.CoreTypeId.{CoreTypeId}
use Rattle.wasm_module_validator_type_storage.specs.trees.Groups.{Group}
use Rattle.wasm_module_validator_type_groups.specs.ValidTypes.{IsTypeValid, AreTypesValid}

module _ (groups : List Group) (bits most end : ℕ) where
  next_type : (n : ℕ) → n < end
      → AreTypesValid groups bits most n (end - n) ↔ (IsTypeValid groups bits most (record { 0 = n }) × AreTypesValid groups bits most (n + 1) (end - (n + 1)))
  next_type n lt =
      let left : suc (end - (n + 1)) ≡ end - n = omega arith in
      let next : suc n ≡ n + 1 = omega arith in
      subst (λ (k : ℕ). AreTypesValid groups bits most n k ↔ (IsTypeValid groups bits most (record { 0 = n }) × AreTypesValid groups bits most (n + 1) (end - (n + 1)))) left
      (subst (λ (m : ℕ). AreTypesValid groups bits most n (suc (end - (n + 1))) ↔ (IsTypeValid groups bits most (record { 0 = n }) × AreTypesValid groups bits most m (end - (n + 1)))) next
      (λ h. h, λ h. h))

  -- the type of an id is checked by its number
  pub next_id : (n : ℕ) (id : CoreTypeId) → n < end → id.0 ≡ n
      → AreTypesValid groups bits most n (end - n) ↔ (IsTypeValid groups bits most id × AreTypesValid groups bits most (n + 1) (end - (n + 1)))
  next_id n id lt e =
      let same : record { 0 = n } ≡ id = ap (λ (m : ℕ). record { 0 = m }) (sym e) in
      subst (λ (i : CoreTypeId). AreTypesValid groups bits most n (end - n) ↔ (IsTypeValid groups bits most i × AreTypesValid groups bits most (n + 1) (end - (n + 1)))) same
      (next_type n lt)
