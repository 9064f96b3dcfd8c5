-- What holds of some type of a chain of declared supertypes, and of all of them.
use Rattle.std.proofs.Common.{◌≡◌, List, sym, subst, Some, None}
use Rattle.wasm_types.specs.trees.declared.index.CoreTypeId.{CoreTypeId}
use Rattle.wasm_module_validator_type_storage.specs.trees.Groups.{Group}
use Rattle.wasm_module_validator_type_storage.specs.trees.ByIds.{supertype_of, IdBelow, itself, declared}
use Rattle.wasm_module_validator_type_list.proofs.Finding.{below_none, below_next}

module _ {groups : List Group} (P : CoreTypeId → Type 0) where
  -- of some: further up, where it does not hold here
  pub some_next : (a b j : CoreTypeId) → IdBelow groups a j → P j → supertype_of groups a ≡ Some b → (P a → ⊥) → IdBelow groups b j
  some_next a b j below p e fails = below_next below b e (λ same. fails (subst P (sym same) p))

  -- of none, where it holds neither here nor is there anything above
  pub some_none : (a j : CoreTypeId) → IdBelow groups a j → P j → supertype_of groups a ≡ None → (P a → ⊥) → ⊥
  some_none a j below p e fails = below_none below e (λ same. fails (subst P (sym same) p))

  -- of all: here, and of all above
  pub all_next : (a b : CoreTypeId) → supertype_of groups a ≡ Some b → P a → ((j : CoreTypeId) → IdBelow groups b j → P j) → (j : CoreTypeId) → IdBelow groups a j → P j
  all_next a b e p rest j itself = p
  all_next a b e p rest j (declared {b = d} h r) = let f : d ≡ b = cc in rest j (subst (λ (x : CoreTypeId). IdBelow groups x j) f r)

  pub all_none : (a : CoreTypeId) → supertype_of groups a ≡ None → P a → (j : CoreTypeId) → IdBelow groups a j → P j
  all_none a e p j itself = p
  all_none a e p j (declared h r) = absurd cc
