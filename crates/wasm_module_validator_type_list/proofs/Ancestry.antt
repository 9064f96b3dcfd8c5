-- Chains of declared supertypes, by groups and by the list of supertypes.
use Rattle.std.proofs.Common.{◌≡◌, ◌∙◌, ℕ, zero, suc, List, [], ◌∷◌, length, get_or, refl, ap, sym, subst, Option, Some, None, Bool, ◌↔◌, arith}
use Rattle.std.specs.Prelude.{slice_get, IsTrue, IsSome, IfSome}
use Rattle.std.proofs.lemmas.Option.{none-some, same_Some}
use Rattle.wasm_types.specs.trees.declared.index.CoreTypeId.{CoreTypeId}
use Rattle.wasm_module_validator_type_storage.specs.trees.Groups.{Group, supertype_ids}
use Rattle.wasm_module_validator_type_storage.specs.trees.ByIds.{supertype_of, IdBelow, itself, declared}
use Rattle.wasm_module_validator_type_storage.specs.displays.Chains.{IsUnder, HasDepth}
use Rattle.wasm_module_validator_type_storage.specs.displays.Chains as chain
use Rattle.wasm_module_validator_type_storage.specs.displays.Entries.{AreEarlier, IsShallow}
use Rattle.wasm_module_validator_type_storage.specs.trees.Formed.{IsFormed}
use Rattle.wasm_module_validator_type_storage.proofs.Places.{slice_get_within}
use Rattle.wasm_module_validator_type_list.proofs.Parts.{length_supers}
use Rattle.wasm_module_validator_type_list.proofs.Finding.{earlier_read}

pub there : (l : List (Option CoreTypeId)) (i : ℕ) (b : CoreTypeId) → get_or l i None ≡ Some b → slice_get l i ≡ Some (Some b)
there [] i b e = absurd (none-some b e)
there (x ∷ l) zero b e = ap (λ (o : Option CoreTypeId). Some o) e
there (x ∷ l) (suc i) b e = there l i b e

read : (l : List (Option CoreTypeId)) (i : ℕ) (b : CoreTypeId) → slice_get l i ≡ Some (Some b) → get_or l i None ≡ Some b
read [] i b e = absurd (none-some (Some b) e)
read (x ∷ l) zero b e = same_Some x (Some b) e
read (x ∷ l) (suc i) b e = read l i b e

module _ (groups : List Group) where
  pub as_chain : (a b : CoreTypeId) → IdBelow groups a b → IsUnder (supertype_ids groups) a b
  as_chain a b itself = chain.itself
  as_chain a b (declared {b = p} e r) = chain.declared {b = p} (there (supertype_ids groups) a.0 p e) (as_chain p b r)

  pub by_groups : (a b : CoreTypeId) → IsUnder (supertype_ids groups) a b → IdBelow groups a b
  by_groups a b chain.itself = itself
  by_groups a b (chain.declared {b = p} e r) = declared {b = p} (read (supertype_ids groups) a.0 p e) (by_groups p b r)

  pub told : (l : List (Option CoreTypeId)) (a b : CoreTypeId) (o : Option Bool) → l ≡ supertype_ids groups → IfSome o (λ is. IsTrue is ↔ IsUnder l a b)
      → IfSome o (λ is. IsTrue is ↔ IdBelow groups a b)
  told l a b None e h = tt
  told l a b (Some is) e h =
      let f = subst (λ (m : List (Option CoreTypeId)). IsTrue is ↔ IsUnder m a b) e h in
      (λ t. by_groups a b (f.0 t), λ u. f.1 (as_chain a b u))

pub depth_told : (l m : List (Option CoreTypeId)) (a : CoreTypeId) (o : Option ℕ) → l ≡ m → IfSome o (HasDepth l a) → IfSome o (HasDepth m a)
depth_told l m a o e h = subst (λ (x : List (Option CoreTypeId)). IfSome o (HasDepth x a)) e h

-- ---- shallow types

-- groups that are formed declare earlier supertypes alone
pub all_earlier : (groups : List Group) → IsFormed groups → AreEarlier (supertype_ids groups)
all_earlier groups formed i b e =
    let lt = slice_get_within (supertype_ids groups) i (Some b) e in
    earlier_read groups formed (record { 0 = i }) (Some b) (omega (arith, lt, length_supers groups)) (sym (read (supertype_ids groups) i b e))

module _ {A : Type 0} (groups : List Group) (l : List (Option CoreTypeId)) (is : l ≡ supertype_ids groups) (formed : IsFormed groups) (o : Option A) where
  of_list : {a : CoreTypeId} → IsShallow (supertype_ids groups) a → IsShallow l a
  of_list {a} s = subst (λ (m : List (Option CoreTypeId)). IsShallow m a) (sym is) s

  pub told_shallow : (a : CoreTypeId) → (AreEarlier l → IsShallow l a → IsSome o) → IsShallow (supertype_ids groups) a → IsSome o
  told_shallow a h s = h (subst AreEarlier (sym is) (all_earlier groups formed)) (of_list s)

  pub both_told : (a b : CoreTypeId) → (AreEarlier l → IsShallow l a → IsShallow l b → IsSome o) → IsShallow (supertype_ids groups) a → IsShallow (supertype_ids groups) b → IsSome o
  both_told a b h s t = h (subst AreEarlier (sym is) (all_earlier groups formed)) (of_list s) (of_list t)
