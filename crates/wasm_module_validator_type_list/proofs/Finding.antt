-- What is found in the parts of a list of types.
use Rattle.std.proofs.Common.{◌≡◌, ◌∙◌, ℕ, zero, suc, ◌<◌, ◌≤◌, List, [], ◌∷◌, length, map, get_or, refl, ap, sym, subst, Option, Some, None, arith}
use Rattle.std.specs.Prelude.{slice_get, option_map, IfSome}
use Rattle.wasm_types.specs.trees.declared.index.CoreTypeId.{CoreTypeId}
use Rattle.wasm_module_validator_type_storage.specs.trees.Groups.{Group, count}
use Rattle.wasm_module_validator_type_storage.specs.trees.Formed.{IsFormed}
use Rattle.wasm_module_validator_type_storage.specs.trees.ByIds.{supertype_of, IdBelow, itself, declared}
use Rattle.wasm_module_validator_type_storage.specs.trees.laws.Ids.{supertype_below}

-- an item, as its view is seen
pub get_viewed : {A B : Type 0} (f : A → B) (xs : List A) (i : ℕ) → option_map f (slice_get xs i) ≡ slice_get (map f xs) i
get_viewed f [] i = refl
get_viewed f (x ∷ xs) zero = refl
get_viewed f (x ∷ xs) (suc i) = get_viewed f xs i

pub one_viewed : {A B : Type 0} (f : A → B) (xs : List A) (ys : List B) (i : ℕ) (x : A) → map f xs ≡ ys → slice_get xs i ≡ Some x → slice_get ys i ≡ Some (f x)
one_viewed f xs ys i x e at = ap (λ l. slice_get l i) (sym e) ∙ sym (get_viewed f xs i) ∙ ap (option_map f) at

-- an item that is there, with any default
pub get_default : {A : Type 0} (xs : List A) (i : ℕ) (d x : A) → slice_get xs i ≡ Some x → get_or xs i d ≡ x
get_default [] i d x e = absurd cc
get_default (y ∷ ys) zero d x e = cc
get_default (y ∷ ys) (suc i) d x e = get_default ys i d x e

-- an item that is not there lies past the end
pub none_past : {A : Type 0} (xs : List A) (i : ℕ) → None ≡ slice_get xs i → length xs ≤ i
none_past [] i e = omega arith
none_past (x ∷ xs) zero e = absurd cc
none_past (x ∷ xs) (suc i) e = let h = none_past xs i e in omega arith

-- the supertype that is read has a lower id
pub earlier_read : (groups : List Group) → IsFormed groups → (a : CoreTypeId) (o : Option CoreTypeId) → a.0 < count groups → o ≡ supertype_of groups a → IfSome o (λ b. b.0 < a.0)
earlier_read groups formed a None lt e = tt
earlier_read groups formed a (Some b) lt e = supertype_below groups formed a b lt (sym e)

-- below another id only through the supertype that it declares
pub below_none : {groups : List Group} {a b : CoreTypeId} → IdBelow groups a b → supertype_of groups a ≡ None → (a ≡ b → ⊥) → ⊥
below_none itself e apart = apart refl
below_none (declared h r) e apart = absurd cc

pub below_next : {groups : List Group} {a c : CoreTypeId} → IdBelow groups a c → (b : CoreTypeId) → supertype_of groups a ≡ Some b → (a ≡ c → ⊥) → IdBelow groups b c
below_next itself b e apart = absurd (apart refl)
below_next {groups} {a} {c} (declared {b = d} h r) b e apart =
    let f : d ≡ b = cc in subst (λ (x : CoreTypeId). IdBelow groups x c) f r
