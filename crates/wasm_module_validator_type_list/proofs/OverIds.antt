-- Types over ids.
use Rattle.std.proofs.Common.{◌≡◌, ◌∙◌, ℕ, zero, suc, ◌+◌, ◌<◌, ◌≤◌, Bool, List, [], ◌∷◌, ◌++◌, length, map, take, get_or, refl, ap, sym, subst, Option, Result, Ok, Err, arith}
use Rattle.std.proofs.lemmas.Bool.{lt-ltb}
use Rattle.std.proofs.lemmas.List.{map-append}
use Rattle.wasm_types.specs.trees.declared.index.UnpackedIndex.{UnpackedIndex}
use Rattle.wasm_types.specs.trees.declared.index.UnpackedIndex.TheVariants.{Module, RecGroup, Id}
use Rattle.wasm_types.specs.trees.Types.{entry_map}
use Rattle.wasm_types.specs.trees.Each.{EachOption}
use Rattle.wasm_types.specs.trees.laws.Types.{each_entry, entry_agrees}
use Rattle.wasm_types.specs.values.Remap.{AreAnswered, IsWalked, Remapped}
use Rattle.wasm_types.specs.declared.sub_type.SubType.{SubType}
use Rattle.wasm_types.specs.Entries.{Declared, first_of, declared_of, composite_of}
use Rattle.wasm_types.specs.Remap.{declared_shape, declared_indices, declared_map}
use Rattle.wasm_types.specs.IndexLaws.{mapped_declared}
use Rattle.wasm_module_validator_type_storage.specs.trees.Groups.{by_id}
use Rattle.wasm_module_validator_type_storage.specs.trees.Formed.{IsIndexWithin, IsTypeFormed, AreTypesFormed}
use Rattle.wasm_module_validator_type_list.specs.Stored.{packed_by_id}

-- ---- indices that a total function replaces

module _ {R E : Type 0} (answers : R → Result R E → Type 0) (m : R → R) (only : (i : R) (r : Result R E) → answers i r → r ≡ Ok (m i)) where
  all_answered : (before after : List R) → AreAnswered answers before after → after ≡ map m before
  all_answered [] [] w = refl
  all_answered [] (j ∷ after) w = absurd w
  all_answered (i ∷ before) [] w = absurd w
  all_answered (i ∷ before) (j ∷ after) w =
      let a : Ok j ≡ Ok (m i) = only i (Ok j) w.0 in
      let b = all_answered before after w.1 in
      cc

  pub walked : {U : Type 0} (result : Result U E) (before after : List R) → IsWalked answers result before after → after ≡ map m before
  walked (Ok u) before after w = all_answered before after w
  walked (Err e) before after w = let a : Err e ≡ Ok (m w.refused) = only w.refused (Err e) w.refusal in absurd cc

pub remapped_type : {E U : Type 0} (answers : UnpackedIndex → Result UnpackedIndex E → Type 0) (m : UnpackedIndex → UnpackedIndex)
    → (result : Result U E) (x y : SubType) → Remapped declared_shape declared_indices answers result (declared_of x) (declared_of y)
    → ((i : UnpackedIndex) (r : Result UnpackedIndex E) → answers i r → r ≡ Ok (m i))
    → declared_of y ≡ declared_map m (declared_of x)
remapped_type answers m result x y w only =
    mapped_declared m x.is_final y.is_final x.supertype_idxs.items y.supertype_idxs.items (composite_of x.composite_type) (composite_of y.composite_type) w.same
    (walked answers m only result (declared_indices (declared_of x)) (declared_indices (declared_of y)) w.walked)

-- ---- where all ids fit

module _ (canonical : Bool) (start places : ℕ) (small : start + places ≤ 0x10_0000) where
  index_fits : (i : UnpackedIndex) → IsIndexWithin canonical start places i → packed_by_id start i ≡ by_id start i
  index_fits (Module n) w = refl
  index_fits (RecGroup p) w = rw (lt-ltb (start + p) 0x10_0000 (omega arith)) refl
  index_fits (Id i) w = refl

  supertypes_fit : (o : Option UnpackedIndex) (is : List UnpackedIndex) → length is ≤ 1 → o ≡ first_of is → EachOption (IsIndexWithin canonical start places) o
      → map (packed_by_id start) is ≡ map (by_id start) is
  supertypes_fit o [] one e w = refl
  supertypes_fit o (i ∷ []) one e w =
      let v : IsIndexWithin canonical start places i = subst (EachOption (IsIndexWithin canonical start places)) e w in
      let a = index_fits i v in
      cc
  supertypes_fit o (i ∷ j ∷ is) one e w = absurd (omega arith)

  type_fits : (own : ℕ) (d : Declared) → IsTypeFormed canonical start places own d → declared_map (packed_by_id start) d ≡ declared_map (by_id start) d
  type_fits own d w =
      let a : entry_map (packed_by_id start) d.entry ≡ entry_map (by_id start) d.entry =
      entry_agrees (packed_by_id start) (by_id start) d.entry
      (each_entry (IsIndexWithin canonical start places) (λ i. packed_by_id start i ≡ by_id start i) index_fits d.entry w.within) in
      let b = supertypes_fit d.entry.supertype d.supertypes w.one w.first w.within.supertype in
      λ i. record { supertypes = b i; entry = a i }

  pub types_fit : (own : ℕ) (ds : List Declared) → AreTypesFormed canonical start places own ds → map (declared_map (packed_by_id start)) ds ≡ map (declared_map (by_id start)) ds
  types_fit own [] w = refl
  types_fit own (d ∷ ds) w = let a = type_fits own d w.0 in let b = types_fit (suc own) ds w.1 in cc

-- ---- one more type

take_suc : {A : Type 0} (xs : List A) (i : ℕ) (x : A) → i < length xs → x ≡ get_or xs i x → take (suc i) xs ≡ take i xs ++ x ∷ []
take_suc [] i x lt e = absurd (omega arith)
take_suc (y ∷ ys) zero x lt e = ap (λ z. z ∷ []) (sym e)
take_suc (y ∷ ys) (suc i) x lt e = ap (λ zs. y ∷ zs) (take_suc ys i x (omega arith) e)

-- what is made of the first items, with one more
pub one_more : {A B C : Type 0} (f : A → C) (h : B → C) (xs : List A) (i : ℕ) (x : A) (before now : List B) (y : B) → i < length xs → x ≡ get_or xs i x
    → map h before ≡ map f (take i xs) → now ≡ before ++ y ∷ [] → h y ≡ f x → map h now ≡ map f (take (i + 1) xs)
one_more f h xs i x before now y lt is old e same =
    ap (map h) e ∙ map-append h before (y ∷ []) ∙ ap (λ l. l ++ h y ∷ []) old ∙ ap (λ z. map f (take i xs) ++ z ∷ []) same
    ∙ sym (map-append f (take i xs) (x ∷ [])) ∙ ap (map f) (sym (take_suc xs i x lt is)) ∙ ap (λ (n : ℕ). map f (take n xs)) {x = suc i} {y = i + 1} (omega arith)

map_twice : {A B C : Type 0} (f : B → C) (h : A → B) (xs : List A) → map f (map h xs) ≡ map (λ x. f (h x)) xs
map_twice f h [] = refl
map_twice f h (x ∷ xs) = ap (λ l. f (h x) ∷ l) (map_twice f h xs)

pub one_more_of : {A B C D : Type 0} (f : D → C) (k : A → D) (h : B → C) (xs : List A) (i : ℕ) (x : A) (before now : List B) (y : B) → i < length xs → x ≡ get_or xs i x
    → map h before ≡ map f (map k (take i xs)) → now ≡ before ++ y ∷ [] → h y ≡ f (k x) → map h now ≡ map f (map k (take (i + 1) xs))
one_more_of f k h xs i x before now y lt is old e same =
    one_more (λ a. f (k a)) h xs i x before now y lt is (old ∙ map_twice f k (take i xs)) e same ∙ sym (map_twice f k (take (i + 1) xs))
