-- Types under their ids, beside a type that is sought.
use Rattle.std.proofs.Common.{◌≡◌, ◌∙◌, ℕ, List, [], ◌∷◌, length, map, get_or, refl, ap, sym, subst, inl, inr, Option, Some, None, Result, Ok, Err, OnOk, true, arith}
use Rattle.std.specs.Prelude.{◌⊎◌, AllPairs, MatchOption, slice_get}
use Rattle.std.specs.Cmp.{IsTotalOrder}
use Rattle.std.specs.Ordering.{is_eq, ordering_reverse}
use Rattle.std.specs.declared.cmp.Ordering.{Ordering}
use Rattle.std.specs.declared.cmp.Ordering.TheVariants.{Less, Equal, Greater}
use Rattle.wasm_types.specs.declared.sub_type.SubType.{SubType}
use Rattle.wasm_types.specs.contracts.sub_type.SubTypeOrd.TheImpl as type_order
use Rattle.wasm_types.specs.contracts.sub_type.SubTypeOrd.TheImpl.Laws.{total-law, matches_eq-law}
use Rattle.wasm_types.specs.Entries.{Declared, declared_of}
use Rattle.wasm_types.specs.GroupsLaws.{SubTypesAreToldApart}
use Rattle.wasm_module_validator_type_storage.specs.ordered.Order.{Ascends, Misses, Finds}
use Rattle.wasm_module_validator_type_storage.specs.ordered.OrderLaws.{ascends_by, misses_each, misses_all}
use Rattle.wasm_module_validator_type_list.specs.Beside.{kept_beside, beside, Precedes}
use Rattle.wasm_module_validator_type_list.specs.Known.{Declares, NoneDeclares}

-- ---- the order of types

order_laws : IsTotalOrder type_order.ghosts.cmp
order_laws = total-law

is_tie : (o : Ordering) → is_eq o ≡ true → o ≡ Equal
is_tie Less e = absurd cc
is_tie Equal e = refl
is_tie Greater e = absurd cc

module _ (told : SubTypesAreToldApart) where
  tied_same : (x y : SubType) → type_order.ghosts.cmp x y ≡ Equal → declared_of x ≡ declared_of y
  tied_same x y e = (told x y).0 (matches_eq-law x y ∙ ap is_eq e)

  same_tied : (x y : SubType) → declared_of x ≡ declared_of y → type_order.ghosts.cmp x y ≡ Equal
  same_tied x y e = is_tie (type_order.ghosts.cmp x y) (sym (matches_eq-law x y) ∙ (told x y).1 e)

-- what is greater the one way is less the other
pub turned : (x y : SubType) → type_order.ghosts.cmp x y ≡ Greater → type_order.ghosts.cmp y x ≡ Less
turned x y e = order_laws.antisymm y x ∙ ap ordering_reverse e

lesser : (x y : SubType) → type_order.ghosts.cmp x y ≡ Less → type_order.ghosts.cmp y x ≡ Greater
lesser x y e = order_laws.antisymm y x ∙ ap ordering_reverse e

-- of two types in order the former is less than a third, or the latter is greater
either_side : (ty x y : SubType) (o : Ordering) → type_order.ghosts.cmp x ty ≡ o → type_order.ghosts.cmp x y ≡ Less
    → (type_order.ghosts.cmp x ty ≡ Less) ⊎ (type_order.ghosts.cmp y ty ≡ Greater)
either_side ty x y Less e less = inl e
either_side ty x y Equal e less = inr (lesser ty y (sym (order_laws.congr x ty y e) ∙ less))
either_side ty x y Greater e less = inr (lesser ty y (order_laws.trans ty x y (turned x ty e) less))

-- ---- ids in the order of their types

pub beside_kept : (types : List SubType) (ty kept : SubType) (n : ℕ) → slice_get types n ≡ Some kept → beside types ty n ≡ type_order.ghosts.cmp kept ty
beside_kept types ty kept n at = ap (kept_beside ty) at

sides : (types : List SubType) (ty : SubType) (a b : ℕ) → Precedes types a b → (beside types ty a ≡ Less) ⊎ (beside types ty b ≡ Greater)
sides types ty a b p =
    subst (λ (o : Ordering). (o ≡ Less) ⊎ (beside types ty b ≡ Greater)) (sym (beside_kept types ty p.former a p.at_a))
    (subst (λ (o : Ordering). (type_order.ghosts.cmp p.former ty ≡ Less) ⊎ (o ≡ Greater)) (sym (beside_kept types ty p.latter b p.at_b))
    (either_side ty p.former p.latter (type_order.ghosts.cmp p.former ty) refl p.less))

pub ordered_beside : (types : List SubType) (ty : SubType) (ids : List ℕ) → AllPairs (Precedes types) ids → Ascends (beside types ty) ids
ordered_beside types ty ids pairs = ascends_by (Precedes types) (beside types ty) ids pairs (λ a b has_a has_b p. sides types ty a b p)

-- ---- what is found

kept_equal : (ty : SubType) (o : Option SubType) → kept_beside ty o ≡ Equal → (kept : SubType) × (o ≡ Some kept) × (type_order.ghosts.cmp kept ty ≡ Equal)
kept_equal ty None e = absurd cc
kept_equal ty (Some kept) e = (kept, refl, e)

module _ (told : SubTypesAreToldApart) (types : List SubType) (ids : List ℕ) (ty : SubType) (ds : List Declared) (is : ds ≡ declared_of ty ∷ []) where
  equal_one : (n : ℕ) → Declares types ids ds n → beside types ty n ≡ Equal
  equal_one n d =
      let e : declared_of d.kept ∷ [] ≡ declared_of ty ∷ [] = d.same ∙ is in
      let f : declared_of d.kept ≡ declared_of ty = cc in
      beside_kept types ty d.kept n d.stored ∙ same_tied told d.kept ty f

  pub none_missed : Misses (beside types ty) ids → NoneDeclares types ids ds
  none_missed none n d = misses_each (beside types ty) ids n none d.among (equal_one n d)

  one_found : (n : ℕ) → Finds (beside types ty) ids n → Declares types ids ds n
  one_found n w =
      let k = kept_equal ty (slice_get types n) w.equal in
      record { kept = k.0; among = w.among; stored = k.1; same = ap (λ (d : Declared). d ∷ []) (tied_same told k.0 ty k.2) ∙ sym is }

  pub missed_none : NoneDeclares types ids ds → Misses (beside types ty) ids
  missed_none none = misses_all (beside types ty) ids (λ n has e. none n (one_found n (record { among = has; equal = e })))

  pub found_one : (o : Option ℕ) → MatchOption o (Misses (beside types ty) ids) (λ n. Finds (beside types ty) ids n)
      → MatchOption o (NoneDeclares types ids ds) (λ n. Declares types ids ds n)
  found_one None w = none_missed w
  found_one (Some n) w = one_found n w

-- a list of one item
pub only_item : {A B : Type 0} (f : A → B) (xs : List A) (x : A) → length xs ≡ 1 → x ≡ get_or xs 0 x → map f xs ≡ f x ∷ []
only_item f [] x one is = absurd (omega (arith, one))
only_item f (y ∷ []) x one is = ap (λ z. f z ∷ []) (sym is)
only_item f (y ∷ z ∷ zs) x one is = absurd (omega (arith, one))

-- a group of another count of types is none of them
pub others_none : (types : List SubType) (ids : List ℕ) (ds : List Declared) → (length ds ≡ 1 → ⊥) → NoneDeclares types ids ds
others_none types ids ds apart n d = apart (sym (ap length d.same))

pub ok_so : {A E : Type 0} {P Q : Type 0} (r : Result A E) → (P → Q) → OnOk r P → OnOk r Q
ok_so (Ok x) f p = f p
ok_so (Err e) f p = tt
