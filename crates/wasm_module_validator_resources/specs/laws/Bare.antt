-- What holds of types without references.
use Rattle.std.proofs.Common.{◌≡◌, ℕ, Bool, true, false, ◌&&◌, IsTrue, List, [], ◌∷◌, map, Option, Some, None, refl}
use Rattle.std.specs.Option.{option_map}
use Rattle.wasm_types.specs.trees.Types.{abstract, concrete, exact, ValueOf, number, ref, InnerOf, function, array_of, struct_of, continuation, EntryOf, value_map, inner_map, entry_map}
use Rattle.wasm_types.specs.trees.Each.{EachOption, EachValue, EachValues, EachInner, EachEntry}
use Rattle.wasm_module_validator_type_groups.proofs.Plain.{IsPlainPart, ArePlainParts, IsPlainInner, IsPlain}
use Rattle.wasm_module_validator_resources.specs.Bare.{option_is_bare, value_is_bare, values_are_bare, inner_is_bare, is_bare}

pub no_truth : IsTrue false → ⊥
no_truth e = cc

first_of_both : (a b : Bool) → IsTrue (a && b) → IsTrue a
first_of_both true b h = refl
first_of_both false b h = absurd (no_truth h)

second_of_both : (a b : Bool) → IsTrue (a && b) → IsTrue b
second_of_both true b h = h
second_of_both false b h = absurd (no_truth h)

both : (a b : Bool) → IsTrue a → IsTrue b → IsTrue (a && b)
both true b h w = w
both false b h w = absurd (no_truth h)

-- ---- through a map

module _ {R S : Type 0} (f : R → S) where
  option_mapped : (o : Option R) → option_is_bare (option_map f o) ≡ option_is_bare o
  option_mapped None = refl
  option_mapped (Some r) = refl

  value_mapped : (v : ValueOf R) → value_is_bare (value_map f v) ≡ value_is_bare v
  value_mapped (number n) = refl
  value_mapped (ref n (abstract s a)) = refl
  value_mapped (ref n (concrete r)) = refl
  value_mapped (ref n (exact r)) = refl

  values_mapped : (vs : List (ValueOf R)) → values_are_bare (map (value_map f) vs) ≡ values_are_bare vs
  values_mapped [] = refl
  values_mapped (v ∷ vs) = let a = value_mapped v in let b = values_mapped vs in cc

  inner_mapped : (x : InnerOf R) → inner_is_bare (inner_map f x) ≡ inner_is_bare x
  inner_mapped (function ps rs) = let a = values_mapped ps in let b = values_mapped rs in cc
  inner_mapped (array_of x) = refl
  inner_mapped (struct_of xs) = refl
  inner_mapped (continuation r) = refl

  pub bare_mapped : (x : EntryOf R) → is_bare (entry_map f x) ≡ is_bare x
  bare_mapped x =
      let a = option_mapped x.supertype in
      let b = option_mapped x.descriptor in
      let c = option_mapped x.describes in
      let d = inner_mapped x.inner in
      cc

-- ---- any fact holds of each reference

module _ {R : Type 0} (P : R → Type 0) where
  each_option : (o : Option R) → IsTrue (option_is_bare o) → EachOption P o
  each_option None h = tt
  each_option (Some r) h = absurd (no_truth h)

  each_value : (v : ValueOf R) → IsTrue (value_is_bare v) → EachValue P v
  each_value (number n) h = tt
  each_value (ref n (abstract s a)) h = tt
  each_value (ref n (concrete r)) h = absurd (no_truth h)
  each_value (ref n (exact r)) h = absurd (no_truth h)

  each_values : (vs : List (ValueOf R)) → IsTrue (values_are_bare vs) → EachValues P vs
  each_values [] h = tt
  each_values (v ∷ vs) h = (each_value v (first_of_both (value_is_bare v) (values_are_bare vs) h), each_values vs (second_of_both (value_is_bare v) (values_are_bare vs) h))

  each_inner : (x : InnerOf R) → IsTrue (inner_is_bare x) → EachInner P x
  each_inner (function ps rs) h =
      (each_values ps (first_of_both (values_are_bare ps) (values_are_bare rs) h), each_values rs (second_of_both (values_are_bare ps) (values_are_bare rs) h))
  each_inner (array_of x) h = absurd (no_truth h)
  each_inner (struct_of xs) h = absurd (no_truth h)
  each_inner (continuation r) h = absurd (no_truth h)

  pub each_bare : (x : EntryOf R) → IsTrue (is_bare x) → EachEntry P x
  each_bare x h =
      let one = second_of_both _ _ h in
      let two = second_of_both _ _ one in record {
        supertype = each_option x.supertype (first_of_both _ _ h);
        descriptor = each_option x.descriptor (first_of_both _ _ one);
        describes = each_option x.describes (first_of_both _ _ two);
        inner = each_inner x.inner (second_of_both _ _ two);
      }

none_is : {R : Type 0} (o : Option R) → IsTrue (option_is_bare o) → o ≡ None
none_is None h = refl
none_is (Some r) h = absurd (no_truth h)

-- it has no supertype
pub bare_top : {R : Type 0} (x : EntryOf R) → IsTrue (is_bare x) → x.supertype ≡ None
bare_top x h = none_is x.supertype (first_of_both _ _ h)

-- ---- plain types are so

option_bare : {R : Type 0} (o : Option R) → o ≡ None → IsTrue (option_is_bare o)
option_bare None e = refl
option_bare (Some r) e = cc

part_bare : {R : Type 0} (bits : ℕ) (s : Bool) (v : ValueOf R) → IsPlainPart bits s v → IsTrue (value_is_bare v)
part_bare bits s (number n) h = refl
part_bare bits s (ref n (abstract t a)) h = refl
part_bare bits s (ref n (concrete r)) h = absurd h.2
part_bare bits s (ref n (exact r)) h = absurd h.2

parts_bare : {R : Type 0} (bits : ℕ) (s : Bool) (vs : List (ValueOf R)) → ArePlainParts bits s vs → IsTrue (values_are_bare vs)
parts_bare bits s [] h = refl
parts_bare bits s (v ∷ vs) h = both (value_is_bare v) (values_are_bare vs) (part_bare bits s v h.0) (parts_bare bits s vs h.1)

plain_inner_bare : {R : Type 0} (bits : ℕ) (s : Bool) (x : InnerOf R) → IsPlainInner bits s x → IsTrue (inner_is_bare x)
plain_inner_bare bits s (function ps rs) h = both (values_are_bare ps) (values_are_bare rs) (parts_bare bits s ps h.0) (parts_bare bits s rs h.1)
plain_inner_bare bits s (array_of x) h = absurd h
plain_inner_bare bits s (struct_of xs) h = absurd h
plain_inner_bare bits s (continuation r) h = absurd h

pub plain_bare : {R : Type 0} (bits : ℕ) (x : EntryOf R) → IsPlain bits x → IsTrue (is_bare x)
plain_bare bits x h =
    both (option_is_bare x.supertype) _ (option_bare x.supertype h.top)
    (both (option_is_bare x.descriptor) _ (option_bare x.descriptor h.undescribed)
    (both (option_is_bare x.describes) _ (option_bare x.describes h.describes)
    (plain_inner_bare bits x.shared x.inner h.inner)))
