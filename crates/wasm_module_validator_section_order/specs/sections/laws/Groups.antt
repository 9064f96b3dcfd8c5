-- Groups that are read of bytes are the groups that these spell over the indices of their module.
use Rattle.std.proofs.Common.{◌≡◌, ◌∙◌, ℕ, zero, suc, ◌≤◌, Bool, true, false, List, [], ◌∷◌, length, map, Option, Some, None, refl, sym, ap}
use Rattle.std.proofs.Common.{subst, arith, inl, inr, rules}
use Rattle.std.specs.Prelude.{◌↔◌}
use Rattle.std.specs.Option.{option_map}
use Rattle.wasm_types.specs.settings.Settings.{Settings}
use Rattle.wasm_types.specs.decoding.Decoder.{Many}
use Rattle.wasm_types.specs.trees.declared.index.UnpackedIndex.{UnpackedIndex}
use Rattle.wasm_types.specs.trees.declared.index.UnpackedIndex.TheVariants.{Module, RecGroup, Id}
use Rattle.wasm_types.specs.trees.Indices.{number_of}
use Rattle.wasm_types.specs.trees.Types.{HeapOf, abstract, concrete, exact, ValueOf, number, ref, StorageOf, i8, i16, value, FieldOf}
use Rattle.wasm_types.specs.trees.Types.{InnerOf, function, array_of, struct_of, continuation}
use Rattle.wasm_types.specs.trees.Types.{SubtypeOf, EntryOf, heap_map, value_map, storage_map, field_map, inner_map, entry_map}
use Rattle.wasm_types.specs.trees.Types.{entry_of_subtype}
use Rattle.wasm_types.specs.trees.Each.{EachOption, EachEntry}
use Rattle.wasm_types.specs.trees.ValidGroup.{Written}
use Rattle.wasm_types.specs.trees.laws.Types.{each_entry, entry_twice, entry_agrees}
use Rattle.wasm_types.specs.declared.sub_type.SubType.{SubType}
use Rattle.wasm_types.specs.declared.rec_group.RecGroup.{RecGroup as Group}
use Rattle.wasm_types.specs.Entries.{Declared, first_of, declared_of, subtypes}
use Rattle.wasm_types.specs.Spells.{SpellsSub, SpellsGroup}
use Rattle.wasm_types.specs.SpellsTypes.{SubValue, GroupValue, sub_value, group_value}
use Rattle.wasm_types.specs.SpellsTypes as read
use Rattle.wasm_types.specs.SpellsLaws.{group_to, group_from}
use Rattle.wasm_types.specs.TreeLaws.{group_read}
use Rattle.wasm_module_validator_canonical_types.specs.Written.{IsModuleIndex, AreModuleIndices, HaveOneSupertype, written_type, written_types}
use Rattle.wasm_module_validator_canonical_types.specs.laws.Statements.{written}
use Rattle.wasm_module_validator_canonical_types.specs.laws.Spelled.{group_read as group_indices}
use Rattle.wasm_module_validator_rules_in_order.specs.rules.Binary.{SpelledGroup, declared_by}
use Rattle.wasm_module_validator_section_order.specs.sections.Kinds.{group_of, group_read as written_group}

-- ---- a map that changes nothing

module _ {R : Type 0} where
  option_stays : (o : Option R) → option_map (λ r. r) o ≡ o
  option_stays None = refl
  option_stays (Some r) = refl

  heap_stays : (h : HeapOf R) → heap_map (λ r. r) h ≡ h
  heap_stays (abstract s a) = refl
  heap_stays (concrete r) = refl
  heap_stays (exact r) = refl

  value_stays : (v : ValueOf R) → value_map (λ r. r) v ≡ v
  value_stays (number n) = refl
  value_stays (ref n h) = ap (ref n) (heap_stays h)

  values_stay : (vs : List (ValueOf R)) → map (value_map (λ r. r)) vs ≡ vs
  values_stay [] = refl
  values_stay (v ∷ vs) = let a = value_stays v in let b = values_stay vs in cc

  storage_stays : (s : StorageOf R) → storage_map (λ r. r) s ≡ s
  storage_stays i8 = refl
  storage_stays i16 = refl
  storage_stays (value v) = ap value (value_stays v)

  field_stays : (x : FieldOf R) → field_map (λ r. r) x ≡ x
  field_stays x = λ i. record { storage = storage_stays x.storage i; mutable = x.mutable }

  fields_stay : (xs : List (FieldOf R)) → map (field_map (λ r. r)) xs ≡ xs
  fields_stay [] = refl
  fields_stay (x ∷ xs) = let a = field_stays x in let b = fields_stay xs in cc

  inner_stays : (x : InnerOf R) → inner_map (λ r. r) x ≡ x
  inner_stays (function ps rs) = let a = values_stay ps in let b = values_stay rs in cc
  inner_stays (array_of x) = ap array_of (field_stays x)
  inner_stays (struct_of xs) = ap struct_of (fields_stay xs)
  inner_stays (continuation r) = refl

  entry_stays : (x : EntryOf R) → entry_map (λ r. r) x ≡ x
  entry_stays x = λ i. record {
    is_final = x.is_final;
    supertype = option_stays x.supertype i;
    shared = x.shared;
    descriptor = option_stays x.descriptor i;
    describes = option_stays x.describes i;
    inner = inner_stays x.inner i;
  }

-- ---- indices of a module and their numbers

index_back : (i : UnpackedIndex) → IsModuleIndex i → Module (number_of i) ≡ i
index_back (Module n) m = refl
index_back (RecGroup p) m = absurd m
index_back (Id j) m = absurd m

entry_back : (x : EntryOf UnpackedIndex) → EachEntry IsModuleIndex x → entry_map Module (entry_map number_of x) ≡ x
entry_back x m = entry_twice Module number_of x
    ∙ (entry_agrees (λ i. Module (number_of i)) (λ i. i) x (each_entry IsModuleIndex (λ i. Module (number_of i) ≡ i) index_back x m)
    ∙ entry_stays x)

entry_forth : (x : EntryOf ℕ) → entry_map number_of (entry_map Module x) ≡ x
entry_forth x = entry_twice number_of Module x ∙ entry_stays x

numbers_forth : (ns : List ℕ) → map number_of (map Module ns) ≡ ns
numbers_forth [] = refl
numbers_forth (n ∷ ns) = ap (λ l. n ∷ l) (numbers_forth ns)

-- ---- a type that declares what is written, and the other way round

type_forth : (x : SubtypeOf ℕ) → written_type (declared_by x) ≡ x
type_forth x =
    let e = entry_forth (entry_of_subtype x) in
    λ i. record {
      is_final = x.is_final;
      supertypes = numbers_forth x.supertypes i;
      shared = x.shared;
      descriptor = (e i).descriptor;
      describes = (e i).describes;
      inner = (e i).inner;
    }

types_forth : (xs : List (SubtypeOf ℕ)) → written_types (map declared_by xs) ≡ xs
types_forth [] = refl
types_forth (x ∷ xs) = let a = type_forth x in let b = types_forth xs in cc

-- all that a type declares, of its parts
abbrev declared : List UnpackedIndex → EntryOf UnpackedIndex → Declared
declared is e = record { supertypes = is; entry = e }

type_back : (is : List UnpackedIndex) (x : EntryOf UnpackedIndex) → length is ≤ 1 → x.supertype ≡ first_of is → EachEntry IsModuleIndex x
    → declared_by (written_type (declared is x)) ≡ declared is x
type_back [] x one first m =
    let e = entry_back x m in
    λ i. record {
      supertypes = [];
      entry = record {
        is_final = x.is_final;
        supertype = sym first i;
        shared = x.shared;
        descriptor = (e i).descriptor;
        describes = (e i).describes;
        inner = (e i).inner;
      };
    }
type_back (j ∷ []) x one first m =
    let e = entry_back x m in
    let is : Module (number_of j) ≡ j = index_back j (subst (EachOption IsModuleIndex) first m.supertype) in
    let above : Some (Module (number_of j)) ≡ x.supertype = ap Some is ∙ sym first in
    λ i. record {
      supertypes = is i ∷ [];
      entry = record {
        is_final = x.is_final;
        supertype = above i;
        shared = x.shared;
        descriptor = (e i).descriptor;
        describes = (e i).describes;
        inner = (e i).inner;
      };
    }
type_back (i ∷ j ∷ is) x one first m = absurd (omega (arith, one))

types_back : (ds : List Declared) → AreModuleIndices ds → HaveOneSupertype ds → map declared_by (written_types ds) ≡ ds
types_back [] m s = refl
types_back (d ∷ ds) m s =
    let a = type_back d.supertypes d.entry s.0 s.1 m.0 in
    let b = types_back ds m.1 s.2 in
    cc

-- ---- a type that is spelled has one supertype at most

one_supertype : (z : Settings) (d : Declared) (text : List ℕ) → SpellsSub z d text
    → (length d.supertypes ≤ 1) × (d.entry.supertype ≡ first_of d.supertypes)
one_supertype z d text (inl h) = (omega (arith, ap length h.alone), h.none ∙ sym (ap first_of h.alone))
one_supertype z d text (inr h) = (h.above.within, h.first)

one_each : (z : Settings) (n : ℕ) (ds : List Declared) (text : List ℕ) → Many (SpellsSub z) n ds text → HaveOneSupertype ds
one_each z zero [] text h = tt
one_each z zero (d ∷ ds) text h = absurd h
one_each z (suc n) [] text h = absurd h
one_each z (suc n) (d ∷ ds) text h = let o = one_supertype z d h.0 h.2 in (o.0, o.1, one_each z n ds h.1 h.3)

one_in_group : (z : Settings) (explicit : Bool) (ds : List Declared) (text : List ℕ) → SpellsGroup z explicit ds text → HaveOneSupertype ds
one_in_group z false ds text h = let o = one_supertype z h.0 text h.2 in subst HaveOneSupertype (sym h.1) (o.0, o.1, tt)
one_in_group z true ds text h = let l = h.2.listed in one_each z (length ds) ds l.values l.each

-- ---- groups

-- bytes that give a value spell the group that it is
value_spelled : (z : Settings) (v : GroupValue) (text : List ℕ) → read.SpelledGroup z v text → SpelledGroup z (group_of v) text
value_spelled z v text h =
    let ds = map read.declared_by v.types in
    let tree = group_to z v text h in
    let back = types_back ds (group_indices z v.is_explicit ds text tree) (one_in_group z v.is_explicit ds text tree) in
    subst (λ (es : List Declared). SpellsGroup z v.is_explicit es text) (sym back) tree

-- and bytes that spell a group give a value that is this group
abbrev IsGiven : Settings → Written → List ℕ → Type 0
IsGiven z g text = (v : GroupValue) × (group_of v ≡ g) × read.SpelledGroup z v text

spelled_value : (z : Settings) (g : Written) (text : List ℕ) → SpelledGroup z g text → IsGiven z g text
spelled_value z g text h =
    let v = group_read z g.is_explicit (map declared_by g.types) text h in
    let types : written_types (map read.declared_by v.0.types) ≡ g.types = ap written_types v.2 ∙ types_forth g.types in
    let explicit = v.1 in
    let there = subst (λ (e : Bool). SpellsGroup z e (map read.declared_by v.0.types) text) (sym explicit)
    (subst (λ (es : List Declared). SpellsGroup z g.is_explicit es text) (sym v.2) h) in
    (v.0, (λ i. record { is_explicit = explicit i; types = types i }), group_from z v.0 text there)

pub groups_given : (z : Settings) (g : Written) (text : List ℕ) → IsGiven z g text ↔ SpelledGroup z g text
groups_given z g text = (λ h. subst (λ (w : Written). SpelledGroup z w text) h.1 (value_spelled z h.0 text h.2), spelled_value z g text)

-- a group of the code is the group of its value
values_declare : (xs : List SubType) → map read.declared_by (map sub_value xs) ≡ map declared_of xs
values_declare [] = refl
values_declare (x ∷ xs) =
    let a : read.declared_by (sub_value x) ≡ declared_of x = search rules in
    let b = values_declare xs in
    cc

pub group_is_of_value : (g : Group) → written_group g ≡ group_of (group_value g)
group_is_of_value g = ap (written g.is_explicit) (sym (values_declare (subtypes g)))

-- groups whose values are the same are the same groups
pub groups_alike : (g h : Group) → group_value g ≡ group_value h → written_group g ≡ written_group h
groups_alike g h e = group_is_of_value g ∙ (ap group_of e ∙ sym (group_is_of_value h))
