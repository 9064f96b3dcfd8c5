-- What a list stores over ids, rolled up, gives its groups back.
use Rattle.std.proofs.Common.{◌≡◌, ◌∙◌, ℕ, suc, ◌+◌, ◌-◌, ◌≤◌, Bool, List, [], ◌∷◌, ◌++◌, length, map, take, drop, reverse, refl, ap, sym, subst, Option, Some, None, arith}
use Rattle.std.proofs.lemmas.Bool.{lt-ltb, le-ltb}
use Rattle.std.proofs.lemmas.List.{append-nil, append_assoc, length-map, reverse-append, reverse-reverse, take_at, drop_at}
use Rattle.std.specs.Option.{option_map}
use Rattle.wasm_types.specs.trees.declared.index.UnpackedIndex.{UnpackedIndex}
use Rattle.wasm_types.specs.trees.declared.index.UnpackedIndex.TheVariants.{Module, RecGroup, Id}
use Rattle.wasm_types.specs.trees.Types.{HeapOf, abstract, concrete, exact, ValueOf, number, ref, StorageOf, i8, i16, value, FieldOf, InnerOf, function, array_of, struct_of, continuation, EntryOf}
use Rattle.wasm_types.specs.trees.Types.{heap_map, value_map, storage_map, field_map, inner_map, entry_map}
use Rattle.wasm_types.specs.trees.Each.{EachOption}
use Rattle.wasm_types.specs.trees.laws.Types.{each_entry, entry_agrees, entry_twice}
use Rattle.wasm_types.specs.Entries.{Declared, declared_of, first_of}
use Rattle.wasm_types.specs.Remap.{declared_map}
use Rattle.wasm_module_validator_type_storage.specs.trees.Groups.{Group, count, group_ranges, by_id, declared_by_id}
use Rattle.wasm_module_validator_type_storage.specs.trees.Formed.{IsIndexWithin, IsTypeFormed, AreTypesFormed, IsFormed}
use Rattle.wasm_module_validator_type_storage.specs.trees.laws.Ids.{stored_push, length_stored}
use Rattle.wasm_module_validator_type_list.specs.declared.lists.Lists.{Lists}
use Rattle.wasm_module_validator_type_list.specs.declared.known.Known.{Known}
use Rattle.wasm_module_validator_type_list.specs.Rolled.{rolled, rolled_group, rolled_groups, forms}
use Rattle.wasm_module_validator_type_list.specs.List.{groups_in, IsTypeList}
use Rattle.wasm_module_validator_type_list.proofs.Parts.{ranges_push, length_ranges, forms_push, length_forms}

-- ---- each reference kept as it is

module _ {R : Type 0} where
  option_kept : (o : Option R) → option_map (λ r. r) o ≡ o
  option_kept None = refl
  option_kept (Some r) = refl

  heap_kept : (x : HeapOf R) → heap_map (λ r. r) x ≡ x
  heap_kept (abstract s a) = refl
  heap_kept (concrete r) = refl
  heap_kept (exact r) = refl

  value_kept : (v : ValueOf R) → value_map (λ r. r) v ≡ v
  value_kept (number n) = refl
  value_kept (ref n x) = ap (ref n) (heap_kept x)

  values_kept : (vs : List (ValueOf R)) → map (value_map (λ r. r)) vs ≡ vs
  values_kept [] = refl
  values_kept (v ∷ vs) = let a = value_kept v in let b = values_kept vs in cc

  storage_kept : (s : StorageOf R) → storage_map (λ r. r) s ≡ s
  storage_kept i8 = refl
  storage_kept i16 = refl
  storage_kept (value v) = ap value (value_kept v)

  field_kept : (x : FieldOf R) → field_map (λ r. r) x ≡ x
  field_kept x = λ i. record { storage = storage_kept x.storage i; mutable = x.mutable }

  fields_kept : (xs : List (FieldOf R)) → map (field_map (λ r. r)) xs ≡ xs
  fields_kept [] = refl
  fields_kept (x ∷ xs) = let a = field_kept x in let b = fields_kept xs in cc

  inner_kept : (x : InnerOf R) → inner_map (λ r. r) x ≡ x
  inner_kept (function ps rs) = let a = values_kept ps in let b = values_kept rs in cc
  inner_kept (array_of x) = ap array_of (field_kept x)
  inner_kept (struct_of xs) = ap struct_of (fields_kept xs)
  inner_kept (continuation r) = refl

  entry_kept : (x : EntryOf R) → entry_map (λ r. r) x ≡ x
  entry_kept x = λ i. record {
    is_final = x.is_final;
    supertype = option_kept x.supertype i;
    shared = x.shared;
    descriptor = option_kept x.descriptor i;
    describes = option_kept x.describes i;
    inner = inner_kept x.inner i;
  }

-- ---- an index as an id, and back

module _ (canonical : Bool) (start places : ℕ) where
  index_back : (i : UnpackedIndex) → IsIndexWithin canonical start places i → rolled start (by_id start i) ≡ i
  index_back (Module n) w = refl
  index_back (RecGroup p) w = rw (le-ltb (start + p) start (omega arith)) (ap RecGroup (omega arith))
  index_back (Id i) w = rw (lt-ltb i.0 start w) refl

  supertypes_back : (o : Option UnpackedIndex) (is : List UnpackedIndex) → length is ≤ 1 → o ≡ first_of is → EachOption (IsIndexWithin canonical start places) o
      → map (rolled start) (map (by_id start) is) ≡ is
  supertypes_back o [] one e w = refl
  supertypes_back o (i ∷ []) one e w =
      let v : IsIndexWithin canonical start places i = subst (EachOption (IsIndexWithin canonical start places)) e w in
      let a = index_back i v in
      cc
  supertypes_back o (i ∷ j ∷ is) one e w = absurd (omega arith)

  type_back : (own : ℕ) (d : Declared) → IsTypeFormed canonical start places own d → declared_map (rolled start) (declared_map (by_id start) d) ≡ d
  type_back own d w =
      let a : entry_map (rolled start) (entry_map (by_id start) d.entry) ≡ d.entry =
      entry_twice (rolled start) (by_id start) d.entry
      ∙ entry_agrees (λ i. rolled start (by_id start i)) (λ i. i) d.entry
      (each_entry (IsIndexWithin canonical start places) (λ i. rolled start (by_id start i) ≡ i) index_back d.entry w.within)
      ∙ entry_kept d.entry in
      let b = supertypes_back d.entry.supertype d.supertypes w.one w.first w.within.supertype in
      λ i. record { supertypes = b i; entry = a i }

  types_back : (own : ℕ) (ds : List Declared) → AreTypesFormed canonical start places own ds → map (declared_map (rolled start)) (map (declared_map (by_id start)) ds) ≡ ds
  types_back own [] w = refl
  types_back own (d ∷ ds) w = let a = type_back own d w.0 in let b = types_back (suc own) ds w.1 in cc

-- ---- groups, one more at the end

rolled_append : (types : List Declared) (cs : List Bool) (rs : List (ℕ × ℕ)) (c : Bool) (r : ℕ × ℕ) → length cs ≡ length rs
    → rolled_groups types (cs ++ c ∷ []) (rs ++ r ∷ []) ≡ rolled_groups types cs rs ++ rolled_group types c r ∷ []
rolled_append types [] [] c r e = refl
rolled_append types [] (q ∷ rs) c r e = absurd (omega (arith, e))
rolled_append types (b ∷ cs) [] c r e = absurd (omega (arith, e))
rolled_append types (b ∷ cs) (q ∷ rs) c r e = ap (λ l. rolled_group types b q ∷ l) (rolled_append types cs rs c r (omega (arith, e)))

-- the types of the last group are cut out
last_rolled : (g : Group) (earlier : List Group) (more : List Declared) → AreTypesFormed g.is_canonical (count earlier) (length g.types) 0 g.types
    → rolled_group (declared_by_id earlier ++ (map (declared_map (by_id (count earlier))) g.types ++ more)) g.is_canonical (count earlier, count earlier + length g.types) ≡ g
last_rolled g earlier more formed =
    let own : List Declared = map (declared_map (by_id (count earlier))) g.types in
    let size : count earlier + length g.types - count earlier ≡ length g.types = omega arith in
    let cut : take (count earlier + length g.types - count earlier) (drop (count earlier) (declared_by_id earlier ++ (own ++ more))) ≡ own =
    ap (λ (n : ℕ). take n (drop (count earlier) (declared_by_id earlier ++ (own ++ more)))) size
    ∙ ap (take (length g.types)) (drop_at (declared_by_id earlier) (own ++ more) (count earlier) (length_stored earlier))
    ∙ take_at own more (length g.types) (length-map g.types (declared_map (by_id (count earlier)))) in
    let types = ap (map (declared_map (rolled (count earlier)))) cut ∙ types_back g.is_canonical (count earlier) (length g.types) 0 g.types formed in
    λ i. record { is_canonical = g.is_canonical; types = types i }

recovered : (groups : List Group) → IsFormed groups → (more : List Declared) → rolled_groups (declared_by_id groups ++ more) (forms groups) (group_ranges groups) ≡ reverse groups
unfolding forms group_ranges declared_by_id
recovered [] formed more = refl
recovered (g ∷ earlier) formed more =
    let own : List Declared = map (declared_map (by_id (count earlier))) g.types in
    let r : ℕ × ℕ = (count earlier, count earlier + length g.types) in
    let T : List Declared = declared_by_id earlier ++ (own ++ more) in
    let all : declared_by_id (g ∷ earlier) ++ more ≡ T = ap (λ l. l ++ more) (stored_push g earlier) ∙ append_assoc (declared_by_id earlier) own more in
    ap (λ (l : List Declared). rolled_groups l (forms (g ∷ earlier)) (group_ranges (g ∷ earlier))) all
    ∙ ap (λ (l : List Bool). rolled_groups T l (group_ranges (g ∷ earlier))) (forms_push g earlier)
    ∙ ap (λ (l : List (ℕ × ℕ)). rolled_groups T (forms earlier ++ g.is_canonical ∷ []) l) (ranges_push g earlier)
    ∙ rolled_append T (forms earlier) (group_ranges earlier) g.is_canonical r (length_forms earlier ∙ sym (length_ranges earlier))
    ∙ ap (λ l. l ++ rolled_group T g.is_canonical r ∷ []) (recovered earlier formed.2 (own ++ more))
    ∙ ap (λ (h : Group). reverse earlier ++ h ∷ []) (last_rolled g earlier more formed.0)
    ∙ sym (reverse-append (g ∷ []) earlier)

-- lists that store these groups give them back
pub lists_give : (groups : List Group) (lists : Lists) (known : Option Known) → IsTypeList groups lists known → groups_in lists ≡ groups
unfolding groups_in
lists_give groups lists known is =
    let a : map declared_of lists.types.items ≡ declared_by_id groups ++ [] = is.types ∙ sym (append-nil (declared_by_id groups)) in
    ap reverse
    (ap (λ (l : List Declared). rolled_groups l lists.forms.items (map (λ r. (r.start.0, r.end.0)) lists.elements.items)) a
    ∙ ap (λ (l : List Bool). rolled_groups (declared_by_id groups ++ []) l (map (λ r. (r.start.0, r.end.0)) lists.elements.items)) is.forms
    ∙ ap (λ (l : List (ℕ × ℕ)). rolled_groups (declared_by_id groups ++ []) (forms groups) l) is.elements
    ∙ recovered groups is.formed [])
    ∙ reverse-reverse groups
