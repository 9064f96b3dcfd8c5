-- Groups whose indices a total function replaces.
use Rattle.std.proofs.Common.{◌≡◌, ◌∙◌, List, [], ◌∷◌, ◌++◌, length, map, refl, ap, sym, Option, Some, None, Result, Ok, Err, arith}
use Rattle.std.specs.List.{flat_map}
use Rattle.std.specs.Option.{option_map}
use Rattle.std.proofs.lemmas.List.{length-append, length-map, map-append}
use Rattle.wasm_types.specs.trees.declared.index.UnpackedIndex.{UnpackedIndex}
use Rattle.wasm_types.specs.trees.Types.{HeapOf, abstract, concrete, exact, ValueOf, number, ref, StorageOf, i8, i16, value, FieldOf, InnerOf}
use Rattle.wasm_types.specs.trees.Types.{function, array_of, struct_of, continuation, EntryOf, heap_map, value_map, storage_map, field_map, inner_map, entry_map}
use Rattle.wasm_types.specs.values.Remap.{AreAnswered, IsWalked, Remapped, heap_indices, value_indices, storage_indices}
use Rattle.wasm_types.specs.fields.Remap.{field_indices, inner_indices}
use Rattle.wasm_types.specs.declared.sub_type.SubType.{SubType}
use Rattle.wasm_types.specs.Entries.{Declared, DeclaredOf, declared_of, composite_of}
use Rattle.wasm_types.specs.Remap.{option_indices, entry_indices, declared_indices, declared_shape, declared_map}
use Rattle.wasm_types.specs.IndexLaws.{mapped_declared}

-- ---- a map keeps how many indices there are

module _ {R S : Type 0} (f : R → S) where
  heap_count : (h : HeapOf R) → length (heap_indices (heap_map f h)) ≡ length (heap_indices h)
  heap_count (abstract s a) = refl
  heap_count (concrete r) = refl
  heap_count (exact r) = refl

  value_count : (v : ValueOf R) → length (value_indices (value_map f v)) ≡ length (value_indices v)
  value_count (number n) = refl
  value_count (ref n h) = heap_count h

  values_count : (vs : List (ValueOf R)) → length (flat_map value_indices (map (value_map f) vs)) ≡ length (flat_map value_indices vs)
  values_count [] = refl
  values_count (v ∷ vs) =
      length-append (value_indices (value_map f v)) (flat_map value_indices (map (value_map f) vs))
      ∙ omega (arith, value_count v, values_count vs, length-append (value_indices v) (flat_map value_indices vs))

  storage_count : (x : StorageOf R) → length (storage_indices (storage_map f x)) ≡ length (storage_indices x)
  storage_count i8 = refl
  storage_count i16 = refl
  storage_count (value v) = value_count v

  fields_count : (xs : List (FieldOf R)) → length (flat_map field_indices (map (field_map f) xs)) ≡ length (flat_map field_indices xs)
  fields_count [] = refl
  fields_count (x ∷ xs) =
      length-append (field_indices (field_map f x)) (flat_map field_indices (map (field_map f) xs))
      ∙ omega (arith, storage_count x.storage, fields_count xs, length-append (field_indices x) (flat_map field_indices xs))

  inner_count : (x : InnerOf R) → length (inner_indices (inner_map f x)) ≡ length (inner_indices x)
  inner_count (function ps rs) =
      length-append (flat_map value_indices (map (value_map f) ps)) (flat_map value_indices (map (value_map f) rs))
      ∙ omega (arith, values_count ps, values_count rs, length-append (flat_map value_indices ps) (flat_map value_indices rs))
  inner_count (array_of x) = storage_count x.storage
  inner_count (struct_of xs) = fields_count xs
  inner_count (continuation r) = refl

  option_count : (o : Option R) → length (option_indices (option_map f o)) ≡ length (option_indices o)
  option_count None = refl
  option_count (Some r) = refl

  entry_count : (x : EntryOf R) → length (entry_indices (entry_map f x)) ≡ length (entry_indices x)
  entry_count x =
      length-append (inner_indices (inner_map f x.inner)) (option_indices (option_map f x.descriptor) ++ option_indices (option_map f x.describes))
      ∙ omega (
        arith,
        inner_count x.inner,
        option_count x.descriptor,
        option_count x.describes,
        length-append (option_indices (option_map f x.descriptor)) (option_indices (option_map f x.describes)),
        length-append (inner_indices x.inner) (option_indices x.descriptor ++ option_indices x.describes),
        length-append (option_indices x.descriptor) (option_indices x.describes),
      )

  declared_count : (d : DeclaredOf R) → length (declared_indices (declared_map f d)) ≡ length (declared_indices d)
  declared_count d =
      length-append (map f d.supertypes) (entry_indices (entry_map f d.entry))
      ∙ omega (arith, length-map d.supertypes f, entry_count d.entry, length-append d.supertypes (entry_indices d.entry))

-- types of one shape have as many indices
same_count : (d e : Declared) → declared_shape e ≡ declared_shape d → length (declared_indices e) ≡ length (declared_indices d)
same_count d e same = sym (declared_count (λ i. tt {0}) e) ∙ ap (λ (s : DeclaredOf (Unit {0})). length (declared_indices s)) same ∙ declared_count (λ i. tt {0}) d

-- ---- parts of the same length

parted : {R : Type 0} (xs bs cs ds : List R) → length xs ≡ length bs → xs ++ cs ≡ bs ++ ds → (xs ≡ bs) × (cs ≡ ds)
parted [] [] cs ds l e = (refl, e)
parted [] (b ∷ bs) cs ds l e = absurd (omega arith)
parted (a ∷ xs) [] cs ds l e = absurd (omega arith)
parted (a ∷ xs) (b ∷ bs) cs ds l e =
    let f : xs ++ cs ≡ bs ++ ds = cc in
    let rest = parted xs bs cs ds (omega arith) f in
    ((let h = rest.0 in cc), rest.1)

-- ---- all indices, one after the other

module _ {R E : Type 0} (answers : R → Result R E → Type 0) (m : R → R) (only : (i : R) (r : Result R E) → answers i r → r ≡ Ok (m i)) where
  all_answered : (before after : List R) → AreAnswered answers before after → after ≡ map m before
  all_answered [] [] w = refl
  all_answered [] (j ∷ after) w = absurd w
  all_answered (i ∷ before) [] w = absurd w
  all_answered (i ∷ before) (j ∷ after) w =
      let a : Ok j ≡ Ok (m i) = only i (Ok j) w.0 in
      let b = all_answered before after w.1 in
      cc

  all_walked : {U : Type 0} (result : Result U E) (before after : List R) → IsWalked answers result before after → after ≡ map m before
  all_walked (Ok u) before after w = all_answered before after w
  all_walked (Err e) before after w = let a : Err e ≡ Ok (m w.refused) = only w.refused (Err e) w.refusal in absurd cc

module _ (m : UnpackedIndex → UnpackedIndex) where
  types_mapped : (xs ys : List SubType) → map declared_shape (map declared_of ys) ≡ map declared_shape (map declared_of xs)
      → flat_map declared_indices (map declared_of ys) ≡ map m (flat_map declared_indices (map declared_of xs))
      → map declared_of ys ≡ map (declared_map m) (map declared_of xs)
  types_mapped [] [] s e = refl
  types_mapped [] (y ∷ ys) s e = absurd cc
  types_mapped (x ∷ xs) [] s e = absurd cc
  types_mapped (x ∷ xs) (y ∷ ys) s e =
      let s1 : declared_shape (declared_of y) ≡ declared_shape (declared_of x) = cc in
      let s2 : map declared_shape (map declared_of ys) ≡ map declared_shape (map declared_of xs) = cc in
      let parts = parted (declared_indices (declared_of y)) (map m (declared_indices (declared_of x))) (flat_map declared_indices (map declared_of ys))
      (map m (flat_map declared_indices (map declared_of xs)))
      (same_count (declared_of x) (declared_of y) s1 ∙ sym (length-map (declared_indices (declared_of x)) m))
      (e ∙ map-append m (declared_indices (declared_of x)) (flat_map declared_indices (map declared_of xs))) in
      let first = mapped_declared m x.is_final y.is_final x.supertype_idxs.items y.supertype_idxs.items (composite_of x.composite_type) (composite_of y.composite_type) s1 parts.0 in
      let rest = types_mapped xs ys s2 parts.1 in
      cc

  -- a group whose indices m replaces
  pub group_mapped : {E U : Type 0} (answers : UnpackedIndex → Result UnpackedIndex E → Type 0) (result : Result U E) (xs ys : List SubType)
      → Remapped (map declared_shape) (flat_map declared_indices) answers result (map declared_of xs) (map declared_of ys)
      → ((i : UnpackedIndex) (r : Result UnpackedIndex E) → answers i r → r ≡ Ok (m i))
      → map declared_of ys ≡ map (declared_map m) (map declared_of xs)
  group_mapped answers result xs ys w only =
      types_mapped xs ys w.same (all_walked answers m only result (flat_map declared_indices (map declared_of xs)) (flat_map declared_indices (map declared_of ys)) w.walked)
